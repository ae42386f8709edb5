use Rattle.std.proofs.Common.{ℕ, ◌+◌, ◌*◌, ◌<◌, ◌≡◌, ◌∙◌, All, List, [], ◌∷◌, ◌++◌, length, map, get_or, sym, ap, ap₂, subst, subst₂, refl, arith}
use Rattle.std.proofs.lemmas.Option.{get_or_from_slice_get}
use Rattle.rational.specs.Rational.{zero_ℚ}
use Rattle.extreme_equilibria.specs.KeptTable.{kept_table}
use Rattle.game_core.specs.Table.{GameTable, IsTable, game_of}
use Rattle.kept_strategies.specs.Kept.{IsKeptForm}
use Rattle.game_core.proofs.TableCountLemmas.{strategy_count-names}
use Rattle.game_core.proofs.SameTableLemmas.{tables-same}
use Rattle.kept_strategies.proofs.EliminationLemmas.{kept-all}
use Rattle.kept_strategies.proofs.KeptFormLemmas.{made_table, made-is_table, made-is_form, names-two, few-kept}
use Rattle.kept_strategies.proofs.kept.kept_form.Goals as goal
use Rattle.kept_strategies.proofs.kept.kept_form.Goals.{In_ok-push-2}

pub names_at-requires : goal.names_at-requires
names_at-requires c =
    subst (λ n. All (λ s. s < n) c.deref.result.now) (strategy_count-names c.args.table.now 0 c.strategies.result.now c.strategies.ensures.strategies) (kept-all c.args.table.now 0 c.args.first.items c.deref.result.now (c.requires.kept.are_kept 0 (omega arith)) c.deref.ensures.value)

pub names_at-requires-2 : goal.names_at-requires-2
names_at-requires-2 c =
    subst (λ n. All (λ s. s < n) c.deref-2.result.now) (strategy_count-names c.args.table.now 1 c.strategies-2.result.now c.strategies-2.ensures.strategies) (kept-all c.args.table.now 1 c.args.second.items c.deref-2.result.now (c.requires.kept.are_kept 1 (omega arith)) c.deref-2.ensures.value)

pub payoffs_at-requires-clause-first : goal.payoffs_at-requires-clause-first
payoffs_at-requires-clause-first c =
    kept-all c.args.table.now 0 c.args.first.items c.deref-3.result.now (c.requires.kept.are_kept 0 (omega arith)) c.deref-3.ensures.value

pub payoffs_at-requires-clause-second : goal.payoffs_at-requires-clause-second
payoffs_at-requires-clause-second c =
    kept-all c.args.table.now 1 c.args.second.items c.deref-4.result.now (c.requires.kept.are_kept 1 (omega arith)) c.deref-4.ensures.value

pub payoffs_at-requires-clause-few : goal.payoffs_at-requires-clause-few
payoffs_at-requires-clause-few c =
    omega (arith, few-kept c.args.table.now c.requires.valid c.requires.two c.requires.few c.args.first.items c.args.second.items c.requires.kept, ap length c.deref-3.ensures.value, ap length c.deref-4.ensures.value)

-- there are two payoffs for each profile
long : (c : In_ok-push-2) → length c.in_ok-payoffs.payoffs.items ≡ length c.args.first.items * length c.args.second.items * 2
long c = (c.in_ok-payoffs.ensures {u = tt}).so_many ∙ ap₂ (λ m n. m * n * 2) (ap length c.deref-3.ensures.value) (ap length c.deref-4.ensures.value)

-- the parts are those of the table over the kept strategies
parts : (c : In_ok-push-2)
    → record { title = c.in_ok-title.title; players = c.in_ok-players.players.items; strategies = map (λ v. v.items) c.push-2.new.self.items; payoffs = c.in_ok-payoffs.payoffs.items } ≡ made_table c.args.table.now c.args.first.items c.args.second.items c.in_ok-payoffs.payoffs.items
parts c =
    let t = c.args.table.now in
    let first : List ℕ = c.args.first.items in
    let second : List ℕ = c.args.second.items in
    let one = (c.in_ok-first_names.ensures {u = tt}) ∙ ap₂ (λ names places. map (λ p. get_or names p []) places) (sym (get_or_from_slice_get t.strategies 0 c.strategies.result.now [] c.strategies.ensures.strategies)) c.deref.ensures.value in
    let two = (c.in_ok-second_names.ensures {u = tt}) ∙ ap₂ (λ names places. map (λ p. get_or names p []) places) (sym (get_or_from_slice_get t.strategies 1 c.strategies-2.result.now [] c.strategies-2.ensures.strategies)) c.deref-2.ensures.value in
    let items = (c.in_ok-push-2.ensures {u = tt}).items ∙ ap (λ xs. xs ++ c.in_ok-second_names.second_names ∷ []) ((c.in_ok-push.ensures {u = tt}).items ∙ ap (λ xs. xs ++ c.in_ok-first_names.first_names ∷ []) (c.in_ok-strategies.ensures {u = tt}).items) in
    let lists = ap (map (λ v. v.items)) items ∙ ap₂ (λ x y. x ∷ y ∷ []) one two ∙ sym (names-two t.strategies first second (c.requires.valid.strategies_of_each ∙ c.requires.two)) in
    tables-same _ _ ((c.in_ok-title.ensures {u = tt}) ∙ c.title.ensures.title) ((c.in_ok-players.ensures {u = tt}) ∙ c.players.ensures.players) lists refl

pub new-table-requires : goal.new-table-requires
new-table-requires c =
    subst IsTable (sym (parts c)) (made-is_table c.args.table.now c.requires.valid c.requires.two c.requires.few c.args.first.items c.args.second.items c.requires.kept c.in_ok-payoffs.payoffs.items (long c))

pub returns : goal.returns
returns c =
    let t = c.args.table.now in
    let d = (goal.at.returns c).In_ok-push-2 in
    let first : List ℕ = c.args.first.items in
    let second : List ℕ = c.args.second.items in
    let payoffs = c.in_ok-payoffs.payoffs.items in
    let cells = subst₂ (λ xs ys. (i k : ℕ) → i < 2 → k < length xs * length ys → get_or payoffs (k * 2 + i) zero_ℚ ≡ (kept_table (game_of t) (xs ∷ ys ∷ [])).pays i k) c.deref-3.ensures.value c.deref-4.ensures.value (c.in_ok-payoffs.ensures {u = tt}).cells in
    subst (λ (x : GameTable). IsKeptForm t (record { first = first; second = second; table = x })) (sym (c.new-table.ensures ∙ parts d)) (made-is_form t c.requires.valid c.requires.two c.requires.few first second c.requires.kept payoffs (long d) cells)
