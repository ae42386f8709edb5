-- A table has one list of kept strategies of each player, and one table over them; want of memory is
-- no reason why there is none.
use Rattle.std.proofs.Common.{ℕ, ◌+◌, ◌*◌, ◌<◌, ◌≡◌, ◌≢◌, inl, inr, Err, List, [], ◌∷◌, length, map, get_or, sum, sym, ap, ap₂, ◌∙◌, subst, arith}
use Rattle.answers.specs.Answers.{◌>>◌, IsSingle, refuse_where, refused_by, such_that}
use Rattle.answers.proofs.AnswerLemmas.{bind-single, refuse_where-single, refused_by-single, such_that-single}
use Rattle.rational.specs.Rational.{zero_ℚ}
use Rattle.game_theory.specs.Profiles.{profile_count}
use Rattle.game_core.specs.Table.{GameTable, game_of, strategy_counts}
use Rattle.game_core.specs.Limits.{within}
use Rattle.game_core.specs.declared.too_large.What.TheVariants as what
use Rattle.game_core.proofs.TableCountLemmas.{length-strategy_counts}
use Rattle.extreme_equilibria.specs.KeptTable.{kept_table}
use Rattle.extreme_equilibria.proofs.KeptListLemmas.{one_list}
use Rattle.kept_strategies.specs.Kept.{KeptForm, IsKeptForm, most_strategies, kept_lists, kept_of, kept_names}
use Rattle.kept_strategies.specs.declared.kept_stop.KeptStop.TheVariants as stops
use Rattle.game_core.proofs.SameTableLemmas.{payoffs-same, tables-same}

-- kept strategies with a table
abbrev form : List ℕ → List ℕ → GameTable → KeptForm
form first second table = record { first = first; second = second; table = table }

forms-as : (one other : KeptForm) → one.first ≡ other.first → one.second ≡ other.second → one.table ≡ other.table → one ≡ other
forms-as one other a b c = ap (λ x. form x one.second one.table) a ∙ ap (λ x. form other.first x one.table) b ∙ ap (form other.first other.second) c

-- there is one
forms-same : (t : GameTable) (one other : KeptForm) → IsKeptForm t one → IsKeptForm t other → one ≡ other
forms-same t one other h g =
    let first : one.first ≡ other.first = one_list (game_of t) 0 one.first other.first (h.are_kept.are_kept 0 (omega arith)) (g.are_kept.are_kept 0 (omega arith)) in
    let second : one.second ≡ other.second = one_list (game_of t) 1 one.second other.second (h.are_kept.are_kept 1 (omega arith)) (g.are_kept.are_kept 1 (omega arith)) in
    let lists : kept_lists one ≡ kept_lists other = ap₂ (λ x y. x ∷ y ∷ []) first second in
    let names : one.table.strategies ≡ other.table.strategies = h.names_are ∙ ap (kept_names t.strategies) lists ∙ sym g.names_are in
    let players : one.table.players ≡ other.table.players = h.players_are ∙ sym g.players_are in
    let profiles = profile_count (strategy_counts one.table) in
    let count = length one.table.players in
    let short : length other.table.payoffs ≡ count * profiles = g.is_table.payoffs_of_each ∙ ap₂ (λ n ns. n * profile_count ns) (ap length (sym players)) (ap (map length) (sym names)) in
    let same : (i k : ℕ) → i < count → k < profiles → get_or one.table.payoffs (k * count + i) zero_ℚ ≡ get_or other.table.payoffs (k * count + i) zero_ℚ = λ i k l b.
    let left = h.same_cells.cells i k (omega (arith, length-strategy_counts one.table h.is_table)) b in
    let inside : i < length other.table.players = omega (arith, ap length players) in
    let below : k < profile_count (strategy_counts other.table) = subst (λ ns. k < profile_count (map length ns)) names b in
    let right = g.same_cells.cells i k (omega (arith, inside, length-strategy_counts other.table g.is_table)) below in
    let moved = subst (λ n. get_or other.table.payoffs (k * n + i) zero_ℚ ≡ (kept_table (game_of t) (kept_lists other)).pays i k) (ap length (sym players)) right in
    left ∙ ap (λ x. (kept_table (game_of t) x).pays i k) lists ∙ sym moved in
    forms-as one other first second (tables-same one.table other.table (h.title_is ∙ sym g.title_is) players names (payoffs-same count profiles one.table.payoffs other.table.payoffs h.is_table.payoffs_of_each short same))

-- ---- one answer
pub kept_of-single : (t : GameTable) → IsSingle (kept_of t)
kept_of-single t =
    let limit = within what.Labels most_strategies (sum (strategy_counts t)) in
    bind-single (refuse_where (length t.players ≢ 2) (stops.NotTwoPlayers (length t.players))) (λ _. refused_by stops.TooLarge limit >> such_that (IsKeptForm t)) (refuse_where-single _ _)
    (λ _ _. bind-single (refused_by stops.TooLarge limit) (λ _. such_that (IsKeptForm t)) (refused_by-single stops.TooLarge limit (refuse_where-single _ _))
    (λ _ _. such_that-single (IsKeptForm t) (forms-same t)))

-- ---- want of memory
pub kept_not_memory : (t : GameTable) → kept_of t (Err stops.Memory) → ⊥
kept_not_memory t (inl (_, e)) = cc
kept_not_memory t (inr (_, _, inl (_, _, e))) = cc
kept_not_memory t (inr (_, _, inr (_, _, h))) = h
