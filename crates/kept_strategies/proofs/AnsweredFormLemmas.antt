-- A table has its kept strategies with the table over them, or a reason why they are not looked for.
use Rattle.std.proofs.Common.{ℕ, ◌+◌, ◌*◌, ◌/◌, ◌%◌, ◌<◌, ◌≡◌, ◌≢◌, List, [], ◌∷◌, length, map, get_or, sum, sym, ap₂, ◌∙◌, arith}
use Rattle.std.specs.List.{range_with_len}
use Rattle.std.proofs.lemmas.Nat.{div-mul-add, mod-mul-add}
use Rattle.std.proofs.lemmas.List.FromFn.{get_or-map-range_with_len, length-map-range_with_len}
use Rattle.lists.proofs.NumberLemmas.{below_two}
use Rattle.answers.specs.Answers.{◌>>◌, refuse_where, refused_by, such_that}
use Rattle.answers.specs.Answered.{IsAnswered}
use Rattle.answers.proofs.AnsweredLemmas.{bind-answered, such_that-answered, refuse_where-answered, refused_by-answered}
use Rattle.rational.specs.Rational.{ℚ, zero_ℚ}
use Rattle.game_core.specs.Table.{GameTable, IsTable, game_of, strategy_counts}
use Rattle.game_core.specs.Limits.{within}
use Rattle.game_core.specs.declared.too_large.What.TheVariants as what
use Rattle.game_core.proofs.TableCountLemmas.{length-strategy_counts}
use Rattle.extreme_equilibria.specs.Elimination.{AreKept}
use Rattle.extreme_equilibria.specs.KeptTable.{AreKeptLists, kept_table}
use Rattle.extreme_equilibria.proofs.KeptListLemmas.{kept-exist}
use Rattle.kept_strategies.specs.Kept.{KeptForm, IsKeptForm, most_strategies, kept_of}
use Rattle.kept_strategies.specs.declared.kept_stop.KeptStop.TheVariants as stops
use Rattle.kept_strategies.proofs.KeptFormLemmas.{made_table, made-is_form}

-- what the profiles pay both players, one profile after another
abbrev listed_payoffs : (ℕ → ℕ → ℚ) → ℕ → List ℚ
listed_payoffs pays count = map (λ k. pays (k % 2) (k / 2)) (range_with_len 0 (count * 2))

-- the payoff at a profile
listed_payoff : (pays : ℕ → ℕ → ℚ) (count i k : ℕ) → i < 2 → k < count → get_or (listed_payoffs pays count) (k * 2 + i) zero_ℚ ≡ pays i k
listed_payoff pays count i k l b =
    get_or-map-range_with_len (λ k. pays (k % 2) (k / 2)) 0 (count * 2) (k * 2 + i) (k * 2 + i) zero_ℚ (omega arith) (omega arith) ∙ ap₂ pays (mod-mul-add k 2 i l) (div-mul-add k 2 i l)

module _ (t : GameTable) (valid : IsTable t) where
  -- the kept strategies of two players with the table over them
  form_exists : length t.players ≡ 2 → (most_strategies < sum (strategy_counts t) → ⊥) → (kept : KeptForm) × IsKeptForm t kept
  form_exists two few =
      let first = kept-exist (game_of t) 0 (omega arith) in
      let second = kept-exist (game_of t) 1 (omega arith) in
      let kept : AreKeptLists (game_of t) (first.0 ∷ second.0 ∷ []) = record { one_for_each = sym (length-strategy_counts t valid ∙ two); are_kept = λ i l. below_two (λ i. AreKept (game_of t) i (get_or (first.0 ∷ second.0 ∷ []) i [])) first.1 second.1 i l } in
      let pays = (kept_table (game_of t) (first.0 ∷ second.0 ∷ [])).pays in
      let count = length first.0 * length second.0 in
      (record { first = first.0; second = second.0; table = made_table t first.0 second.0 (listed_payoffs pays count) }, made-is_form t valid two (omega (arith, few)) first.0 second.0 kept (listed_payoffs pays count) (length-map-range_with_len (λ k. pays (k % 2) (k / 2)) 0 (count * 2)) (listed_payoff pays count))

  -- all stages
  pub kept_of-answered : IsAnswered (kept_of t)
  kept_of-answered =
      let limit = within what.Labels most_strategies (sum (strategy_counts t)) in
      bind-answered (refuse_where (length t.players ≢ 2) (stops.NotTwoPlayers (length t.players))) (λ _. refused_by stops.TooLarge limit >> such_that (IsKeptForm t)) (refuse_where-answered _ _)
      (λ _ two. bind-answered (refused_by stops.TooLarge limit) (λ _. such_that (IsKeptForm t)) (refused_by-answered stops.TooLarge limit (refuse_where-answered _ _))
      (λ _ few. such_that-answered (IsKeptForm t) (λ none. two (λ same. let found = form_exists same few in none found.0 found.1))))
