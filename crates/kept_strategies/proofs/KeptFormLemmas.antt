-- The table over the kept strategies of two players.
use Rattle.std.proofs.Common.{ℕ, zero, suc, ◌+◌, ◌*◌, ◌<◌, ◌≤◌, ◌≡◌, All, List, [], ◌∷◌, length, map, get_or, sum, refl, sym, ap, ap₂, ◌∙◌, subst, arith}
use Rattle.std.proofs.lemmas.List.{length-map, get_or_default}
use Rattle.std.proofs.Math.Nat.{mul-le-mul}
use native.Mathlib.Nat as N
use Rattle.lists.proofs.NumberLemmas.{below_two}
use Rattle.rational.specs.Rational.{ℚ, zero_ℚ}
use Rattle.game_theory.specs.Profiles.{profile_count}
use Rattle.game_core.specs.Table.{GameTable, IsTable, game_of, strategy_counts}
use Rattle.extreme_equilibria.specs.KeptTable.{AreKeptLists, kept_table}
use Rattle.extreme_equilibria.proofs.KeptListLemmas.{ascending-short}
use Rattle.extreme_equilibria.proofs.KeptStrategyLemmas.{some-kept}
use Rattle.kept_strategies.specs.Kept.{IsKeptForm, most_strategies, kept_names}
use Rattle.kept_strategies.proofs.EliminationLemmas.{few_of_two, kept-all}

-- the table over these strategies with these payoffs
abbrev pub made_table : GameTable → List ℕ → List ℕ → List ℚ → GameTable
made_table t first second payoffs = record { title = t.title; players = t.players; strategies = kept_names t.strategies (first ∷ second ∷ []); payoffs = payoffs }

-- the names of both players
pub names-two : (lists : List (List (List ℕ))) (first second : List ℕ) → length lists ≡ 2
    → kept_names lists (first ∷ second ∷ []) ≡ map (λ p. get_or (get_or lists 0 []) p []) first ∷ map (λ p. get_or (get_or lists 1 []) p []) second ∷ []
names-two [] first second e = absurd (omega (arith, e))
names-two (a ∷ []) first second e = absurd (omega (arith, e))
names-two (a ∷ b ∷ []) first second e = refl
names-two (a ∷ b ∷ c ∷ lists) first second e = absurd (omega (arith, e))

-- few strategies have few payoffs
few-payoffs : (m n : ℕ) → m + n ≤ 512 → m * n * 2 ≤ 1048576
few-payoffs m n h = let one : m ≤ 512 = omega arith in let two : n ≤ 512 = omega arith in let room : m * n ≤ 512 * 512 = mul-le-mul one two in omega (arith, room)

module _ (t : GameTable) (valid : IsTable t) (two : length t.players ≡ 2) (few : sum (strategy_counts t) ≤ most_strategies) (first second : List ℕ) (kept : AreKeptLists (game_of t) (first ∷ second ∷ [])) where
  two-names : length t.strategies ≡ 2
  two-names = valid.strategies_of_each ∙ two

  -- no more strategies are kept than there are
  pub few-kept : length first + length second ≤ most_strategies
  few-kept =
      let one = ascending-short first (get_or (strategy_counts t) 0 0) (kept.are_kept 0 (omega arith)).ascending (λ j l. kept-all t 0 first first (kept.are_kept 0 (omega arith)) refl j 0 l) in
      let other = ascending-short second (get_or (strategy_counts t) 1 0) (kept.are_kept 1 (omega arith)).ascending (λ j l. kept-all t 1 second second (kept.are_kept 1 (omega arith)) refl j 0 l) in
      omega (arith, one, other, few_of_two t valid two few)

  -- each player has some strategy
  some : (i : ℕ) → i < 2 → 0 < get_or (strategy_counts t) i 0
  some i l = subst (λ n. 0 < n) (sym (counted i)) (valid.some_strategy i [] (omega (arith, two-names)))
    where
      counted : (i : ℕ) → get_or (strategy_counts t) i 0 ≡ length (get_or t.strategies i [])
      counted i = go t.strategies i
        where
          go : (lists : List (List (List ℕ))) (i : ℕ) → get_or (map length lists) i 0 ≡ length (get_or lists i [])
          go [] i = refl
          go (a ∷ lists) zero = refl
          go (a ∷ lists) (suc i) = go lists i

  module _ (payoffs : List ℚ) where
    abbrev made : GameTable
    made = made_table t first second payoffs

    counts-made : strategy_counts made ≡ length first ∷ length second ∷ []
    counts-made =
        ap (map length) (names-two t.strategies first second two-names)
        ∙ ap₂ (λ x y. x ∷ y ∷ []) (length-map first (λ p. get_or (get_or t.strategies 0 []) p [])) (length-map second (λ p. get_or (get_or t.strategies 1 []) p []))

    module _ (long : length payoffs ≡ length first * length second * 2) where
      pub made-is_table : IsTable made
      made-is_table = record {
        strategies_of_each = ap length (names-two t.strategies first second two-names) ∙ sym two;
        some_strategy = subst (All (λ names. 0 < length names)) (sym (names-two t.strategies first second two-names)) (λ k d l.
            subst (λ x. 0 < length x) (get_or_default (map (λ p. get_or (get_or t.strategies 0 []) p []) first ∷ map (λ p. get_or (get_or t.strategies 1 []) p []) second ∷ []) k [] d l) (below_two (λ k. 0 < length (get_or (map (λ p. get_or (get_or t.strategies 0 []) p []) first ∷ map (λ p. get_or (get_or t.strategies 1 []) p []) second ∷ []) k []))
            (subst (λ n. 0 < n) (sym (length-map first (λ p. get_or (get_or t.strategies 0 []) p []))) (some-kept (game_of t) some 0 first (omega arith) (kept.are_kept 0 (omega arith))))
            (subst (λ n. 0 < n) (sym (length-map second (λ p. get_or (get_or t.strategies 1 []) p []))) (some-kept (game_of t) some 1 second (omega arith) (kept.are_kept 1 (omega arith)))) k l));
        payoffs_of_each = long ∙ N.mul_comm (length first * length second) 2 ∙ ap₂ (λ p n. p * n) (sym two) (sym (ap profile_count counts-made ∙ ap (λ n. length first * n) (N.mul-one (length second))));
        few_payoffs = omega (arith, long, few-payoffs (length first) (length second) few-kept);
      }

      -- it is the kept form
      pub made-is_form : ((i k : ℕ) → i < 2 → k < length first * length second → get_or payoffs (k * 2 + i) zero_ℚ ≡ (kept_table (game_of t) (first ∷ second ∷ [])).pays i k)
          → IsKeptForm t (record { first = first; second = second; table = made })
      made-is_form cells = record {
        are_kept = kept;
        is_table = made-is_table;
        title_is = refl;
        players_are = refl;
        names_are = refl;
        same_cells = record {
          strategies = counts-made;
          cells = λ i k l b. subst (λ n. get_or payoffs (k * n + i) zero_ℚ ≡ (kept_table (game_of t) (first ∷ second ∷ [])).pays i k) (sym two)
              (cells i k (omega (arith, l, ap length counts-made)) (omega (arith, b, ap profile_count counts-made, ap (λ n. length first * n) (N.mul-one (length second)))));
        };
      }
