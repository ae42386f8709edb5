-- What a table of two players says of its systems.
use Rattle.std.proofs.Common.{ℕ, ◌+◌, ◌*◌, ◌<◌, ◌≤◌, ◌≡◌, ◌≢◌, inl, inr, Ok, Err, Result, List, [], ◌∷◌, length, sum, get_or, refl, sym, ap, ◌∙◌, subst, arith, mul-le-mul_right, suc-mul, suc}
use Rattle.std.specs.Result.{IsErrAnd}
use Rattle.std.proofs.lemmas.List.{ext_get_or}
use Rattle.std.proofs.lemmas.List.FromFn.{get_or-map-range_with_len, length-map-range_with_len}
use Rattle.lists.proofs.NumberLemmas.{below_two}
use Rattle.answers.specs.Answers.{Gives}
use Rattle.rational.specs.Rational.{ℚ, ◌+ℚ◌, zero_ℚ}
use Rattle.linear_systems.specs.Rows.{Alike}
use Rattle.linear_systems.proofs.AgreementLemmas.{alike_trans}
use Rattle.game_theory.specs.Profiles.{profile_count, number_of}
use Rattle.game_core.specs.Table.{GameTable, game_of, strategy_counts, IsTable}
use Rattle.game_core.specs.Limits.{within}
use Rattle.game_core.specs.declared.too_large.TooLarge.{TooLarge}
use Rattle.game_core.specs.declared.too_large.What.TheVariants as what
use Rattle.game_core.proofs.TableCountLemmas.{length-strategy_counts}
use Rattle.extreme_equilibria.specs.TwoPlayers.{pays_against}
use Rattle.extreme_equilibria.specs.Bimatrix.{shifted, shift_of}
use Rattle.extreme_equilibria.specs.Systems.{first_system, second_system}
use Rattle.lex_tableau.specs.Starts.{LinearSystem, system_of}
use Rattle.reply_polytope.specs.Polytopes.{IsRatedSystem, ArePolytopes, most_labels}
use Rattle.reply_polytope.specs.Shapes.{cell_in, shifted_payoffs_in}
use Rattle.reply_polytope.specs.Stops.{label_count, polytopes_in}
use Rattle.reply_polytope.specs.declared.stop.PolyStop.{PolyStop}
use Rattle.reply_polytope.specs.declared.stop.PolyStop.TheVariants as stops
use Rattle.reply_polytope.proofs.ShiftLemmas.{shift_refused, shifted_are}
use native.Mathlib.Nat as N

-- ---- places
-- a place of a row of m among n rows
pub in_rows : (m n i j : ℕ) → i < n → j < m → i * m + j * 1 < m * n
in_rows m n i j h l =
    let a : suc i * m ≤ n * m = mul-le-mul_right m h in
    omega (arith, a, suc-mul i m, N.mul_comm m n, N.mul-one j, l)

-- a place of a column
pub in_columns : (m n i j : ℕ) → i < m → j < n → i * 1 + j * m < m * n
in_columns m n i j h l = omega (arith, in_rows m n j i l h, N.mul-one i)

-- ---- the systems
module _ (t : GameTable) (h : IsTable t) (two : length t.players ≡ 2) (m n : ℕ) (em : m ≡ get_or (strategy_counts t) 0 0) (en : n ≡ get_or (strategy_counts t) 1 0) where
  pub strategies-are : (game_of t).strategies ≡ m ∷ n ∷ []
  strategies-are =
      ext_get_or 0 (strategy_counts t) (m ∷ n ∷ []) count (λ i l. below_two (λ i. get_or (strategy_counts t) i 0 ≡ get_or (m ∷ n ∷ []) i 0) (sym em) (sym en) i (omega (arith, count, l)))
    where
      count : length (strategy_counts t) ≡ 2
      count = length-strategy_counts t h ∙ two

  pub profiles-are : m * n ≡ profile_count (strategy_counts t)
  profiles-are = sym (ap profile_count strategies-are ∙ ap (λ k. m * k) (N.mul-one n))

  -- the number of a profile
  number-is : (i j : ℕ) → number_of (game_of t).strategies (i ∷ j ∷ []) ≡ i + m * j
  number-is i j =
      ap (λ ns. number_of ns (i ∷ j ∷ [])) strategies-are ∙ ap (λ k. i + m * k) (ap (λ k. j + k) (N.mul-zero n) ∙ N.add-zero j)

  -- a shifted payoff
  shifted-is : (p : ℕ) (xs : List ℚ) (h : shifted_payoffs_in (game_of t) p (Ok xs)) (k : ℕ) → k < m * n → get_or xs k zero_ℚ ≡ (game_of t).pays p k +ℚ shift_of h.0
  shifted-is p xs h k l =
      ap (λ xs. get_or xs k zero_ℚ) (shifted_are (game_of t) p xs h)
      ∙ get_or-map-range_with_len (λ k. (game_of t).pays p k +ℚ shift_of h.0) 0 (profile_count (strategy_counts t)) k k zero_ℚ (subst (λ c. k < c) profiles-are l) (omega arith)

  pub long-is : (p : ℕ) (xs : List ℚ) → shifted_payoffs_in (game_of t) p (Ok xs) → length xs ≡ m * n
  long-is p xs h = ap length (shifted_are (game_of t) p xs h) ∙ length-map-range_with_len (λ k. (game_of t).pays p k +ℚ shift_of h.0) 0 (profile_count (strategy_counts t)) ∙ sym profiles-are

  -- both systems
  systems-are : (xs ys : List ℚ) (ax : shifted_payoffs_in (game_of t) 0 (Ok xs)) (ay : shifted_payoffs_in (game_of t) 1 (Ok ys)) (first second : LinearSystem) → IsRatedSystem (first_system m n (cell_in ys m 1)) first → IsRatedSystem (second_system m n (cell_in xs 1 m)) second → ArePolytopes (game_of t) ax.0 ay.0 first second
  systems-are xs ys ax ay first second hf hs =
      record {
        m = m;
        n = n;
        strategies = strategies-are;
        is_first = record { valid = hf.valid; alike = alike_trans _ (first_system m n (cell_in ys m 1)) (system_of first) first-alike hf.alike; rated = hf.rated };
        is_second = record { valid = hs.valid; alike = alike_trans _ (second_system m n (cell_in xs 1 m)) (system_of second) second-alike hs.alike; rated = hs.rated };
      }
    where
      first-cell : (j i : ℕ) → j < n → i < m → shifted (shift_of ay.0) (pays_against (game_of t) 1) j i ≡ get_or ys (j * m + i * 1) zero_ℚ
      first-cell j i b l =
          let e : i + m * j ≡ j * m + i * 1 = omega (arith, N.mul_comm m j, N.mul-one i) in
          ap (λ k. (game_of t).pays 1 k +ℚ shift_of ay.0) (number-is i j ∙ e) ∙ sym (shifted-is 1 ys ay (j * m + i * 1) (in_rows m n j i b l))

      second-cell : (i j : ℕ) → i < m → j < n → shifted (shift_of ax.0) (pays_against (game_of t) 0) i j ≡ get_or xs (i * 1 + j * m) zero_ℚ
      second-cell i j b l =
          let e : i + m * j ≡ i * 1 + j * m = omega (arith, N.mul_comm m j, N.mul-one i) in
          ap (λ k. (game_of t).pays 0 k +ℚ shift_of ax.0) (number-is i j ∙ e) ∙ sym (shifted-is 0 xs ax (i * 1 + j * m) (in_columns m n i j b l))

      first-alike : Alike (first_system m n (shifted (shift_of ay.0) (pays_against (game_of t) 1))) (first_system m n (cell_in ys m 1))
      first-alike =
          record { rows = refl; width = refl; basic = λ i b. refl; nonbasic = λ j b. refl; cell = first-cell; right = λ i b. refl }

      second-alike : Alike (second_system m n (shifted (shift_of ax.0) (pays_against (game_of t) 0))) (second_system m n (cell_in xs 1 m))
      second-alike =
          record { rows = refl; width = refl; basic = λ i b. refl; nonbasic = λ j b. refl; cell = second-cell; right = λ i b. refl }

  -- ---- the stages
  are-two : (length (game_of t).strategies ≢ 2) → ⊥
  are-two differ = differ (ap length strategies-are)

  labels-are : m + n ≡ label_count (game_of t)
  labels-are = let e = ap sum strategies-are in omega (arith, e)

  -- the labels are too many
  pub labels-stop : (limit : TooLarge) (r : Result (LinearSystem × LinearSystem) PolyStop) → within what.Labels most_labels (m + n) (Err limit) → IsErrAnd r (λ q. q ≡ stops.TooLarge limit) → Gives stops.Memory (polytopes_in (game_of t)) r
  labels-stop limit (Ok systems) h e = absurd e
  labels-stop limit (Err q) h e =
      inr (subst (λ s. polytopes_in (game_of t) (Err s)) (sym e) (inr (tt, are-two, inl (limit, subst (λ k. within what.Labels most_labels k (Err limit)) labels-are h, refl))))

  module _ (few : most_labels < m + n → ⊥) where
    are-few : most_labels < label_count (game_of t) → ⊥
    are-few = subst (λ k. most_labels < k → ⊥) labels-are few

    -- the first player's shift is refused
    pub first-stop : (stop : PolyStop) (r : Result (LinearSystem × LinearSystem) PolyStop) → Gives stops.Memory (shifted_payoffs_in (game_of t) 0) (Err stop) → IsErrAnd r (λ q. q ≡ stop) → Gives stops.Memory (polytopes_in (game_of t)) r
    first-stop stop (Ok systems) h e = absurd e
    first-stop stop (Err q) (inl memory) e = inl (e ∙ memory)
    first-stop stop (Err q) (inr h) e =
        inr (subst (λ s. polytopes_in (game_of t) (Err s)) (sym e) (inr (tt, are-two, inr (tt, are-few, inl (shift_refused (game_of t) 0 stop h)))))

    -- the second player's shift is refused
    pub second-stop : (xs : List ℚ) → shifted_payoffs_in (game_of t) 0 (Ok xs) → (stop : PolyStop) (r : Result (LinearSystem × LinearSystem) PolyStop) → Gives stops.Memory (shifted_payoffs_in (game_of t) 1) (Err stop) → IsErrAnd r (λ q. q ≡ stop) → Gives stops.Memory (polytopes_in (game_of t)) r
    second-stop xs ax stop (Ok systems) h e = absurd e
    second-stop xs ax stop (Err q) (inl memory) e = inl (e ∙ memory)
    second-stop xs ax stop (Err q) (inr h) e =
        inr (subst (λ s. polytopes_in (game_of t) (Err s)) (sym e) (inr (tt, are-two, inr (tt, are-few, inr (ax.0, ax.1, inl (shift_refused (game_of t) 1 stop h))))))

    pub polytopes-are : (xs ys : List ℚ) → shifted_payoffs_in (game_of t) 0 (Ok xs) → shifted_payoffs_in (game_of t) 1 (Ok ys) → (first second : LinearSystem) → IsRatedSystem (first_system m n (cell_in ys m 1)) first → IsRatedSystem (second_system m n (cell_in xs 1 m)) second → polytopes_in (game_of t) (Ok (first, second))
    polytopes-are xs ys ax ay first second hf hs =
        (tt, are-two, (tt, are-few, (ax.0, ax.1, (ay.0, ay.1, systems-are xs ys ax ay first second hf hs))))
