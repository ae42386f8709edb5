-- What an enumeration of bases asks of both systems: all rows are rated, the variables are the
-- numbers from 1 on, at most 128, and right sides are not negative.
use Rattle.std.proofs.Common.{ℕ, zero, suc, ◌+◌, ◌<◌, ◌≤◌, ◌≡◌, ◌↔◌, length, refl, sym, ap₂, ◌∙◌, subst, arith}
use Rattle.rational.specs.Rational.{ℚ, zero_ℚ, one_ℚ, ◌≤ℚ◌}
use Rattle.rational.proofs.InverseLemmas.{zero_le_one}
use Rattle.linear_systems.specs.Tableau.{Tableau}
use Rattle.linear_systems.specs.RowEquivalence.{IsVariableOf, in_row, in_column}
use Rattle.linear_systems.proofs.AgreementLemmas.{alike_sym}
use Rattle.linear_systems.proofs.RowEquivalenceLemmas.{stands_alike}
use Rattle.game_theory.specs.Profiles.{Game}
use Rattle.extreme_equilibria.specs.TwoPlayers.{pays_against}
use Rattle.extreme_equilibria.specs.Bimatrix.{shifted, shift_of}
use Rattle.extreme_equilibria.specs.Systems.{first_system, second_system}
use Rattle.extreme_equilibria.proofs.SystemLemmas.{first_variables, second_variables}
use Rattle.lex_tableau.specs.Starts.{LinearSystem, system_of}
use Rattle.reply_polytope.specs.Polytopes.{IsRatedSystem}
use Rattle.reply_polytope.proofs.PolytopeLemmas.{ArePolytopesOf}

-- how many variables a system has
abbrev pub variables : LinearSystem → ℕ
variables s = length s.basics + length s.nonbasics

-- a system of rows and columns with right sides 1, whose variables are the numbers from 1 on
module _ (t : Tableau) (s : LinearSystem) (h : IsRatedSystem t s) (rights : (i : ℕ) → t.right i ≡ one_ℚ) (numbered : (v : ℕ) → IsVariableOf t v ↔ ((0 < v) × (v ≤ t.rows + t.width))) where
  count_is : t.rows + t.width ≡ variables s
  count_is = ap₂ (λ r w. r + w) h.alike.rows h.alike.width

  rated_is : s.rated ≡ length s.basics
  rated_is = h.rated ∙ h.alike.rows

  numbered_is : (v : ℕ) → IsVariableOf (system_of s) v ↔ ((0 < v) × (v ≤ variables s))
  numbered_is v =
      subst (λ n. IsVariableOf (system_of s) v ↔ ((0 < v) × (v ≤ n))) count_is (λ d. (numbered v).0 (stands_alike (system_of s) t v (alike_sym t (system_of s) h.alike) d), λ b. stands_alike t (system_of s) v h.alike ((numbered v).1 b))

  right_is : (i : ℕ) → i < length s.basics → zero_ℚ ≤ℚ (system_of s).right i
  right_is i l = subst (λ x. zero_ℚ ≤ℚ x) (sym (rights i) ∙ h.alike.right i (subst (λ n. i < n) (sym h.alike.rows) l)) zero_le_one

-- a number from 1 on is the next of one
from_one : (P : ℕ → Type 0) (n : ℕ) → ((l : ℕ) → l < n → P (suc l)) → (v : ℕ) → (0 < v) × (v ≤ n) → P v
from_one P n h zero b = absurd (omega (arith, b.0))
from_one P n h (suc l) b = h l (omega (arith, b.1))

-- ---- the two systems
first_numbered : (m n : ℕ) (c : ℕ → ℕ → ℚ) (v : ℕ) → IsVariableOf (first_system m n c) v ↔ ((0 < v) × (v ≤ n + m))
first_numbered m n c v = (to, from_one (IsVariableOf (first_system m n c)) (n + m) (λ l b. first_variables m n c l (omega (arith, b))) v)
  where
    to : IsVariableOf (first_system m n c) v → (0 < v) × (v ≤ n + m)
    to (in_row i l e) = (omega (arith, e), omega (arith, l, e))
    to (in_column j l e) = (omega (arith, e), omega (arith, l, e))

second_numbered : (m n : ℕ) (a : ℕ → ℕ → ℚ) (v : ℕ) → IsVariableOf (second_system m n a) v ↔ ((0 < v) × (v ≤ m + n))
second_numbered m n a v = (to, from_one (IsVariableOf (second_system m n a)) (m + n) (λ l b. second_variables m n a l b) v)
  where
    to : IsVariableOf (second_system m n a) v → (0 < v) × (v ≤ m + n)
    to (in_row i l e) = (omega (arith, e), omega (arith, l, e))
    to (in_column j l e) = (omega (arith, e), omega (arith, l, e))

module _ (g : Game) (one two : LinearSystem) (h : ArePolytopesOf g one two) where
  abbrev c : ℕ → ℕ → ℚ
  c = shifted (shift_of h.least') (pays_against g 1)

  abbrev a : ℕ → ℕ → ℚ
  a = shifted (shift_of h.least) (pays_against g 0)

  pub first_enumerable : (one.rated ≡ length one.basics) × (variables one ≤ 128) × ((v : ℕ) → IsVariableOf (system_of one) v ↔ ((0 < v) × (v ≤ variables one))) × ((i : ℕ) → i < length one.basics → zero_ℚ ≤ℚ (system_of one).right i)
  first_enumerable =
      let t = first_system h.m h.n c in
      (rated_is t one h.is_first (λ i. refl) (first_numbered h.m h.n c), omega (arith, count_is t one h.is_first (λ i. refl) (first_numbered h.m h.n c), h.few_labels), numbered_is t one h.is_first (λ i. refl) (first_numbered h.m h.n c), right_is t one h.is_first (λ i. refl) (first_numbered h.m h.n c))

  pub second_enumerable : (two.rated ≡ length two.basics) × (variables two ≤ 128) × ((v : ℕ) → IsVariableOf (system_of two) v ↔ ((0 < v) × (v ≤ variables two))) × ((i : ℕ) → i < length two.basics → zero_ℚ ≤ℚ (system_of two).right i)
  second_enumerable =
      let t = second_system h.m h.n a in
      (rated_is t two h.is_second (λ i. refl) (second_numbered h.m h.n a), omega (arith, count_is t two h.is_second (λ i. refl) (second_numbered h.m h.n a), h.few_labels), numbered_is t two h.is_second (λ i. refl) (second_numbered h.m h.n a), right_is t two h.is_second (λ i. refl) (second_numbered h.m h.n a))

  -- both have as many variables as there are labels
  pub first_count : variables one ≡ h.m + h.n
  first_count = omega (arith, count_is (first_system h.m h.n c) one h.is_first (λ i. refl) (first_numbered h.m h.n c))

  pub second_count : variables two ≡ h.m + h.n
  second_count = omega (arith, count_is (second_system h.m h.n a) two h.is_second (λ i. refl) (second_numbered h.m h.n a))
