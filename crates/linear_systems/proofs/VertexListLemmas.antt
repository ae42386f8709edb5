-- A solution has one mark, and a system one list of vertices.
use Rattle.std.proofs.Common.{ℕ, suc, ◌+◌, ◌-◌, ◌<◌, ◌≡◌, inl, inr, min, List, length, get_or, Contains, refl, sym, ap, ap₂, ◌∙◌, subst, arith}
use Rattle.std.specs.Int.{bit_at}
use Rattle.std.proofs.lemmas.Bool.{cases_eq, cases_order}
use Rattle.std.proofs.lemmas.List.{ext_get_or}
use Rattle.std.proofs.lemmas.List.Elements.{All-contains}
use Rattle.std.proofs.lemmas.Nat.Bits.{bit_at-lt, same_from_bits_below}
use Rattle.lists.proofs.ElementLemmas.{determined_by-members}
use Rattle.rational.specs.Rational.{ℚ, zero_ℚ}
use Rattle.linear_systems.specs.Tableau.{Tableau}
use Rattle.linear_systems.specs.Vertices.{IsZeroWord, MarkedPoint, IsMarkOf, IsVertexMark, mask_of, AreVertices}
use Rattle.linear_systems.specs.ExtremePointLaws.{OneListOfVertices}

-- ---- marks
same_bit : (a b : ℕ) → a < 2 → b < 2 → (a ≡ 1 → b ≡ 1) → (b ≡ 1 → a ≡ 1) → a ≡ b
same_bit a b h g f e = elim (cases_eq a 1) [
  | inl x ↦ x ∙ sym (f x)
  | inr x ↦ elim (cases_eq b 1) [ inl y ↦ absurd (x (e y)) | inr y ↦ omega arith ]
]

-- entries with the same zeros have one word
same_word : (n : ℕ) (x y : ℕ → ℚ) (p q : ℕ) → ((l : ℕ) → l < n → x l ≡ y l) → IsZeroWord n x p → IsZeroWord n y q → p ≡ q
same_word n x y p q e r s =
    same_from_bits_below n p q r.below s.below (λ l h. same_bit (bit_at p l) (bit_at q l) (bit_at-lt p l) (bit_at-lt q l) (λ b. (s.zeros l h).1 (sym (e l h) ∙ (r.zeros l h).0 b)) (λ b. (r.zeros l h).1 (e l h ∙ (s.zeros l h).0 b)))

-- solutions with the same values have one mask
pub same_mask : (n : ℕ) (s t : Tableau) (x y : ℕ → ℚ) (one two : MarkedPoint) → ((l : ℕ) → l < n → x (suc l) ≡ y (suc l)) → IsMarkOf n s x one → IsMarkOf n t y two → (one.low ≡ two.low) × (one.high ≡ two.high)
same_mask n s t x y one two e p q =
    (same_word (min n 64) (λ l. x (suc l)) (λ l. y (suc l)) one.low two.low (λ l h. e l (omega arith)) p.low q.low, same_word (n - 64) (λ l. x (suc (64 + l))) (λ l. y (suc (64 + l))) one.high two.high (λ l h. e (64 + l) (omega arith)) p.high q.high)

mark : ℕ → ℕ → List ℚ → MarkedPoint
mark low high point = record { low = low; high = high; point = point }

same_parts : (one two : MarkedPoint) → one.low ≡ two.low → one.high ≡ two.high → one.point ≡ two.point → one ≡ two
unfolding mark
same_parts one two e f g = ap₂ (λ l h. mark l h one.point) e f ∙ ap (λ v. mark two.low two.high v) g

pub mark_determined : (n : ℕ) (s : Tableau) (x : ℕ → ℚ) (one two : MarkedPoint) → IsMarkOf n s x one → IsMarkOf n s x two → one ≡ two
mark_determined n s x one two p q = same_parts one two masks.0 masks.1 point
  where
    masks : (one.low ≡ two.low) × (one.high ≡ two.high)
    masks = same_mask n s s x x one two (λ l h. refl) p q

    point : one.point ≡ two.point
    point =
        ext_get_or zero_ℚ one.point two.point (p.size ∙ sym q.size) (λ j h.
        p.values j (subst (λ n. j < n) p.size h) ∙ sym (q.values j (subst (λ n. j < n) p.size h)))

-- ---- ascending lists
-- each mask is less than each later one
abbrev AreAscending : List MarkedPoint → Type 0
AreAscending list = (i j : ℕ) (d : MarkedPoint) → i < j → j < length list → mask_of (get_or list i d) < mask_of (get_or list j d)

-- no two places have equal masks
pub place_once : (list : List MarkedPoint) → AreAscending list → (i j : ℕ) (d : MarkedPoint) → i < length list → j < length list → mask_of (get_or list i d) ≡ mask_of (get_or list j d) → i ≡ j
place_once list up i j d hi hj e = elim (cases_order i j) [
  | inl s ↦ s
  | inr o ↦ elim o [ inl l ↦ absurd (omega (arith, up i j d l hj, e)) | inr l ↦ absurd (omega (arith, up j i d l hi, e)) ]
]

-- ---- lists of vertices
-- each mark of one list stands in any other
vertices_within : (n : ℕ) (s : Tableau) (a b : List MarkedPoint) → AreVertices n s a → AreVertices n s b → (z : MarkedPoint) → Contains a z → Contains b z
vertices_within n s a b p q z c =
    let v : IsVertexMark n s z = All-contains (IsVertexMark n s) a z p.sound c in
    let found = q.complete v.solution v.extreme v.nonzero in
    subst (λ w. Contains b w) (mark_determined n s v.solution found.0 z found.2 v.marked) found.1

pub vertices_determined : OneListOfVertices
vertices_determined n s a b p q =
    determined_by-members (λ x y. mask_of x < mask_of y) a b (λ x y l k. omega (arith, l, k)) p.ascending q.ascending (vertices_within n s a b p q) (vertices_within n s b a q p)
