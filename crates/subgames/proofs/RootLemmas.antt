-- Where subgames begin, and the marks there as they are found one after another.
use Rattle.std.proofs.Common.{ℕ, ◌+◌, ◌<◌, ◌≡◌, ◌⊎◌, inl, inr, Bool, true, false, Some, None, List, [], ◌∷◌, ◌++◌, length, sym, ap, ◌∙◌, subst, arith}
use Rattle.std.specs.Prelude.{◌↔◌, IsTrue, nat_eq}
use Rattle.std.proofs.lemmas.Bool.{cases_eq, eqb-true, eq-eqb}
use Rattle.std.proofs.lemmas.List.{get_or_append_left, get_or_push, length_push}
use Rattle.std.proofs.lemmas.Option.{same_Some}
use Rattle.game_theory.specs.OwnSets.{numbers_with}
use Rattle.game_theory.proofs.IndexLemmas.{numbers_with-one}
use Rattle.game_theory.specs.Trees.{Tree}
use Rattle.subgames.specs.FoundSubgames.{AreRootMarks, IsMarked}
use Rattle.subgames.specs.Roots.{BeginsAlone, HasWholeSets, IsSubgameRoot}

-- ---- where a subgame begins
-- a node at a player's set is alone there where the set has one member
pub begins_alone-of_player : (t : Tree) (k s : ℕ) (members : List ℕ) → k < t.size → t.set k ≡ Some s → (t.owner s ≡ None → ⊥) → members ≡ numbers_with t.set s t.size → (nat_eq (length members) 1 ≡ true) ↔ BeginsAlone t k
begins_alone-of_player t k s members below here owned are = (
  λ e. (s, here, inr (alone.0 (sym (ap length are) ∙ eqb-true (length members) 1 e))),
  λ h. eq-eqb (length members) 1 (ap length are ∙ alone.1 (others h.0 h.1 h.2)),
)
  where
    alone : (length (numbers_with t.set s t.size) ≡ 1) ↔ ((c : ℕ) → c < t.size → t.set c ≡ Some s → c ≡ k)
    alone = numbers_with-one t.set s t.size k below here

    others : (r : ℕ) → t.set k ≡ Some r → (t.owner r ≡ None) ⊎ ((c : ℕ) → c < t.size → t.set c ≡ Some r → c ≡ k) → (c : ℕ) → c < t.size → t.set c ≡ Some s → c ≡ k
    others r at (inl chance) = absurd (owned (ap t.owner (same_Some s r (sym here ∙ at)) ∙ chance))
    others r at (inr single) = λ c l is. single c l (is ∙ sym here ∙ at)

-- at a node that begins alone, and is not the root, a subgame begins where the subtree splits no set
pub root-whole : (t : Tree) (k : ℕ) (whole : Bool) → (k ≡ 0 → ⊥) → BeginsAlone t k → IsTrue whole ↔ HasWholeSets t k → IsTrue whole ↔ IsSubgameRoot t k
root-whole t k whole other alone told = (λ e. inr (alone, told.0 e), λ root. elim root [ inl first ↦ absurd (other first) | inr h ↦ told.1 h.1 ])

-- ---- marks where subgames begin
-- for each node below n whether a subgame begins there
pub record AreRootMarksBelow (t : Tree) (n : ℕ) (begins : List Bool) : Type 0 where
  pub one_for_each : length begins ≡ n
  pub are_all : (k : ℕ) → k < n → IsMarked begins k ↔ IsSubgameRoot t k

-- one more node
pub AreRootMarksBelow-push : (t : Tree) (n : ℕ) (begins : List Bool) (mark : Bool) → IsTrue mark ↔ IsSubgameRoot t n → AreRootMarksBelow t n begins → AreRootMarksBelow t (n + 1) (begins ++ mark ∷ [])
AreRootMarksBelow-push t n begins mark told h = record {
  one_for_each = length_push begins mark ∙ ap (λ m. m + 1) h.one_for_each;
  are_all = λ k below. elim (cases_eq k n) [
    | inl same ↦ subst (λ b. IsTrue b ↔ IsSubgameRoot t k) (sym (get_or_push begins mark false k (h.one_for_each ∙ sym same))) (subst (λ k. IsTrue mark ↔ IsSubgameRoot t k) (sym same) told)
    | inr other ↦ let before : k < n = omega (arith, below, other) in
        subst (λ b. IsTrue b ↔ IsSubgameRoot t k) (sym (get_or_append_left begins (mark ∷ []) false k (omega (arith, before, h.one_for_each)))) (h.are_all k before)
  ];
}

-- all nodes at last
pub AreRootMarksBelow-all : (t : Tree) (begins : List Bool) → AreRootMarksBelow t t.size begins → AreRootMarks t begins
AreRootMarksBelow-all t begins h = record { one_for_each = h.one_for_each; are_all = h.are_all }
