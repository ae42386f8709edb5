-- The members of a set are its nodes, in order.
use Rattle.std.proofs.Common.{◌≡◌, ◌<◌, ◌∙◌, sym, ap, subst, ℕ, Some, List, length, get_or, slice_get, arith}
use Rattle.std.proofs.lemmas.Option.{slice_get_within, slice_get-get_or, get_or_from_slice_get}
use Rattle.game_theory.specs.OwnSets.{numbers_with}
use Rattle.game_theory.specs.Trees.{Tree}
use Rattle.game_theory.proofs.IndexLemmas.{numbers_with-at, numbers_with-tell, numbers_with-ascend}
use Rattle.game_core.specs.Tree.{GameTree, IsGameTree, InformationSet}
use Rattle.game_core.specs.TreeGame.{game_of_tree}

-- each number is less than the later ones
abbrev pub Ascend : List ℕ → Type 0
Ascend members = (i j : ℕ) → i < j → j < length members → get_or members i 0 < get_or members j 0

-- a list has the nodes of set s, in order
pub record AreMembers (t : Tree) (s : ℕ) (members : List ℕ) : Type 0 where
  pub some : 0 < length members
  pub are_nodes : (j : ℕ) → j < length members → (get_or members j 0 < t.size) × (t.set (get_or members j 0) ≡ Some s)
  pub are_all : (k : ℕ) → k < t.size → t.set k ≡ Some s → (j : ℕ) × (j < length members) × (get_or members j 0 ≡ k)
  pub ascend : Ascend members

-- the numbers that a test picks do
members-picked : (t : Tree) (s : ℕ) → 0 < length (numbers_with t.set s t.size) → AreMembers t s (numbers_with t.set s t.size)
members-picked t s some = record {
  some = some;
  are_nodes = λ j l. let found = numbers_with-tell t.set s t.size j _ (at j l) in (found.0, found.1);
  are_all = λ k l e.
      let found = numbers_with-at t.set s k t.size l e in
      (length (numbers_with t.set s k), slice_get_within members _ k found, get_or_from_slice_get members _ k 0 found);
  ascend = λ i j l k. numbers_with-ascend t.set s t.size i j _ _ l (at i (omega arith)) (at j k);
}
  where
    members : List ℕ
    members = numbers_with t.set s t.size

    at : (j : ℕ) → j < length members → slice_get members j ≡ Some (get_or members j 0)
    at j l = slice_get-get_or members j 0 l

-- the members of a tree's set do
pub members-are : (t : GameTree) (s : ℕ) (set : InformationSet) → IsGameTree t → slice_get t.sets s ≡ Some set → AreMembers (game_of_tree t) s set.members
members-are t s set valid is =
    let fits = valid.sets_fit s set is in
    subst (AreMembers (game_of_tree t) s) (sym fits.members_are) (members-picked (game_of_tree t) s (subst (λ xs. 0 < length xs) fits.members_are fits.some_member))

-- the same by a list that is the tree's
pub members-at : (t : GameTree) (sets : List InformationSet) (s : ℕ) (set : InformationSet) → IsGameTree t → sets ≡ t.sets → s < length t.sets → set ≡ get_or sets s set → (slice_get t.sets s ≡ Some set) × AreMembers (game_of_tree t) s set.members
members-at t sets s set valid same below is =
    let found : slice_get t.sets s ≡ Some set = slice_get-get_or t.sets s set below ∙ ap Some (ap (λ xs. get_or xs s set) (sym same) ∙ sym is) in
    (found, members-are t s set valid found)
