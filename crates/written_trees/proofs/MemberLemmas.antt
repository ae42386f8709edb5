-- The members of sets, where one more node names one.
use Rattle.std.proofs.Common.{◌≡◌, ℕ, ◌<◌, true, false, List, [], ◌∷◌, ◌++◌, length, slice_set, slice_get, All, Some, None, inl, inr, refl, sym, ◌∙◌, length-append, arith}
use Rattle.std.proofs.lemmas.Bool.Decides.{nat_tests}
use Rattle.std.proofs.lemmas.Option.{slice_get_within}
use Rattle.lists.proofs.ElementLemmas.{slice_get-push_cases}
use Rattle.game_core.specs.declared.tree.Node.{Node}
use Rattle.game_theory.specs.Behaviour.{is_index}
use Rattle.game_theory.proofs.IndexLemmas.{places_with-last, places_with-other, places_with-past}
use Rattle.game_core.specs.Tree.{IsBelow, members_of}
use Rattle.written_trees.specs.Building.{PartialSet}
use Rattle.written_trees.proofs.ListLemmas.{slice_get-set_cases}

-- each node names one of so many sets, if it names one
abbrev pub NameSets : ℕ → List Node → Type 0
NameSets n nodes = All (λ node. IsBelow n node.set) nodes

-- a number is itself
is_index-same : (s : ℕ) → is_index (Some s) s ≡ true
is_index-same s = grind (arith, nat_tests)

-- and no other
is_index-other : (s p : ℕ) → (s ≡ p → ⊥) → is_index (Some p) s ≡ false
is_index-other s p h = grind (arith, nat_tests)

-- the sets have the nodes that name them, and some
pub record HasMembers (nodes : List Node) (s : ℕ) (set : PartialSet) : Type 0 where
  pub are : set.members ≡ members_of nodes s
  pub some : 0 < length set.members

-- each set does
abbrev pub HaveMembers : List Node → List PartialSet → Type 0
HaveMembers nodes sets = (s : ℕ) (set : PartialSet) → slice_get sets s ≡ Some set → HasMembers nodes s set

-- a node that does not name a set
unnamed : (nodes : List Node) (node : Node) (s : ℕ) (set : PartialSet) → is_index node.set s ≡ false → HasMembers nodes s set → HasMembers (nodes ++ node ∷ []) s set
unnamed nodes node s set e h = record {
  are = h.are ∙ sym (places_with-other (λ one. one.set) nodes node s e);
  some = h.some;
}

-- a node that names a set comes last among its members
named : (nodes : List Node) (node : Node) (s : ℕ) (set : PartialSet) → is_index node.set s ≡ true → set.members ≡ members_of nodes s ++ length nodes ∷ [] → HasMembers (nodes ++ node ∷ []) s set
named nodes node s set e h = record {
  are = h ∙ sym (places_with-last (λ one. one.set) nodes node s e);
  some = rw (h, length-append (members_of nodes s) (length nodes ∷ [])) (omega arith);
}

-- a node that names no set
pub have_members-none : (nodes : List Node) (node : Node) (sets : List PartialSet) → node.set ≡ None → HaveMembers nodes sets → HaveMembers (nodes ++ node ∷ []) sets
have_members-none nodes node sets none h s set e = unnamed nodes node s set (rw none refl) (h s set e)

-- a node that names a new set
pub have_members-new : (nodes : List Node) (node : Node) (sets : List PartialSet) (new : PartialSet) → node.set ≡ Some (length sets) → new.members ≡ length nodes ∷ [] → NameSets (length sets) nodes → HaveMembers nodes sets → HaveMembers (nodes ++ node ∷ []) (sets ++ new ∷ [])
have_members-new nodes node sets new is one within h s set e = elim (slice_get-push_cases sets new s set e) [
  | inl old ↦
      let less = slice_get_within sets s set old in
      unnamed nodes node s set (rw is (is_index-other s (length sets) (λ q. omega arith))) (h s set old)
  | inr here ↦
      let none : members_of nodes s ≡ [] = places_with-past (λ one. one.set) nodes (length sets) s within (omega (arith, here.0)) in
      named nodes node s set (rw (is, here.0) (is_index-same (length sets))) (rw (here.1, one, none) refl)
]

-- a node that names a set again
pub have_members-again : (nodes : List Node) (node : Node) (sets : List PartialSet) (p : ℕ) (old new : PartialSet) → node.set ≡ Some p → slice_get sets p ≡ Some old → new.members ≡ old.members ++ length nodes ∷ [] → HaveMembers nodes sets → HaveMembers (nodes ++ node ∷ []) (slice_set sets p new)
have_members-again nodes node sets p old new is there one h s at e = elim (slice_get-set_cases sets p new s at e) [
  | inl other ↦ unnamed nodes node s at (rw is (is_index-other s p other.0)) (h s at other.1)
  | inr here ↦
      let before : old.members ≡ members_of nodes s = rw here.0 ((h p old there).are) in
      named nodes node s at (rw (is, here.0) (is_index-same p)) (rw (here.1, one, before) refl)
]
