-- What one more node makes of the sets that are partial.
use Rattle.std.proofs.Common.{◌≡◌, ℕ, suc, ◌+◌, ◌<◌, ◌≤◌, List, [], ◌∷◌, ◌++◌, length, map, slice_set, slice_get, get_or, Option, Some, None, option_map, refl, sym, ap, ◌∙◌, length-append, length-set, append-nil, arith}
use Rattle.std.proofs.lemmas.List.{map-append, length-map, get_or_append_left}
use Rattle.std.proofs.lemmas.List.Elements.{All-weaker, All-push}
use Rattle.std.proofs.lemmas.Option.{slice_get_within, same_Some}
use Rattle.lists.proofs.OptionLemmas.{bind_some, chosen}
use Rattle.game_core.specs.declared.tree.Node.{Node}
use Rattle.game_core.specs.Tree.{IsBelow, action_count}
use Rattle.written_trees.specs.Written.{SetUse}
use Rattle.written_trees.specs.Described.{key_of}
use Rattle.written_trees.specs.Building.{PartialSet, set_place, may_be_first, repeats_actions, new_set, used_set, with_use, use_set, use_some_set, partial_count, finished_set}
use Rattle.written_trees.proofs.ListLemmas.{map-set_same, map-map, position_past}
use Rattle.written_trees.proofs.MemberLemmas.{NameSets, HaveMembers, have_members-none, have_members-new, have_members-again}

-- how many actions the sets have
abbrev pub counts : List PartialSet → List ℕ
counts sets = map (λ set. length set.actions) sets

-- the number of the set that a node uses
abbrev pub used_number : List PartialSet → Option SetUse → Option ℕ
used_number sets used = option_map (λ u. set_place sets (key_of u)) used

-- What node k makes of the sets: they keep the numbers of their actions, at most one is new, the node names one of them, and it
-- comes last among that one's members.
pub record GrowsTo (k : ℕ) (sets : List PartialSet) (number : Option ℕ) (others : List PartialSet) : Type 0 where
  pub more : List ℕ
  pub counts_are : counts others ≡ counts sets ++ more
  pub few : length others ≤ suc (length sets)
  pub within : IsBelow (length others) number
  pub have_members : (nodes : List Node) (node : Node) → length nodes ≡ k → node.set ≡ number → NameSets (length sets) nodes → HaveMembers nodes sets → HaveMembers (nodes ++ node ∷ []) others

-- the node uses a new set
grows-new : (k : ℕ) (sets : List PartialSet) (new : PartialSet) → new.members ≡ k ∷ [] → GrowsTo k sets (Some (length sets)) (sets ++ new ∷ [])
grows-new k sets new one = record {
  more = length new.actions ∷ [];
  counts_are = map-append (λ set. length set.actions) sets (new ∷ []);
  few = omega (arith, length-append sets (new ∷ []));
  within = omega (arith, length-append sets (new ∷ []));
  have_members = λ nodes node long is within h. have_members-new nodes node sets new is (rw long one) within h;
}

-- the node uses a set again
grows-again : (k : ℕ) (sets : List PartialSet) (p : ℕ) (old new : PartialSet) → slice_get sets p ≡ Some old → new.actions ≡ old.actions → new.members ≡ old.members ++ k ∷ [] → GrowsTo k sets (Some p) (slice_set sets p new)
grows-again k sets p old new there same one = record {
  more = [];
  counts_are = map-set_same (λ set. length set.actions) sets p old new there (rw same refl) ∙ sym (append-nil (counts sets));
  few = omega (arith, length-set sets p new);
  within = omega (arith, length-set sets p new, slice_get_within sets p old there);
  have_members = λ nodes node long is within h. have_members-again nodes node sets p old new is there (rw long one) h;
}

-- the node uses no set
grows-none : (k : ℕ) (sets : List PartialSet) → GrowsTo k sets None sets
grows-none k sets = record {
  more = [];
  counts_are = sym (append-nil (counts sets));
  few = omega arith;
  within = tt;
  have_members = λ nodes node long is within h. have_members-none nodes node sets is h;
}

-- the node uses a set
grows-use : (k : ℕ) (sets others : List PartialSet) (used : SetUse) → use_set k sets used ≡ Some others → GrowsTo k sets (Some (set_place sets (key_of used))) others
grows-use k sets others used e = go (slice_get sets (set_place sets (key_of used))) refl e
  where
    go : (found : Option PartialSet) → slice_get sets (set_place sets (key_of used)) ≡ found → with_use k sets used found ≡ Some others → GrowsTo k sets (Some (set_place sets (key_of used))) others
    go None none h =
        let a = bind_some used.actions _ others h in
        let c = chosen (may_be_first used.owner a.0) (Some (sets ++ new_set k used a.0 ∷ [])) others a.2 in
        let place : set_place sets (key_of used) ≡ length sets = position_past _ sets none in
        rw (place, ← same_Some _ _ c.1) (grows-new k sets (new_set k used a.0) refl)
    go (Some set) there h =
        let c = chosen (repeats_actions set.actions used.actions) _ others h in
        rw (← same_Some _ _ c.1) (grows-again k sets (set_place sets (key_of used)) set (used_set k used set) there refl refl)

-- what a node makes of the sets
pub grows : (k : ℕ) (sets others : List PartialSet) (used : Option SetUse) → use_some_set k sets used ≡ Some others → GrowsTo k sets (used_number sets used) others
grows k sets others None e = rw (← same_Some _ _ e) (grows-none k sets)
grows k sets others (Some used) e = grows-use k sets others used e

-- a set keeps the number of its actions
pub same_count : (k : ℕ) (sets others : List PartialSet) (number : Option ℕ) → GrowsTo k sets number others → (named : Option ℕ) → IsBelow (length sets) named → partial_count sets named ≡ partial_count others named
same_count k sets others number g None h = refl
same_count k sets others number g (Some s) h =
    let inside : s < length (counts sets) = omega (arith, length-map sets (λ set. length set.actions)) in
    rw g.counts_are (sym (get_or_append_left (counts sets) g.more 0 s inside))

-- how many actions a set has at the end
pub count_is : (sets : List PartialSet) (named : Option ℕ) → action_count (map finished_set sets) named ≡ partial_count sets named
count_is sets None = refl
count_is sets (Some s) = ap (λ v. get_or v s 0) (map-map (λ set. length set.actions) finished_set sets)

-- there are no fewer sets
pub no_fewer : (k : ℕ) (sets others : List PartialSet) (number : Option ℕ) → GrowsTo k sets number others → length sets ≤ length others
no_fewer k sets others number g =
    let L = λ (set : PartialSet). length set.actions in
    let lengths : length (counts others) ≡ length (counts sets) + length g.more = ap length g.counts_are ∙ length-append (counts sets) g.more in
    omega (arith, length-map sets L, length-map others L)

-- a number below one bound is below a greater one
pub within_more : (m n : ℕ) (number : Option ℕ) → m ≤ n → IsBelow m number → IsBelow n number
within_more m n None le h = tt
within_more m n (Some i) le h = omega arith

-- each node names a set, also the new one
pub name_sets_more : (k : ℕ) (sets others : List PartialSet) (nodes : List Node) (node : Node) → GrowsTo k sets node.set others → NameSets (length sets) nodes → NameSets (length others) (nodes ++ node ∷ [])
name_sets_more k sets others nodes node g h =
    let P = λ (one : Node). IsBelow (length others) one.set in
    All-push P nodes node (All-weaker (λ one. IsBelow (length sets) one.set) P (λ one. within_more (length sets) (length others) one.set (no_fewer k sets others node.set g)) nodes h) g.within
