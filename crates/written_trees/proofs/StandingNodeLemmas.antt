-- The nodes of a tree beside the written nodes that they stand for.
use Rattle.std.proofs.Common.{◌≡◌, ℕ, suc, nat_eq, List, [], ◌∷◌, ◌++◌, length, map, slice_get, All, IfSome, Option, Some, None, option_map, refl, sym, ap, ◌∙◌, subst}
use Rattle.std.specs.List.{position_or_len}
use Rattle.std.proofs.lemmas.Bool.Decides.{Decides-eqb}
use Rattle.std.proofs.lemmas.List.Elements.{All-nil, All-cons, All-head, All-tail, All-push, All-weaker}
use Rattle.std.proofs.lemmas.Option.{slice_get_within, slice_get-map, get_or_from_slice_get}
use Rattle.written_trees.proofs.NumberedKeyLemmas.{sets_of, outcomes_of, set_number, outcome_number, IsNumberedFor, AreNumberedFor}
use Rattle.game_core.specs.declared.tree.Node.{Node}
use Rattle.game_core.specs.Tree.{InformationSet, IsBelow, kind_of_owner, kind_at}
use Rattle.written_trees.specs.Written.{SetUse, OutcomeUse, WrittenNode}
use Rattle.written_trees.specs.Described.{key_of, same_set, set_uses, outcome_uses, kind_of_use, SetKey, Names, AreFirstUses, StandsFor, StandForEach}
use Rattle.written_trees.proofs.InsertedKeyLemmas.{slice_get-found}
use Rattle.written_trees.proofs.KeyOrderLemmas.{names_number, number_names}
use Rattle.written_trees.proofs.ListLemmas.{at_end}
use Rattle.written_trees.proofs.SetUseLemmas.{same_set-Decides}
use Rattle.written_trees.proofs.UseLemmas.{IsUsedSet, IsUsedOutcome, sets_more, outcomes_more}

-- ---- nodes that stand for each
-- a node stands for a written one, with the sets and the outcomes that all written nodes use
abbrev pub StandsIn : List WrittenNode → Node → WrittenNode → Type 0
StandsIn all node one = IsNumberedFor (sets_of (set_uses all)) (outcomes_of (outcome_uses all)) node one

-- nodes stand for written ones
abbrev pub Stand : List WrittenNode → List Node → List WrittenNode → Type 0
Stand all nodes written = AreNumberedFor (sets_of (set_uses all)) (outcomes_of (outcome_uses all)) nodes written

-- there are as many
pub stand_length : (all : List WrittenNode) (nodes : List Node) (written : List WrittenNode) → Stand all nodes written → length nodes ≡ length written
stand_length all [] [] h = refl
stand_length all [] (one ∷ written) h = absurd h
stand_length all (node ∷ nodes) [] h = absurd h
stand_length all (node ∷ nodes) (one ∷ written) h = ap suc (stand_length all nodes written h.1)

pub each_length : (keys : List SetKey) (labels : List ℕ) (nodes : List Node) (written : List WrittenNode) → StandForEach keys labels nodes written → length nodes ≡ length written
each_length keys labels [] [] h = refl
each_length keys labels [] (one ∷ written) h = absurd h
each_length keys labels (node ∷ nodes) [] h = absurd h
each_length keys labels (node ∷ nodes) (one ∷ written) h = ap suc (each_length keys labels nodes written h.1)

-- one more stands for one more
pub stand-push : (all : List WrittenNode) (nodes : List Node) (node : Node) (written : List WrittenNode) (one : WrittenNode) → Stand all nodes written → StandsIn all node one → Stand all (nodes ++ node ∷ []) (written ++ one ∷ [])
stand-push all [] node [] one h s = (s, tt)
stand-push all [] node (other ∷ written) one h s = absurd h
stand-push all (first ∷ nodes) node [] one h s = absurd h
stand-push all (first ∷ nodes) node (other ∷ written) one h s = (h.0, stand-push all nodes node written one h.1 s)

-- nodes that stand for written ones and one more: the last of them, and those before it
pub record StandBefore (all : List WrittenNode) (nodes : List Node) (written : List WrittenNode) (one : WrittenNode) : Type 0 where
  pub front : List Node
  pub node : Node
  pub is : nodes ≡ front ++ node ∷ []
  pub front_stands : Stand all front written
  pub node_stands : StandsIn all node one

-- there are such
pub stand_before : (all : List WrittenNode) (nodes : List Node) (written : List WrittenNode) (one : WrittenNode) → Stand all nodes (written ++ one ∷ []) → StandBefore all nodes written one
stand_before all [] [] one h = absurd h
stand_before all [] (other ∷ written) one h = absurd h
stand_before all (node ∷ []) [] one h = record { front = []; node = node; is = refl; front_stands = tt; node_stands = h.0 }
stand_before all (node ∷ next ∷ nodes) [] one h = absurd h.1
stand_before all (node ∷ nodes) (other ∷ written) one h =
    let r = stand_before all nodes written one h.1 in
    record { front = node ∷ r.front; node = r.node; is = ap (λ v. node ∷ v) r.is; front_stands = (h.0, r.front_stands); node_stands = r.node_stands }

-- what holds of each node that stands for a written one of some kind
pub stand_all : (all : List WrittenNode) (Q : WrittenNode → Type 0) (P : Node → Type 0) → ((node : Node) (one : WrittenNode) → StandsIn all node one → Q one → P node) → (nodes : List Node) (written : List WrittenNode) → Stand all nodes written → All Q written → All P nodes
stand_all all Q P each [] [] h q = All-nil P
stand_all all Q P each [] (one ∷ written) h q = absurd h
stand_all all Q P each (node ∷ nodes) [] h q = absurd h
stand_all all Q P each (node ∷ nodes) (one ∷ written) h q = All-cons P node nodes (each node one h.0 (All-head Q one written q)) (stand_all all Q P each nodes written h.1 (All-tail Q one written q))

-- ---- used sets and outcomes
-- a written node's set and outcome are among those that all use
pub record IsUsedIn (all : List WrittenNode) (one : WrittenNode) : Type 0 where
  pub set_used : IfSome one.set (IsUsedSet (set_uses all))
  pub outcome_used : IfSome one.outcome (IsUsedOutcome (outcome_uses all))

-- what follows where there is something
if_some_then : {A : Type 0} (o : Option A) (P Q : A → Type 0) → ((x : A) → P x → Q x) → IfSome o P → IfSome o Q
if_some_then None P Q f h = tt
if_some_then (Some x) P Q f h = f x h

-- they stay among them when one more node comes
used_longer : (all : List WrittenNode) (last one : WrittenNode) → IsUsedIn all one → IsUsedIn (all ++ last ∷ []) one
used_longer all last one u = record { set_used = if_some_then one.set _ _ ((sets_more all last).stay_used) u.set_used; outcome_used = if_some_then one.outcome _ _ ((outcomes_more all last).stay_used) u.outcome_used }

-- the sets and the outcomes of written nodes are used by them
pub all_used : (written : List WrittenNode) → All (IsUsedIn written) written
all_used = at_end (λ written. All (IsUsedIn written) written) (All-nil (IsUsedIn []))
    (λ written one h. All-push (IsUsedIn (written ++ one ∷ [])) written one (All-weaker (IsUsedIn written) (IsUsedIn (written ++ one ∷ [])) (used_longer written one) written h) (record { set_used = (sets_more written one).is_used; outcome_used = (outcomes_more written one).is_used }))

-- ---- one more written node
-- a written node's set and outcome have the same numbers among all as among others
pub record HasNumbers (all others : List WrittenNode) (one : WrittenNode) : Type 0 where
  pub set_same : set_number (sets_of (set_uses all)) one.set ≡ set_number (sets_of (set_uses others)) one.set
  pub outcome_same : outcome_number (outcomes_of (outcome_uses all)) one.outcome ≡ outcome_number (outcomes_of (outcome_uses others)) one.outcome

-- then nodes stand for them there too
stand_alike : (all others : List WrittenNode) (nodes : List Node) (written : List WrittenNode) → All (HasNumbers all others) written → Stand all nodes written → Stand others nodes written
stand_alike all others [] [] same h = tt
stand_alike all others [] (one ∷ written) same h = absurd h
stand_alike all others (node ∷ nodes) [] same h = absurd h
stand_alike all others (node ∷ nodes) (one ∷ written) same h =
    let s = All-head (HasNumbers all others) one written same in
    (record { kind_is = h.0.kind_is; set_is = h.0.set_is ∙ s.set_same; outcome_is = h.0.outcome_is ∙ s.outcome_same }, stand_alike all others nodes written (All-tail (HasNumbers all others) one written same) h.1)

-- numbers stay when one more node comes
has_numbers : (all : List WrittenNode) (last one : WrittenNode) → IsUsedIn all one → HasNumbers (all ++ last ∷ []) all one
has_numbers all last one u = record { set_same = (sets_more all last).numbers_stay one.set u.set_used; outcome_same = (outcomes_more all last).numbers_stay one.outcome u.outcome_used }

-- so nodes stand for the others when one more comes
pub stand_longer : (nodes : List Node) (written : List WrittenNode) (one : WrittenNode) → Stand written nodes written → Stand (written ++ one ∷ []) nodes written
stand_longer nodes written one h =
    let P = HasNumbers written (written ++ one ∷ []) in
    stand_alike written (written ++ one ∷ []) nodes written (All-weaker (IsUsedIn written) P (λ node u. let n = has_numbers written one node u in record { set_same = sym n.set_same; outcome_same = sym n.outcome_same }) written (all_used written)) h

-- and when the last goes
pub stand_shorter : (nodes : List Node) (written : List WrittenNode) (one : WrittenNode) → Stand (written ++ one ∷ []) nodes written → Stand written nodes written
stand_shorter nodes written one h =
    stand_alike (written ++ one ∷ []) written nodes written (All-weaker (IsUsedIn written) (HasNumbers (written ++ one ∷ []) written) (has_numbers written one) written (all_used written)) h

-- ---- keys
-- the key of a used set stands at its number
pub key_there : (uses : List (ℕ × SetUse)) (u : SetUse) → IsUsedSet uses u → slice_get (sets_of uses) (position_or_len (same_set (key_of u)) (sets_of uses)) ≡ Some (key_of u)
key_there uses u h = slice_get-found same_set same_set-Decides (sets_of uses) (key_of u) h

-- the number of a used set is one of the sets'
pub set_within : (uses : List (ℕ × SetUse)) (o : Option SetUse) → IfSome o (IsUsedSet uses) → IsBelow (length (sets_of uses)) (set_number (sets_of uses) o)
set_within uses None h = tt
set_within uses (Some u) h = slice_get_within (sets_of uses) _ (key_of u) (key_there uses u h)

-- the number of a used outcome is one of the outcomes'
pub outcome_within : (uses : List (ℕ × OutcomeUse)) (o : Option OutcomeUse) → IfSome o (IsUsedOutcome uses) → IsBelow (length (outcomes_of uses)) (outcome_number (outcomes_of uses) o)
outcome_within uses None h = tt
outcome_within uses (Some u) h = slice_get_within (outcomes_of uses) _ u.label (slice_get-found nat_eq Decides-eqb (outcomes_of uses) u.label h)

-- who chooses there
pub kind_there : (uses : List (ℕ × SetUse)) (sets : List InformationSet) (o : Option SetUse) → map (λ set. set.owner) sets ≡ map (λ key. key.0) (sets_of uses) → IfSome o (IsUsedSet uses) → kind_of_use o ≡ kind_at sets (set_number (sets_of uses) o)
kind_there uses sets None owners h = refl
kind_there uses sets (Some u) owners h =
    let at = position_or_len (same_set (key_of u)) (sets_of uses) in
    let there : slice_get (map (λ key. key.0) (sets_of uses)) at ≡ Some u.owner = slice_get-map (λ key. key.0) (sets_of uses) at ∙ ap (option_map (λ key. key.0)) (key_there uses u h) in
    ap kind_of_owner (sym (rw owners (get_or_from_slice_get _ at u.owner None there)))

-- ---- the keys that numbers name
-- nodes with the numbers of used sets and outcomes stand for the written ones
pub stand_for : (all : List WrittenNode) (nodes : List Node) (written : List WrittenNode) → Stand all nodes written → All (IsUsedIn all) written → StandForEach (sets_of (set_uses all)) (outcomes_of (outcome_uses all)) nodes written
stand_for all [] [] h u = tt
stand_for all [] (one ∷ written) h u = absurd h
stand_for all (node ∷ nodes) [] h u = absurd h
stand_for all (node ∷ nodes) (one ∷ written) h u =
    let used = All-head (IsUsedIn all) one written u in
    let keys = sets_of (set_uses all) in
    let labels = outcomes_of (outcome_uses all) in
    let stands : StandsFor keys labels node one = record {
      kind_is = h.0.kind_is;
      set_is = subst (λ n. Names keys n (option_map key_of one.set)) (sym h.0.set_is) (number_names same_set same_set-Decides key_of keys one.set used.set_used);
      outcome_is = subst (λ n. Names labels n (option_map (λ (u : OutcomeUse). u.label) one.outcome)) (sym h.0.outcome_is) (number_names nat_eq Decides-eqb (λ (u : OutcomeUse). u.label) labels one.outcome used.outcome_used);
    } in
    (stands, stand_for all nodes written h.1 (All-tail (IsUsedIn all) one written u))

-- nodes that stand for written ones have those numbers
pub numbered_for : (used keys : List SetKey) (given labels : List ℕ) → AreFirstUses used keys → AreFirstUses given labels → (nodes : List Node) (written : List WrittenNode) → StandForEach keys labels nodes written → AreNumberedFor keys labels nodes written
numbered_for used keys given labels k l [] [] h = tt
numbered_for used keys given labels k l [] (one ∷ written) h = absurd h
numbered_for used keys given labels k l (node ∷ nodes) [] h = absurd h
numbered_for used keys given labels k l (node ∷ nodes) (one ∷ written) h =
    let numbered : IsNumberedFor keys labels node one = record {
      kind_is = h.0.kind_is;
      set_is = names_number same_set same_set-Decides key_of used keys node.set one.set k h.0.set_is;
      outcome_is = names_number nat_eq Decides-eqb (λ (u : OutcomeUse). u.label) given labels node.outcome one.outcome l h.0.outcome_is;
    } in
    (numbered, numbered_for used keys given labels k l nodes written h.1)
