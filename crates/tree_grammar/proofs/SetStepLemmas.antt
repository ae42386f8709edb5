-- A set that a node uses, as the reader finds it among those before it.
use Rattle.std.proofs.Common.{◌≡◌, ℕ, ◌+◌, Bool, true, false, not, ◌||◌, List, [], ◌∷◌, ◌++◌, length, map, option_map, slice_get, slice_set, slice_index_or, get_or, nat_lt, ◌<◌, Option, Some, None, if◌then◌else◌, refl, sym, ap, ap₂, ◌∙◌, arith}
use Rattle.std.specs.Prelude.{Ok}
use Rattle.std.specs.List.{position_or_len, list_any}
use Rattle.std.proofs.lemmas.Bool.Decides.{nat_tests}
use Rattle.std.proofs.lemmas.Option.{get_or_from_slice_get, slice_get-map, slice_get-get_or}
use Rattle.std.proofs.lemmas.List.{map-append, map-set, length-map}
use Rattle.std.proofs.Math.Seq.{map-set_same}
use Rattle.file_parts.specs.declared.stop.PartStop.{PartStop}
use Rattle.file_parts.specs.declared.stop.PartStop.TheVariants.{Unexpected}
use Rattle.file_parts.specs.Reading.{optional_text_at, count_at}
use Rattle.file_parts.specs.Parsing.{unexpected_at, IsPartStop}
use Rattle.file_parts.proofs.ParseLemmas.{refused_first}
use Rattle.file_parts.proofs.ReaderLemmas.{chain}
use Rattle.written_trees.specs.Described.{SetKey, same_set}
use Rattle.written_trees.specs.Building.{PartialSet, key_of_partial, set_place, new_set, used_set}
use Rattle.written_trees.proofs.InsertedKeyLemmas.{position-map, slice_get-none}
use Rattle.written_trees.proofs.ListLemmas.{map-map}
use Rattle.tree_grammar.specs.declared.sets.KeptSet.{KeptSet}
use Rattle.tree_grammar.specs.declared.sets.SetKey.{SetKey as Key}
use Rattle.tree_grammar.specs.declared.sets.Sets.TheInside.{Inside as KeptSets}
use Rattle.tree_grammar.specs.Uses.{partial_set, partial_sets, AreSets}
use Rattle.tree_grammar.specs.TreeParsing.{bare_use, parse_first_list, parse_later_list, parse_use, parse_set}
use Rattle.tree_grammar.specs.declared.kinds.EfgKind.{EfgKind}
use Rattle.tree_grammar.specs.declared.kinds.EfgKind.TheVariants.{Node}
use Rattle.game_core.specs.declared.token.Token.{Token}

-- ---- places
-- what is found at a place below the length stands there
pub found_at : {A : Type 0} (list : List A) (i : ℕ) (x : A) → (true ≡ nat_lt i (length list)) × (x ≡ slice_index_or list i x) → slice_get list i ≡ Some x
found_at list i x h =
    let lt : i < length list = grind (arith, nat_tests, h.0) in
    slice_get-get_or list i x lt ∙ ap Some (sym h.1)

-- whether one passes there
any-map : {X Y : Type 0} (p : X → Bool) (f : Y → X) (ys : List Y) → list_any p (map f ys) ≡ list_any (λ y. p (f y)) ys
any-map p f [] = refl
any-map p f (y ∷ ys) = ap (λ b. p (f y) || b) (any-map p f ys)

-- ---- keys
-- keys that are those of the sets in order
module _ {K : Type 0} (f : K → SetKey) (keys : List K) (sets : List PartialSet) (are : map f keys ≡ map key_of_partial sets) (key : SetKey) where
  -- a key has the place of its set
  pub place_is : position_or_len (λ k. same_set key (f k)) keys ≡ set_place sets key
  place_is = sym (position-map (same_set key) f keys) ∙ ap (position_or_len (same_set key)) are ∙ position-map (same_set key) key_of_partial sets

  -- a key is there where its set is
  any_is : list_any (λ k. same_set key (f k)) keys ≡ list_any (λ set. same_set key (key_of_partial set)) sets
  any_is = sym (any-map (same_set key) f keys) ∙ ap (list_any (same_set key)) are ∙ any-map (same_set key) key_of_partial sets

  -- a new key has no set
  pub new_key : list_any (λ k. same_set key (f k)) keys ≡ false → slice_get sets (set_place sets key) ≡ None
  new_key e = slice_get-none (λ set. same_set key (key_of_partial set)) sets (sym any_is ∙ e)

-- ---- the code's words
-- what a negated test says
negated : (b test : Bool) → b ≡ not test → test ≡ not b
negated true true e = e
negated true false e = refl
negated false true e = refl
negated false false e = e

-- what is known of the set that comes, before its list
pub record Comes (sets : KeptSets) (owner : Option ℕ) (tokens after : List Token) (label : ℕ) (name : Option (List ℕ)) (place : ℕ) (is_new : Bool) : Type 0 where
  pub are : AreSets sets
  pub following : List Token
  pub is_label : count_at tokens ≡ Some (label, following)
  pub is_name : (name, after) ≡ optional_text_at following
  pub is_place : place ≡ position_or_len (λ k. same_set (owner, label) (k.owner, k.label)) sets.keys.keys
  pub within : place < length sets.keys.keys + (if is_new then 1 else 0)
  pub is_added : is_new ≡ not (list_any (λ k. same_set (owner, label) (k.owner, k.label)) sets.keys.keys)

-- what is read at a place stands there
stands_at : {X : Type 0} (xs : List X) (i : ℕ) (x : X) → i < length xs → x ≡ get_or xs i x → slice_get xs i ≡ Some x
stands_at xs i x lt is = slice_get-get_or xs i x lt ∙ ap Some (sym is)

-- the action count of a set that is there
pub count_found : (sets : List KeptSet) (s : ℕ) (set : KeptSet) → slice_get sets s ≡ Some set → slice_index_or (map (λ set. length set.actions) (map partial_set sets)) s 0 ≡ length set.actions.items
count_found sets s set e =
    get_or_from_slice_get (map (λ set. length set.actions) (map partial_set sets)) s (length set.actions.items) 0
    (slice_get-map (λ (set : PartialSet). length set.actions) (map partial_set sets) s ∙ ap (option_map (λ (set : PartialSet). length set.actions)) (slice_get-map partial_set sets s ∙ ap (option_map partial_set) e))

-- no number comes
pub step_without : (k : ℕ) (sets : List PartialSet) (owner : Option ℕ) (tokens : List Token) (stopped : PartStop EfgKind) → count_at tokens ≡ None → stopped ≡ Unexpected (unexpected_at Node tokens) → IsPartStop stopped (parse_set k sets owner tokens)
unfolding parse_set
step_without k sets owner tokens stopped none u = rw (none, u) refl

-- the number and the name come first
step_is : (k : ℕ) (sets : List PartialSet) (owner : Option ℕ) (label : ℕ) (name : Option (List ℕ)) (tokens following after : List Token) → count_at tokens ≡ Some (label, following) → (name, after) ≡ optional_text_at following
    → parse_set k sets owner tokens ≡ chain {B = (List PartialSet × ℕ) × List Token} (parse_use k sets (bare_use owner label name) (slice_get sets (set_place sets (owner, label))) after) (λ more. Ok ((more.0, set_place sets (owner, label)), more.1))
unfolding parse_set
step_is k sets owner label name tokens following after l n = rw (l, ← n) refl

module _ {sets : KeptSets} {owner : Option ℕ} {tokens after : List Token} {label : ℕ} {name : Option (List ℕ)} {place : ℕ} {is_new : Bool} (h : Comes sets owner tokens after label name place is_new) where
  -- the keys are those of the sets that are partial
  keys_so_far : map {B = SetKey} (λ k. (k.owner, k.label)) sets.keys.keys ≡ map key_of_partial (partial_sets sets)
  keys_so_far = h.are.keys_are ∙ sym (map-map key_of_partial partial_set sets.list.items)

  -- the place is that of the set
  place_partial : place ≡ set_place (partial_sets sets) (owner, label)
  place_partial = h.is_place ∙ place_is (λ k. (k.owner, k.label)) sets.keys.keys (partial_sets sets) keys_so_far (owner, label)

  -- the place of a known set
  pub known_within : is_new ≡ false → place < length sets.list.items
  known_within known =
      let below : place < length sets.keys.keys + 0 = rw known at h.within in
      let same : length sets.keys.keys ≡ length sets.list.items = sym (length-map sets.keys.keys (λ k. (k.owner, k.label))) ∙ ap length h.are.keys_are ∙ length-map sets.list.items (λ s. (s.owner, s.label)) in
      omega arith

  -- a first use begins a set
  step_begins : (k : ℕ) → is_new ≡ true → parse_set k (partial_sets sets) owner tokens ≡ chain {B = (List PartialSet × ℕ) × List Token} (parse_use k (partial_sets sets) (bare_use owner label name) None after) (λ more. Ok ((more.0, place), more.1))
  step_begins k new =
      let none = new_key (λ k. (k.owner, k.label)) sets.keys.keys (partial_sets sets) keys_so_far (owner, label) (negated true _ (sym new ∙ h.is_added)) in
      step_is k (partial_sets sets) owner label name tokens h.following after h.is_label h.is_name
      ∙ ap₂ (λ (found : Option PartialSet) (p : ℕ). chain {B = (List PartialSet × ℕ) × List Token} (parse_use k (partial_sets sets) (bare_use owner label name) found after) (λ more. Ok ((more.0, p), more.1))) none (sym place_partial)

  -- the set at the place of a known key stands among those that are partial
  stands_so_far : (set : KeptSet) → slice_get sets.list.items place ≡ Some set → slice_get (partial_sets sets) (set_place (partial_sets sets) (owner, label)) ≡ Some (partial_set set)
  stands_so_far set at = rw (← place_partial) (slice_get-map partial_set sets.list.items place ∙ ap (option_map partial_set) at)

  -- a later use goes on with it
  step_goes_on : (k : ℕ) (set : KeptSet) → slice_get sets.list.items place ≡ Some set
      → parse_set k (partial_sets sets) owner tokens ≡ chain {B = (List PartialSet × ℕ) × List Token} (parse_use k (partial_sets sets) (bare_use owner label name) (Some (partial_set set)) after) (λ more. Ok ((more.0, place), more.1))
  step_goes_on k set at =
      step_is k (partial_sets sets) owner label name tokens h.following after h.is_label h.is_name
      ∙ ap₂ (λ (found : Option PartialSet) (p : ℕ). chain {B = (List PartialSet × ℕ) × List Token} (parse_use k (partial_sets sets) (bare_use owner label name) found after) (λ more. Ok ((more.0, p), more.1))) (stands_so_far set at) (sym place_partial)

  -- no first list is read
  pub first_refused : (k : ℕ) (stopped : PartStop EfgKind) → is_new ≡ true → IsPartStop stopped (parse_first_list owner label after) → IsPartStop stopped (parse_set k (partial_sets sets) owner tokens)
  first_refused k stopped new r = rw (step_begins k new) (refused_first stopped _ _ (refused_first stopped (parse_first_list owner label after) _ r))

  -- a set was partial
  pub first_used : (k : ℕ) (more : KeptSets) (set : KeptSet) (rest : List Token) → is_new ≡ true → parse_first_list owner label after ≡ Ok (set.actions.items, rest) → partial_set set ≡ new_set k (bare_use owner label name) set.actions.items → more.list.items ≡ sets.list.items ++ set ∷ []
      → parse_set k (partial_sets sets) owner tokens ≡ Ok ((partial_sets more, place), rest)
  first_used k more set rest new read is list = rw (list, map-append partial_set sets.list.items (set ∷ []), is) (step_begins k new ∙ rw read refl)

  -- no later list is read
  pub later_refused : (k : ℕ) (set : KeptSet) (stopped : PartStop EfgKind) → is_new ≡ false → set ≡ get_or sets.list.items place set → IsPartStop stopped (parse_later_list set.owner set.actions.items after) → IsPartStop stopped (parse_set k (partial_sets sets) owner tokens)
  later_refused k set stopped known is r = rw (step_goes_on k set (stands_at sets.list.items place set (known_within known) is)) (refused_first stopped _ _ (refused_first stopped (parse_later_list set.owner set.actions.items after) _ r))

  -- a set was used again
  pub later_used : (k : ℕ) (more : KeptSets) (set next : KeptSet) (rest : List Token) → is_new ≡ false → set ≡ get_or sets.list.items place set → parse_later_list set.owner set.actions.items after ≡ Ok (tt, rest) → partial_set next ≡ used_set k (bare_use owner label name) (partial_set set)
      → more.list.items ≡ slice_set sets.list.items place next → parse_set k (partial_sets sets) owner tokens ≡ Ok ((partial_sets more, place), rest)
  later_used k more set next rest known is read next_is list = rw (list, map-set partial_set sets.list.items place next, next_is) (step_goes_on k set (stands_at sets.list.items place set (known_within known) is) ∙ rw read (ap (λ (p : ℕ). Ok ((slice_set (partial_sets sets) p (used_set k (bare_use owner label name) (partial_set set)), place), rest)) (sym place_partial)))

-- ---- what stays true of the sets
-- with a set of a first use
pub sets_begin : (sets more : KeptSets) (k : ℕ) (key : Key) (name : Option (List ℕ)) (set : KeptSet) (is_new : Bool) → AreSets sets → is_new ≡ true → more.keys.keys ≡ (if is_new then sets.keys.keys ++ key ∷ [] else sets.keys.keys) → more.list.items ≡ sets.list.items ++ set ∷ []
    → partial_set set ≡ new_set k (bare_use key.owner key.label name) set.actions.items → AreSets more
sets_begin sets more k key name set is_new are new keys list is =
    let of_key : Key → SetKey = λ k. (k.owner, k.label) in
    let of_set : KeptSet → SetKey = λ s. (s.owner, s.label) in
    let last : of_key key ≡ of_set set = sym (ap key_of_partial is) in
    let added : more.keys.keys ≡ sets.keys.keys ++ key ∷ [] = rw new at keys in
    record { keys_are = rw (added, list) (map-append of_key sets.keys.keys (key ∷ []) ∙ ap₂ (λ front one. front ++ one ∷ []) are.keys_are last ∙ sym (map-append of_set sets.list.items (set ∷ []))) }

-- with a set that is used again
pub sets_go_on : (sets more : KeptSets) (k : ℕ) (key : Key) (name : Option (List ℕ)) (place : ℕ) (set next : KeptSet) (is_new : Bool) → AreSets sets → is_new ≡ false → more.keys.keys ≡ (if is_new then sets.keys.keys ++ key ∷ [] else sets.keys.keys) → set ≡ get_or sets.list.items place set
    → more.list.items ≡ slice_set sets.list.items place next → partial_set next ≡ used_set k (bare_use key.owner key.label name) (partial_set set) → AreSets more
sets_go_on sets more k key name place set next is_new are known keys is list next_is =
    let of_set : KeptSet → SetKey = λ s. (s.owner, s.label) in
    let kept : more.keys.keys ≡ sets.keys.keys = rw known at keys in
    record { keys_are = rw (kept, list) (are.keys_are ∙ sym (map-set_same of_set sets.list.items place next set (ap key_of_partial next_is ∙ ap of_set is))) }
