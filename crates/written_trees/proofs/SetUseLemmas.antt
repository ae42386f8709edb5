-- One more use of a set.
use Rattle.std.proofs.Common.{◌≡◌, ℕ, nat_eq, List, [], ◌∷◌, ◌++◌, map, slice_get, slice_set, Option, Some, None, Decides, true≢false, if◌then◌else◌, refl, sym, ap, ap₂, ◌∙◌, subst}
use Rattle.std.specs.List.{position_or_len}
use Rattle.std.specs.Option.{option_eq, unwrap_or}
use Rattle.std.proofs.lemmas.Bool.Decides.{Decides-eqb, Decides-and, Decides-like}
use Rattle.std.proofs.lemmas.List.{map-append}
use Rattle.std.proofs.lemmas.List.Elements.{All-nil, All-push}
use Rattle.written_trees.proofs.NumberedKeyLemmas.{sets_of}
use Rattle.lists.specs.Options.{◌>>=◌}
use Rattle.game_core.specs.declared.tree.Action.{Action}
use Rattle.written_trees.specs.Written.{SetUse}
use Rattle.written_trees.specs.Described.{SetKey, key_of, same_set, uses_of_set, first_some, RepeatsActions, AgreeOnActions}
use Rattle.written_trees.specs.Building.{PartialSet, key_of_partial, set_place, may_be_first, repeats_actions, new_set, used_set, with_use, use_set}
use Rattle.written_trees.proofs.ChanceLemmas.{may_be_first-Decides, repeats_actions-Decides}
use Rattle.written_trees.proofs.InsertedKeyLemmas.{position-map}
use Rattle.written_trees.proofs.FirstUseLemmas as first_uses
use Rattle.written_trees.proofs.UseTestLemmas.{first_some-push, All-front, tested_so, tested_if}
use Rattle.written_trees.proofs.UseStepLemmas.{partial_set, sets_so_far, AllAgree, SetStep}

-- ---- keys
-- the test of owners says whether they are one
same_owner-Decides : (a b : Option ℕ) → Decides (option_eq nat_eq a b) (a ≡ b)
same_owner-Decides None None = (λ e. refl, λ e. refl)
same_owner-Decides None (Some j) = (λ e. absurd (true≢false (sym e)), λ e. absurd (cc))
same_owner-Decides (Some i) None = (λ e. absurd (true≢false (sym e)), λ e. absurd (cc))
same_owner-Decides (Some i) (Some j) = Decides-like (nat_eq i j) (ap Some) (λ e. cc) (Decides-eqb i j)

-- the test of keys says whether they are one
pub same_set-Decides : (a b : SetKey) → Decides (same_set a b) (a ≡ b)
same_set-Decides a b =
    Decides-like (same_set a b) (λ h. ap₂ (λ owner label. (owner, label)) h.0 h.1) (λ e. (ap (λ (key : SetKey). key.0) e, ap (λ (key : SetKey). key.1) e)) (Decides-and (option_eq nat_eq a.0 b.0) (nat_eq a.1 b.1) (same_owner-Decides a.0 b.0) (Decides-eqb a.1 b.1))

-- ---- agreement
-- a later list that repeats the first keeps the agreement
AgreeOnActions-push : (first x : ℕ × SetUse) (later : List (ℕ × SetUse)) → AgreeOnActions (first ∷ later) → RepeatsActions (unwrap_or first.1.actions []) x → AgreeOnActions (first ∷ (later ++ x ∷ []))
AgreeOnActions-push first x later h repeats =
    (h.0, h.1, h.2, All-push (RepeatsActions h.0) later x h.3 (subst (λ list. RepeatsActions list x) (ap (λ list. unwrap_or list []) h.1) repeats))

-- the last list repeats the first, and the others agree
AgreeOnActions-front : (first x : ℕ × SetUse) (later : List (ℕ × SetUse)) → AgreeOnActions (first ∷ (later ++ x ∷ [])) → AgreeOnActions (first ∷ later) × RepeatsActions (unwrap_or first.1.actions []) x
AgreeOnActions-front first x later h =
    let parts = All-front (RepeatsActions h.0) later x h.3 in
    ((h.0, h.1, h.2, parts.0), subst (λ list. RepeatsActions list x) (sym (ap (λ list. unwrap_or list []) h.1)) parts.1)

-- a front of uses that agree agrees
AgreeOnActions-before : (own : List (ℕ × SetUse)) (x : ℕ × SetUse) → AgreeOnActions (own ++ x ∷ []) → AgreeOnActions own
AgreeOnActions-before [] x h = tt
AgreeOnActions-before (first ∷ later) x h = (AgreeOnActions-front first x later h).0

-- ---- the set
-- a first use begins the set
new_set_is : (k : ℕ) (u : SetUse) (actions : List Action) → u.actions ≡ Some actions → new_set k u actions ≡ partial_set (key_of u) ((k, u) ∷ [])
new_set_is k u actions e =
    λ i. record {
      owner = u.owner;
      label = u.label;
      name = sym (first_some-push [] u.name) i;
      actions = sym (ap (λ list. unwrap_or list []) e) i;
      members = k ∷ [];
    }

-- a later use goes on with it
used_set_is : (key : SetKey) (first : ℕ × SetUse) (later : List (ℕ × SetUse)) (k : ℕ) (u : SetUse) → used_set k u (partial_set key (first ∷ later)) ≡ partial_set key (first ∷ (later ++ (k, u) ∷ []))
used_set_is key first later k u =
    λ i. record {
      owner = key.0;
      label = key.1;
      name = (sym (first_some-push (map (λ x. x.1.name) (first ∷ later)) u.name) ∙ sym (ap first_some (map-append (λ x. x.1.name) (first ∷ later) ((k, u) ∷ [])))) i;
      actions = unwrap_or first.1.actions [];
      members = sym (map-append (λ x. x.0) (first ∷ later) ((k, u) ∷ [])) i;
    }

-- ---- one more use
module _ (uses : List (ℕ × SetUse)) (k : ℕ) (u : SetUse) where
  -- the set's place
  place_is : set_place (sets_so_far uses) (key_of u) ≡ position_or_len (same_set (key_of u)) (sets_of uses)
  place_is = position-map (λ set. same_set (key_of u) (key_of_partial set)) (λ key. partial_set key (uses_of_set key uses)) (sets_of uses)

  -- the first use of its set
  module _ (new : uses_of_set (key_of u) uses ≡ []) where
    -- nothing stands at its place
    new_use : use_set k (sets_so_far uses) u ≡ with_use k (sets_so_far uses) u None
    new_use = ap (with_use k (sets_so_far uses) u) (ap (slice_get (sets_so_far uses)) place_is ∙ first_uses.new_place same_set key_of same_set-Decides partial_set uses k u new)

    -- the sets with the new one
    new_sets : (actions : List Action) → u.actions ≡ Some actions → sets_so_far uses ++ new_set k u actions ∷ [] ≡ sets_so_far (uses ++ (k, u) ∷ [])
    new_sets actions e = ap (λ set. sets_so_far uses ++ set ∷ []) (new_set_is k u actions e) ∙ sym (first_uses.new_numbered same_set key_of same_set-Decides partial_set uses k u new)

    -- where it is partial, it agrees
    new_so : (sets : List PartialSet) → with_use k (sets_so_far uses) u None ≡ Some sets → AgreeOnActions ((k, u) ∷ []) × (sets ≡ sets_so_far (uses ++ (k, u) ∷ []))
    new_so sets h = by u.actions refl h
      where
        by : (list : Option (List Action)) → u.actions ≡ list → (list >>= λ actions. if may_be_first u.owner actions then Some (sets_so_far uses ++ new_set k u actions ∷ []) else None) ≡ Some sets → AgreeOnActions ((k, u) ∷ []) × (sets ≡ sets_so_far (uses ++ (k, u) ∷ []))
        by None e h = absurd (cc)
        by (Some actions) e h =
            let t = tested_so (may_be_first u.owner actions) (sets_so_far uses ++ new_set k u actions ∷ []) sets (may_be_first-Decides u.owner actions) h in
            ((actions, e, t.0, All-nil (RepeatsActions actions)), t.1 ∙ new_sets actions e)

    -- where it agrees, it is partial
    new_if : AgreeOnActions ((k, u) ∷ []) → with_use k (sets_so_far uses) u None ≡ Some (sets_so_far (uses ++ (k, u) ∷ []))
    new_if h =
        ap (λ list. list >>= λ actions. if may_be_first u.owner actions then Some (sets_so_far uses ++ new_set k u actions ∷ []) else None) h.1
        ∙ tested_if (may_be_first u.owner h.0) (sets_so_far uses ++ new_set k u h.0 ∷ []) (may_be_first-Decides u.owner h.0) h.2
        ∙ ap Some (new_sets h.0 h.1)

  -- a later use of its set
  module _ (first : ℕ × SetUse) (later : List (ℕ × SetUse)) (known : uses_of_set (key_of u) uses ≡ first ∷ later) where
    -- the sets with the one that goes on
    known_sets : slice_set (sets_so_far uses) (set_place (sets_so_far uses) (key_of u)) (used_set k u (partial_set (key_of u) (first ∷ later))) ≡ sets_so_far (uses ++ (k, u) ∷ [])
    known_sets = ap₂ (slice_set (sets_so_far uses)) place_is (used_set_is (key_of u) first later k u) ∙ sym (first_uses.known_numbered same_set key_of same_set-Decides partial_set uses k u first later known)

    -- it goes on where the list repeats the first
    known_use : use_set k (sets_so_far uses) u ≡ (if repeats_actions (unwrap_or first.1.actions []) u.actions then Some (sets_so_far (uses ++ (k, u) ∷ [])) else None)
    known_use =
        ap (with_use k (sets_so_far uses) u) (ap (slice_get (sets_so_far uses)) place_is ∙ first_uses.known_place same_set key_of same_set-Decides partial_set uses k u first later known)
        ∙ ap (λ sets. if repeats_actions (unwrap_or first.1.actions []) u.actions then Some sets else None) known_sets

  -- a use that is taken agrees with the others, and gives the sets
  used_so : (own : List (ℕ × SetUse)) (sets : List PartialSet) → uses_of_set (key_of u) uses ≡ own → AgreeOnActions own → use_set k (sets_so_far uses) u ≡ Some sets → AgreeOnActions (own ++ (k, u) ∷ []) × (sets ≡ sets_so_far (uses ++ (k, u) ∷ []))
  used_so [] sets is agree h = new_so is sets (sym (new_use is) ∙ h)
  used_so (first ∷ later) sets is agree h =
      let t = tested_so (repeats_actions (unwrap_or first.1.actions []) u.actions) (sets_so_far (uses ++ (k, u) ∷ [])) sets (repeats_actions-Decides (unwrap_or first.1.actions []) u.actions) (sym (known_use first later is) ∙ h) in
      (AgreeOnActions-push first (k, u) later agree t.0, t.1)

  -- a use that agrees is taken
  used_if : (own : List (ℕ × SetUse)) → uses_of_set (key_of u) uses ≡ own → AgreeOnActions (own ++ (k, u) ∷ []) → use_set k (sets_so_far uses) u ≡ Some (sets_so_far (uses ++ (k, u) ∷ []))
  used_if [] is agree = new_use is ∙ new_if is agree
  used_if (first ∷ later) is agree =
      known_use first later is ∙ tested_if (repeats_actions (unwrap_or first.1.actions []) u.actions) (sets_so_far (uses ++ (k, u) ∷ [])) (repeats_actions-Decides (unwrap_or first.1.actions []) u.actions) (AgreeOnActions-front first (k, u) later agree).1

  -- the same, of the uses of each set
  built : (sets : List PartialSet) → AllAgree uses → use_set k (sets_so_far uses) u ≡ Some sets → AllAgree (uses ++ (k, u) ∷ []) × (sets ≡ sets_so_far (uses ++ (k, u) ∷ []))
  built sets agree h =
      let t = used_so (uses_of_set (key_of u) uses) sets refl (agree (key_of u)) h in
      (first_uses.holds_after same_set key_of same_set-Decides uses k u AgreeOnActions agree t.0, t.1)

  -- and back
  agreed : AllAgree (uses ++ (k, u) ∷ []) → AllAgree uses × (use_set k (sets_so_far uses) u ≡ Some (sets_so_far (uses ++ (k, u) ∷ [])))
  agreed agree =
      (first_uses.holds_before same_set key_of same_set-Decides uses k u AgreeOnActions agree (AgreeOnActions-before (uses_of_set (key_of u) uses) (k, u)), used_if (uses_of_set (key_of u) uses) refl (subst AgreeOnActions (first_uses.uses_of-own same_set key_of same_set-Decides uses k u) (agree (key_of u))))

-- what one more use makes of the sets
pub set_step : (uses : List (ℕ × SetUse)) (k : ℕ) (u : SetUse) → SetStep uses k u
set_step uses k u =
    record {
      built = built uses k u;
      agreed = agreed uses k u;
      place_is = place_is uses k u;
      place_stays = first_uses.place_stays same_set key_of same_set-Decides uses k u;
      places_stay = first_uses.places_stay same_set key_of same_set-Decides uses k u;
      is_used = first_uses.is_used same_set key_of same_set-Decides uses k u;
      stay_used = first_uses.stay_used same_set key_of same_set-Decides uses k u;
    }
