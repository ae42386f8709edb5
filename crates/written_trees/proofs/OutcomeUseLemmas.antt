-- One more use of an outcome.
use Rattle.std.proofs.Common.{◌≡◌, ℕ, nat_eq, List, [], ◌∷◌, ◌++◌, map, slice_get, slice_set, Option, Some, None, IfSome, if◌then◌else◌, refl, sym, ap, ap₂, ◌∙◌, subst}
use Rattle.std.specs.List.{position_or_len}
use Rattle.std.specs.Option.{unwrap_or}
use Rattle.std.proofs.lemmas.Bool.Decides.{Decides-eqb}
use Rattle.std.proofs.lemmas.List.{map-append}
use Rattle.std.proofs.lemmas.List.Elements.{All-nil, All-push}
use Rattle.written_trees.proofs.NumberedKeyLemmas.{outcomes_of}
use Rattle.lists.specs.Options.{◌>>=◌}
use Rattle.rational.specs.Rational.{ℚ}
use Rattle.written_trees.specs.Written.{OutcomeUse}
use Rattle.written_trees.specs.Described.{uses_of_outcome, first_some, AgreeOnPayoffs}
use Rattle.written_trees.specs.Building.{PartialOutcome, outcome_place, repeats_payoffs, new_outcome, used_outcome, with_outcome_use, use_outcome}
use Rattle.written_trees.proofs.ChanceLemmas.{repeats_payoffs-Decides}
use Rattle.written_trees.proofs.InsertedKeyLemmas.{position-map}
use Rattle.written_trees.proofs.FirstUseLemmas as first_uses
use Rattle.written_trees.proofs.UseTestLemmas.{first_some-push, All-front, tested_so, tested_if}
use Rattle.written_trees.proofs.UseStepLemmas.{partial_outcome, outcomes_so_far, PayoffsAgree, OutcomeStep}

-- the number of a use's outcome
abbrev label_of : OutcomeUse → ℕ
label_of used = used.label

-- ---- agreement
-- later payoffs repeat the first
abbrev RepeatsPayoffs : List ℚ → ℕ × OutcomeUse → Type 0
RepeatsPayoffs payoffs x = IfSome x.1.payoffs (λ list. list ≡ payoffs)

-- later payoffs that repeat the first keep the agreement
AgreeOnPayoffs-push : (first x : ℕ × OutcomeUse) (later : List (ℕ × OutcomeUse)) → AgreeOnPayoffs (first ∷ later) → RepeatsPayoffs (unwrap_or first.1.payoffs []) x → AgreeOnPayoffs (first ∷ (later ++ x ∷ []))
AgreeOnPayoffs-push first x later h repeats =
    (h.0, h.1, All-push (RepeatsPayoffs h.0) later x h.2 (subst (λ list. RepeatsPayoffs list x) (ap (λ list. unwrap_or list []) h.1) repeats))

-- the last payoffs repeat the first, and the others agree
AgreeOnPayoffs-front : (first x : ℕ × OutcomeUse) (later : List (ℕ × OutcomeUse)) → AgreeOnPayoffs (first ∷ (later ++ x ∷ [])) → AgreeOnPayoffs (first ∷ later) × RepeatsPayoffs (unwrap_or first.1.payoffs []) x
AgreeOnPayoffs-front first x later h =
    let parts = All-front (RepeatsPayoffs h.0) later x h.2 in
    ((h.0, h.1, parts.0), subst (λ list. RepeatsPayoffs list x) (sym (ap (λ list. unwrap_or list []) h.1)) parts.1)

-- a front of uses that agree agrees
AgreeOnPayoffs-before : (own : List (ℕ × OutcomeUse)) (x : ℕ × OutcomeUse) → AgreeOnPayoffs (own ++ x ∷ []) → AgreeOnPayoffs own
AgreeOnPayoffs-before [] x h = tt
AgreeOnPayoffs-before (first ∷ later) x h = (AgreeOnPayoffs-front first x later h).0

-- ---- the outcome
-- a first use begins the outcome
new_outcome_is : (k : ℕ) (u : OutcomeUse) (payoffs : List ℚ) → u.payoffs ≡ Some payoffs → new_outcome u payoffs ≡ partial_outcome u.label ((k, u) ∷ [])
new_outcome_is k u payoffs e = λ i. record { label = u.label; name = sym (first_some-push [] u.name) i; payoffs = sym (ap (λ list. unwrap_or list []) e) i }

-- a later use goes on with it
used_outcome_is : (label : ℕ) (first : ℕ × OutcomeUse) (later : List (ℕ × OutcomeUse)) (k : ℕ) (u : OutcomeUse) → used_outcome u (partial_outcome label (first ∷ later)) ≡ partial_outcome label (first ∷ (later ++ (k, u) ∷ []))
used_outcome_is label first later k u =
    λ i. record {
      label = label;
      name = (sym (first_some-push (map (λ x. x.1.name) (first ∷ later)) u.name) ∙ sym (ap first_some (map-append (λ x. x.1.name) (first ∷ later) ((k, u) ∷ [])))) i;
      payoffs = unwrap_or first.1.payoffs [];
    }

-- ---- one more use
module _ (uses : List (ℕ × OutcomeUse)) (k : ℕ) (u : OutcomeUse) where
  -- the outcome's place
  place_is : outcome_place (outcomes_so_far uses) u.label ≡ position_or_len (nat_eq u.label) (outcomes_of uses)
  place_is = position-map (λ outcome. nat_eq u.label outcome.label) (λ label. partial_outcome label (uses_of_outcome label uses)) (outcomes_of uses)

  -- the first use of its outcome
  module _ (new : uses_of_outcome u.label uses ≡ []) where
    -- nothing stands at its place
    new_use : use_outcome (outcomes_so_far uses) u ≡ with_outcome_use (outcomes_so_far uses) u None
    new_use = ap (with_outcome_use (outcomes_so_far uses) u) (ap (slice_get (outcomes_so_far uses)) place_is ∙ first_uses.new_place nat_eq label_of Decides-eqb partial_outcome uses k u new)

    -- the outcomes with the new one
    new_outcomes : (payoffs : List ℚ) → u.payoffs ≡ Some payoffs → outcomes_so_far uses ++ new_outcome u payoffs ∷ [] ≡ outcomes_so_far (uses ++ (k, u) ∷ [])
    new_outcomes payoffs e = ap (λ outcome. outcomes_so_far uses ++ outcome ∷ []) (new_outcome_is k u payoffs e) ∙ sym (first_uses.new_numbered nat_eq label_of Decides-eqb partial_outcome uses k u new)

    -- where it is partial, it agrees
    new_so : (outcomes : List PartialOutcome) → with_outcome_use (outcomes_so_far uses) u None ≡ Some outcomes → AgreeOnPayoffs ((k, u) ∷ []) × (outcomes ≡ outcomes_so_far (uses ++ (k, u) ∷ []))
    new_so outcomes h = by u.payoffs refl h
      where
        by : (list : Option (List ℚ)) → u.payoffs ≡ list → (list >>= λ payoffs. Some (outcomes_so_far uses ++ new_outcome u payoffs ∷ [])) ≡ Some outcomes → AgreeOnPayoffs ((k, u) ∷ []) × (outcomes ≡ outcomes_so_far (uses ++ (k, u) ∷ []))
        by None e h = absurd (cc)
        by (Some payoffs) e h =
            let is : outcomes ≡ outcomes_so_far uses ++ new_outcome u payoffs ∷ [] = cc in
            ((payoffs, e, All-nil (RepeatsPayoffs payoffs)), is ∙ new_outcomes payoffs e)

    -- where it agrees, it is partial
    new_if : AgreeOnPayoffs ((k, u) ∷ []) → with_outcome_use (outcomes_so_far uses) u None ≡ Some (outcomes_so_far (uses ++ (k, u) ∷ []))
    new_if h = ap (λ list. list >>= λ payoffs. Some (outcomes_so_far uses ++ new_outcome u payoffs ∷ [])) h.1 ∙ ap Some (new_outcomes h.0 h.1)

  -- a later use of its outcome
  module _ (first : ℕ × OutcomeUse) (later : List (ℕ × OutcomeUse)) (known : uses_of_outcome u.label uses ≡ first ∷ later) where
    -- the outcomes with the one that goes on
    known_outcomes : slice_set (outcomes_so_far uses) (outcome_place (outcomes_so_far uses) u.label) (used_outcome u (partial_outcome u.label (first ∷ later))) ≡ outcomes_so_far (uses ++ (k, u) ∷ [])
    known_outcomes = ap₂ (slice_set (outcomes_so_far uses)) place_is (used_outcome_is u.label first later k u) ∙ sym (first_uses.known_numbered nat_eq label_of Decides-eqb partial_outcome uses k u first later known)

    -- it goes on where the payoffs repeat the first
    known_use : use_outcome (outcomes_so_far uses) u ≡ (if repeats_payoffs (unwrap_or first.1.payoffs []) u.payoffs then Some (outcomes_so_far (uses ++ (k, u) ∷ [])) else None)
    known_use =
        ap (with_outcome_use (outcomes_so_far uses) u) (ap (slice_get (outcomes_so_far uses)) place_is ∙ first_uses.known_place nat_eq label_of Decides-eqb partial_outcome uses k u first later known)
        ∙ ap (λ outcomes. if repeats_payoffs (unwrap_or first.1.payoffs []) u.payoffs then Some outcomes else None) known_outcomes

  -- a use that is taken agrees with the others, and gives the outcomes
  used_so : (own : List (ℕ × OutcomeUse)) (outcomes : List PartialOutcome) → uses_of_outcome u.label uses ≡ own → AgreeOnPayoffs own → use_outcome (outcomes_so_far uses) u ≡ Some outcomes → AgreeOnPayoffs (own ++ (k, u) ∷ []) × (outcomes ≡ outcomes_so_far (uses ++ (k, u) ∷ []))
  used_so [] outcomes is agree h = new_so is outcomes (sym (new_use is) ∙ h)
  used_so (first ∷ later) outcomes is agree h =
      let t = tested_so (repeats_payoffs (unwrap_or first.1.payoffs []) u.payoffs) (outcomes_so_far (uses ++ (k, u) ∷ [])) outcomes (repeats_payoffs-Decides (unwrap_or first.1.payoffs []) u.payoffs) (sym (known_use first later is) ∙ h) in
      (AgreeOnPayoffs-push first (k, u) later agree t.0, t.1)

  -- a use that agrees is taken
  used_if : (own : List (ℕ × OutcomeUse)) → uses_of_outcome u.label uses ≡ own → AgreeOnPayoffs (own ++ (k, u) ∷ []) → use_outcome (outcomes_so_far uses) u ≡ Some (outcomes_so_far (uses ++ (k, u) ∷ []))
  used_if [] is agree = new_use is ∙ new_if is agree
  used_if (first ∷ later) is agree =
      known_use first later is ∙ tested_if (repeats_payoffs (unwrap_or first.1.payoffs []) u.payoffs) (outcomes_so_far (uses ++ (k, u) ∷ [])) (repeats_payoffs-Decides (unwrap_or first.1.payoffs []) u.payoffs) (AgreeOnPayoffs-front first (k, u) later agree).1

  -- the same, of the uses of each outcome
  built : (outcomes : List PartialOutcome) → PayoffsAgree uses → use_outcome (outcomes_so_far uses) u ≡ Some outcomes → PayoffsAgree (uses ++ (k, u) ∷ []) × (outcomes ≡ outcomes_so_far (uses ++ (k, u) ∷ []))
  built outcomes agree h =
      let t = used_so (uses_of_outcome u.label uses) outcomes refl (agree u.label) h in
      (first_uses.holds_after nat_eq label_of Decides-eqb uses k u AgreeOnPayoffs agree t.0, t.1)

  -- and back
  agreed : PayoffsAgree (uses ++ (k, u) ∷ []) → PayoffsAgree uses × (use_outcome (outcomes_so_far uses) u ≡ Some (outcomes_so_far (uses ++ (k, u) ∷ [])))
  agreed agree =
      (first_uses.holds_before nat_eq label_of Decides-eqb uses k u AgreeOnPayoffs agree (AgreeOnPayoffs-before (uses_of_outcome u.label uses) (k, u)), used_if (uses_of_outcome u.label uses) refl (subst AgreeOnPayoffs (first_uses.uses_of-own nat_eq label_of Decides-eqb uses k u) (agree u.label)))

-- what one more use makes of the outcomes
pub outcome_step : (uses : List (ℕ × OutcomeUse)) (k : ℕ) (u : OutcomeUse) → OutcomeStep uses k u
outcome_step uses k u =
    record {
      built = built uses k u;
      agreed = agreed uses k u;
      place_is = place_is uses k u;
      place_stays = first_uses.place_stays nat_eq label_of Decides-eqb uses k u;
      places_stay = first_uses.places_stay nat_eq label_of Decides-eqb uses k u;
      is_used = first_uses.is_used nat_eq label_of Decides-eqb uses k u;
      stay_used = first_uses.stay_used nat_eq label_of Decides-eqb uses k u;
    }
