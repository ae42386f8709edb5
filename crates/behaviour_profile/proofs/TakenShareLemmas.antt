-- The shares of a set's weights in the weight before it, one by one.
use Rattle.std.proofs.Common.{ℕ, ◌+◌, ◌<◌, ◌≤◌, ◌≡◌, ◌≢◌, Ok, Err, Result, Bool, true, false, pos, List, [], ◌∷◌, ◌++◌, All, length, get_or, take, refl, sym, ap, ap₂, ◌∙◌, subst, subst₂, arith, zero-add}
use Rattle.std.specs.Prelude.{IfOk, IfErr, OnErr, OnOk, if◌then◌else◌}
use Rattle.std.proofs.lemmas.List.{take_all}
use Rattle.std.proofs.lemmas.List.Elements.{All-nil}
use Rattle.std.proofs.lemmas.List.FromFn.{get_or-range_with_len, length-range_with_len}
use Rattle.rational.specs.Rational.{ℚ, ◌*ℚ◌, inv_ℚ, frac, zero_ℚ}
use Rattle.rational.specs.Tests.{eq_ℚ}
use Rattle.rational.proofs.Decide.{eq_ℚ-decides}
use Rattle.frac128.specs.Steps.{DivFits, step_of, Step, StepFits, IsFirstUnfit, StepsGive}
use Rattle.frac128.specs.declared.steps.Op.TheVariants.{Div}
use Rattle.game_theory.specs.Lines.{listed}
use Rattle.game_theory.proofs.EntryLemmas.{listed-push}
use Rattle.sequence_forms.specs.PlanBehaviour.{share}
use Rattle.frac128.specs.FirstUnfit.{StepsFit, IsFirstUnfitOf}
use Rattle.frac128.proofs.StepRunLemmas.{first_unfit-here, one-fits}
use Rattle.frac128.proofs.FirstUnfitLemmas.{fits_next, first_unfit_here}
use Rattle.rational.specs.Sum.{entry_at}
use Rattle.sequence_data.specs.declared.types.SetRow.{SetRow}
use Rattle.sequence_data.proofs.PlaceLemmas.{get_or-inside}
use Rattle.behaviour_profile.specs.Plans.{share_steps}
use Rattle.behaviour_profile.specs.Shares.{actions_of, share_at, steps_at}

-- whether the weight before is 0
test-zero : (before : ℚ) → before ≡ zero_ℚ → eq_ℚ before zero_ℚ ≡ true
test-zero before e = (eq_ℚ-decides before zero_ℚ).1 e

test-other : (before : ℚ) → before ≢ zero_ℚ → eq_ℚ before zero_ℚ ≡ false
test-other before ne = go (eq_ℚ before zero_ℚ) (λ e. ne ((eq_ℚ-decides before zero_ℚ).0 e))
  where
    go : (b : Bool) → (b ≡ true → ⊥) → b ≡ false
    go true h = absurd (h refl)
    go false h = refl

module _ (n : ℕ) (before after : ℚ) where
  -- where it is, there is no step
  share-none : before ≡ zero_ℚ → share n before after ≡ frac (pos 1) n
  share-none e = ap (λ b. if b then frac (pos 1) n else after *ℚ inv_ℚ before) (test-zero before e)

  none_fit : before ≡ zero_ℚ → All StepFits (share_steps before after)
  none_fit e = subst (λ b. All StepFits (if b then [] else step_of Div after before ∷ [])) (sym (test-zero before e)) (All-nil StepFits)

  pub equal_share : before ≡ zero_ℚ → (v : ℚ) → v ≡ frac (pos 1) n → StepsGive (share_steps before after) (share n before after) (Ok v)
  equal_share e v is = (is ∙ sym (share-none e), none_fit e)

  -- where it is not, the weight is divided by it
  share-is : before ≢ zero_ℚ → share n before after ≡ after *ℚ inv_ℚ before
  share-is ne = ap (λ b. if b then frac (pos 1) n else after *ℚ inv_ℚ before) (test-other before ne)

  share-steps : before ≢ zero_ℚ → share_steps before after ≡ step_of Div after before ∷ []
  share-steps ne = ap (λ b. if b then [] else step_of Div after before ∷ []) (test-other before ne)

  -- and the quotient fits, or it is the first step that does not
  pub divided_share : before ≢ zero_ℚ → (r : Result ℚ Step) → IfOk r (λ v. v ≡ after *ℚ inv_ℚ before) → OnOk r (DivFits after before) → IfErr r (λ e. e ≡ step_of Div after before) → OnErr r (¬ (DivFits after before)) → StepsGive (share_steps before after) (share n before after) r
  divided_share ne (Ok v) value fits step unfits = (value ∙ sym (share-is ne), subst (All StepFits) (sym (share-steps ne)) (one-fits (step_of Div after before) fits))
  divided_share ne (Err u) value fits step unfits =
      subst₂ (λ (ss : List Step) (e : Step). IsFirstUnfit ss e) (sym (share-steps ne)) (sym step) (first_unfit-here (step_of Div after before) [] unfits)

-- ---- the shares of a set
-- a weight that is read
pub weight_read : (weights : List ℚ) (q : ℕ) (x : ℚ) → q < length weights → x ≡ get_or weights q x → x ≡ entry_at weights q
weight_read weights q x l is = is ∙ get_or-inside weights q x zero_ℚ l

module _ (weights : List ℚ) (row : SetRow) (a : ℕ) (before after : ℚ) (l : a < row.count) (before_is : before ≡ entry_at weights row.before) (after_is : after ≡ entry_at weights (row.first + a)) where
  within : a < length (actions_of row)
  within = omega (arith, l, length-range_with_len 0 row.count)

  stands : a ≡ get_or (actions_of row) a a
  stands = sym (get_or-range_with_len 0 row.count a a l ∙ zero-add a)

  -- one share more
  pub next_share : (old now new : List ℚ) (x : ℚ) → now ≡ old ++ listed a (share_at weights row) → new ≡ now ++ x ∷ [] → x ≡ share row.count before after → new ≡ old ++ listed (a + 1) (share_at weights row)
  next_share old now new x so_far push is = listed-push new now old a (share_at weights row) x so_far push (is ∙ ap₂ (share row.count) before_is after_is)

  pub next_fits : All (StepsFit (steps_at weights row)) (take a (actions_of row)) → All StepFits (share_steps before after) → All (StepsFit (steps_at weights row)) (take (a + 1) (actions_of row))
  next_fits h f = fits_next (steps_at weights row) (actions_of row) a a within stands h (subst₂ (λ b c. All StepFits (share_steps b c)) before_is after_is f)

  -- or the first that does not fit
  pub first_share : (step : Step) → All (StepsFit (steps_at weights row)) (take a (actions_of row)) → IsFirstUnfit (share_steps before after) step → IsFirstUnfitOf (steps_at weights row) (actions_of row) a step
  first_share step h f = first_unfit_here (steps_at weights row) (actions_of row) a a within stands step h (subst₂ (λ b c. IsFirstUnfit (share_steps b c) step) before_is after_is f)

-- all shares fit
pub all_shares : (weights : List ℚ) (row : SetRow) (n : ℕ) → row.count ≤ n → All (StepsFit (steps_at weights row)) (take n (actions_of row)) → All (StepsFit (steps_at weights row)) (actions_of row)
all_shares weights row n l h = subst (All (StepsFit (steps_at weights row))) (take_all n (actions_of row) (omega (arith, l, length-range_with_len 0 row.count))) h
