-- What the steps of a shift make of a player's payoffs.
use Rattle.std.proofs.Common.{ℕ, ◌<◌, ◌≤◌, ◌≡◌, inl, inr, Bool, true, false, cond, ◌==◌, List, [], ◌∷◌, ◌++◌, All, Ok, Err, length, map, take, get_or, refl, sym, ap, ◌∙◌, subst, arith}
use Rattle.std.specs.List.{range_with_len}
use Rattle.std.proofs.lemmas.List.{get_or-take, length-take-le}
use Rattle.std.proofs.lemmas.List.Elements.{All-nil, All-cons}
use Rattle.std.proofs.lemmas.List.FromFn.{length-range_with_len, get_or-range_with_len}
use Rattle.answers.specs.Answers.{only}
use Rattle.answers.proofs.AnswerLemmas.{only-single, single-exclude, single-value}
use Rattle.rational.specs.Rational.{ℚ, ◌+ℚ◌, one_ℚ}
use Rattle.rational.specs.Extremes.{IsLeast}
use Rattle.game_theory.specs.Profiles.{Game, profile_count}
use Rattle.frac128.specs.Steps.{AddFits, SubFits, step_of, Step, StepFits, IsFirstUnfit}
use Rattle.frac128.specs.declared.steps.Op.TheVariants.{Add, Sub}
use Rattle.frac128.specs.FirstUnfit.{StepsFit, IsFirstUnfitOf}
use Rattle.frac128.proofs.StepRunLemmas.{first_unfit-following, first_unfit-here, one-fits}
use Rattle.frac128.proofs.FirstUnfitLemmas.{first_unfit_here}
use Rattle.extreme_equilibria.specs.Bimatrix.{shift_of}
use Rattle.reply_polytope.specs.Shapes.{shifted_payoffs_in}
use Rattle.reply_polytope.specs.Shifts.{payoffs_of, shift_in, shift_steps}
use Rattle.reply_polytope.specs.declared.stop.PolyStop.{PolyStop}
use Rattle.reply_polytope.specs.declared.stop.PolyStop.TheVariants as stops

-- ---- two steps of which the first may be left out
module _ (s t : Step) where
  fit_both : (b : Bool) → StepFits s → StepFits t → All StepFits (cond b (s ∷ []) [] ++ t ∷ [])
  fit_both true f g = All-cons StepFits s (t ∷ []) f (one-fits t g)
  fit_both false f g = one-fits t g

  unfit_second : (b : Bool) → StepFits s → (StepFits t → ⊥) → IsFirstUnfit (cond b (s ∷ []) [] ++ t ∷ []) t
  unfit_second true f g = first_unfit-following (s ∷ []) (t ∷ []) t (one-fits s f) (first_unfit-here t [] g)
  unfit_second false f g = first_unfit-here t [] g

-- ---- the steps of n profiles
module _ (u : ℕ → ℚ) (least : ℚ) (n : ℕ) where
  abbrev profiles : List ℕ
  profiles = range_with_len 0 n

  long : length profiles ≡ n
  long = length-range_with_len 0 n

  is_there : (k d : ℕ) → k < n → get_or profiles k d ≡ k
  is_there k d l = omega (arith, get_or-range_with_len 0 n k d l)

  -- 1 less the least payoff does not fit
  pub unfit_difference : 0 < n → (SubFits one_ℚ least → ⊥) → IsFirstUnfitOf (shift_steps u least) profiles 0 (step_of Sub one_ℚ least)
  unfit_difference l refused =
      first_unfit_here (shift_steps u least) profiles 0 0 (omega (arith, long, l)) (sym (is_there 0 0 l)) (step_of Sub one_ℚ least) (All-nil (StepsFit (shift_steps u least)))
      (first_unfit-here (step_of Sub one_ℚ least) (step_of Add (u 0) (shift_of least) ∷ []) refused)

  module _ (difference : SubFits one_ℚ least) where
    fit_at : (k : ℕ) → AddFits (u k) (shift_of least) → StepsFit (shift_steps u least) k
    fit_at k sum = fit_both (step_of Sub one_ℚ least) (step_of Add (u k) (shift_of least)) (k == 0) difference sum

    -- the steps of the first k profiles fit
    fit_before : (k : ℕ) → k ≤ n → ((j : ℕ) → j < k → AddFits (u j) (shift_of least)) → All (StepsFit (shift_steps u least)) (take k profiles)
    fit_before k l sums =
        λ j d b. let before : j < k = omega (arith, b, length-take-le k profiles (omega (arith, long, l))) in
        subst (StepsFit (shift_steps u least)) (sym (get_or-take k profiles j d before ∙ is_there j d (omega (arith, before, l)))) (fit_at j (sums j before))

    -- and those of profile k do not
    pub unfit_sum : (k : ℕ) → k < n → ((j : ℕ) → j < k → AddFits (u j) (shift_of least)) → (AddFits (u k) (shift_of least) → ⊥) → IsFirstUnfitOf (shift_steps u least) profiles k (step_of Add (u k) (shift_of least))
    unfit_sum k l sums refused =
        first_unfit_here (shift_steps u least) profiles k k (omega (arith, long, l)) (sym (is_there k k l)) (step_of Add (u k) (shift_of least)) (fit_before k (omega (arith, l)) sums)
        (unfit_second (step_of Sub one_ℚ least) (step_of Add (u k) (shift_of least)) (k == 0) difference refused)

    -- all steps fit
    pub all_shifts_fit : ((k : ℕ) → k < n → AddFits (u k) (shift_of least)) → All (StepsFit (shift_steps u least)) profiles
    all_shifts_fit sums =
        λ k d b. let l : k < n = omega (arith, b, long) in subst (StepsFit (shift_steps u least)) (sym (is_there k d l)) (fit_at k (sums k l))

-- ---- the stages
module _ (g : Game) (i : ℕ) (least : ℚ) (is_least : IsLeast (payoffs_of g i) least) where
  abbrev all : List ℕ
  all = range_with_len 0 (profile_count g.strategies)

  pub shift_stops : (k : ℕ) (step other : Step) → step ≡ other → IsFirstUnfitOf (shift_steps (g.pays i) least) all k other → shifted_payoffs_in g i (Err (stops.Range i k step))
  shift_stops k step other e h =
      inl (inr (least, is_least, inl ((k, other), h, ap (stops.Range i k) e)))

  pub shift_goes : All (StepsFit (shift_steps (g.pays i) least)) all → (xs : List ℚ) → xs ≡ map (λ k. g.pays i k +ℚ shift_of least) all → shifted_payoffs_in g i (Ok xs)
  shift_goes fit xs e = (least, (least, is_least, (tt, fit, refl)), ap Ok e)

-- the shifted payoffs are the sums
pub shifted_are : (g : Game) (i : ℕ) (xs : List ℚ) (h : shifted_payoffs_in g i (Ok xs)) → xs ≡ map (λ k. g.pays i k +ℚ shift_of h.0) (range_with_len 0 (profile_count g.strategies))
shifted_are g i xs h = single-value {E = PolyStop} (only _) xs _ (only-single _) h.2 refl

-- where there are no shifted payoffs there is no shift
pub shift_refused : (g : Game) (i : ℕ) (stop : PolyStop) → shifted_payoffs_in g i (Err stop) → shift_in g i (Err stop)
shift_refused g i stop (inl h) = h
shift_refused g i stop (inr (least, _, e)) = absurd (single-exclude (only _) _ stop (only-single _) refl e)
