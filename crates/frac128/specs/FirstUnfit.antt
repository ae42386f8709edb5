-- Steps of arithmetic that all fit, or the first that does not: in a list, and in things one after
-- another.
use Rattle.std.specs.Prelude.{◌≡◌, List, ◌∷◌, ◌++◌, All, Ok, Err}
use Rattle.answers.specs.Answers.{Answer}
use Rattle.frac128.specs.Steps.{Step, StepFits, IsFirstUnfit}

-- these steps all fit; or the first that does not
abbrev pub all_steps_fit : List Step → Answer Step (Unit {0})
all_steps_fit steps (Ok _) = All StepFits steps
all_steps_fit steps (Err step) = IsFirstUnfit steps step

-- ---- things with steps
-- all steps of a thing fit
abbrev pub StepsFit : {X : Type 0} → (X → List Step) → X → Type 0
StepsFit steps x = All StepFits (steps x)

-- x is the first of these things with a step that does not fit, and this is its first such step
pub record IsFirstUnfitOf {X : Type 0} (steps : X → List Step) (xs : List X) (x : X)
    (step : Step) : Type 0 where
  pub before : List X
  pub after : List X
  pub is_there : xs ≡ before ++ x ∷ after
  pub earlier_fit : All (StepsFit steps) before
  pub first_unfit : IsFirstUnfit (steps x) step

-- the steps of all these things fit; or the first with one that does not, and that step
abbrev pub all_fit : {X : Type 0} → (X → List Step) → List X → Answer (X × Step) (Unit {0})
all_fit steps xs (Ok _) = All (StepsFit steps) xs
all_fit steps xs (Err stop) = IsFirstUnfitOf steps xs stop.0 stop.1
