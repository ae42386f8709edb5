-- What the tools for two players print of two plans.
use Rattle.std.specs.Prelude.{ℕ, Bool, false, List, ◌++◌, drop}
use Rattle.answers.specs.Answers.{Answer, only, ◌>>=◌, refused_by}
use Rattle.rational.specs.Rational.{ℚ}
use Rattle.game_theory.specs.Lines.{line_text}
use Rattle.game_core.specs.declared.game.Game.{Game}
use Rattle.game_core.specs.declared.game.Game.TheVariants.{Extensive}
use Rattle.behaviour_profile.specs.Plans.{plan_behaviour}
use Rattle.refusals.specs.Told.{behaviour_refusal}
use Rattle.refusals.specs.declared.refusal.Refusal.{Refusal}

-- The entries of two plans: on a tree, unless strategies are asked for, those of its behaviour;
-- else the weights of the strategies, which are those of all sequences but the empty one.
abbrev pub entries_in : Bool → Game → List ℚ → List ℚ → Answer Refusal (List ℚ)
entries_in false (Extensive t) one two = refused_by behaviour_refusal (plan_behaviour t one two)
entries_in _ _ one two = only (drop 1 one ++ drop 1 two)

-- their line
abbrev pub plans_line : Bool → Game → List ℚ → List ℚ → Answer Refusal (List ℕ)
plans_line strategic game one two = do
  entries ← entries_in strategic game one two
  only (line_text entries)
