-- The texts of verdicts, and what is told of one. Players, strategies and actions count from 1.
use Rattle.std.specs.Prelude.{ℕ, ◌+◌, List, [], ◌∷◌, ◌++◌, codes}
use Rattle.std.specs.Fmt.{decimal}
use Rattle.std.specs.List.{flat_map}
use Rattle.answers.specs.Answers.{Answer, only, refused}
use Rattle.rational.specs.Rational.{ℚ}
use Rattle.rational.specs.Text.{number_text}
use Rattle.ne_checker.specs.declared.stops.CheckStop.{CheckStop}
use Rattle.ne_checker.specs.declared.stops.CheckStop.TheVariants as stops
use Rattle.verdicts.specs.declared.tables.TableVerdict.{TableVerdict}
use Rattle.verdicts.specs.declared.tables.TableVerdict.TheVariants as table_verdicts
use Rattle.verdicts.specs.declared.trees.TreeVerdict.{TreeVerdict}
use Rattle.verdicts.specs.declared.trees.TreeVerdict.TheVariants as tree_verdicts

-- no player can do better
abbrev pub equilibrium_text : List ℕ
equilibrium_text = codes "equilibrium\n"

-- a strategy or an action, after a comma
abbrev pub choice_text : ℕ → List ℕ
choice_text n = codes "," ++ decimal (n + 1)

-- a player who can, what the player is paid, and what the best reply pays
abbrev pub better_start : ℕ → ℚ → ℚ → List ℕ
better_start player payoff best =
    codes "better," ++ decimal (player + 1) ++ codes "," ++ number_text payoff ++ codes ","
    ++ number_text best

-- the same, and the best reply
abbrev pub better_text : ℕ → ℚ → ℚ → List ℕ → List ℕ
better_text player payoff best reply =
    better_start player payoff best ++ flat_map choice_text reply ++ 10 ∷ []

-- ---- what is told of a verdict
-- what is told of a verdict on the mixed profile of the line with this number: its text; or the
-- step that does not fit
abbrev pub table_told : ℕ → TableVerdict → Answer CheckStop (List ℕ)
table_told number table_verdicts.Equilibrium = only equilibrium_text
table_told number (table_verdicts.Better player payoff best reply) =
    only (better_text player payoff best (reply ∷ []))
table_told number (table_verdicts.Range step) = refused (stops.Range number step)

-- likewise of a verdict on behaviour with the reply that comes with it
abbrev pub tree_told : ℕ → TreeVerdict × List ℕ → Answer CheckStop (List ℕ)
tree_told number (tree_verdicts.Equilibrium, reply) = only equilibrium_text
tree_told number (tree_verdicts.Better player payoff best, reply) =
    only (better_text player payoff best reply)
tree_told number (tree_verdicts.Range step, reply) = refused (stops.Range number step)
