-- The check of lines: each has the entries of a profile, which is judged.
use Rattle.std.specs.Prelude.{ℕ, List}
use Rattle.answers.specs.Answers.{Answer, IsSingle, ◌>>=◌, refused_by, such_that}
use Rattle.rational.specs.Rational.{ℚ}
use Rattle.game_core.specs.Table.{GameTable, strategy_counts}
use Rattle.game_core.specs.Limits.{limited_text}
use Rattle.game_core.specs.Tree.{GameTree, IsGameTree}
use Rattle.game_core.specs.TreeGame.{game_of_tree}
use Rattle.behaviour_profile.specs.EntryTests.{profile_in}
use Rattle.behaviour_profile.specs.declared.entries.ProfileFault.{ProfileFault}
use Rattle.behaviour_profile.specs.declared.entries.ProfileFault.TheVariants as faults
use Rattle.ne_printer.specs.ReadLines.{line_in}
use Rattle.ne_printer.specs.declared.reading.LineStop.{LineStop}
use Rattle.ne_printer.specs.declared.reading.LineStop.TheVariants as line_stops
use Rattle.verdicts.specs.TableChecks.{table_verdict}
use Rattle.verdicts.specs.TreeVerdicts.{tree_verdict}
use Rattle.game_theory.specs.Recall.{AllRecall}
use Rattle.ne_checker.specs.Lines.{lines_answer}
use Rattle.ne_printer.specs.TextLines.{lines_of}
use Rattle.game_theory.specs.OwnSets.{action_counts}
use Rattle.ne_checker.specs.Texts.{table_told, tree_told}
use Rattle.ne_checker.specs.declared.stops.CheckStop.{CheckStop}
use Rattle.ne_checker.specs.declared.stops.CheckStop.TheVariants as stops

-- ---- the entries of a line
-- the line with this number is not read
abbrev pub unread : ℕ → LineStop → CheckStop
unread number line_stops.Bad = stops.BadLine number
unread number line_stops.Memory = stops.Memory

-- its entries are no profile
abbrev pub faulty : ℕ → ProfileFault → CheckStop
faulty number (faults.Unfit step) = stops.Range number step
faulty number faults.Count = stops.BadLine number
faulty number (faults.Negative place) = stops.BadLine number
faulty number (faults.Sum group) = stops.BadLine number

-- the entries on a line, of a profile in groups of these sizes; or why the line is refused
abbrev pub line_entries : ℕ → List ℕ → List ℕ → Answer CheckStop (List ℚ)
line_entries number sizes line = do
  entries ← refused_by (unread number) (line_in line)
  refused_by (faulty number) (profile_in sizes entries)

-- ---- the verdict on a line
-- the text of the verdict of a table on entries; or the step that does not fit
abbrev pub table_judged : ℕ → GameTable → List ℚ → Answer CheckStop (List ℕ)
table_judged number table entries = do
  verdict ← such_that (table_verdict table entries)
  table_told number verdict

-- that of a tree
abbrev pub tree_judged : ℕ → GameTree → List ℚ → Answer CheckStop (List ℕ)
tree_judged number tree entries = do
  verdict ← such_that (λ v. tree_verdict tree entries v.0 v.1)
  tree_told number verdict

-- a line with a profile of a table
abbrev pub table_line : GameTable → ℕ → List ℕ → Answer CheckStop (List ℕ)
table_line table number line = do
  entries ← line_entries number (strategy_counts table) line
  table_judged number table entries

-- a line with behaviour on a tree
abbrev pub tree_line : GameTree → ℕ → List ℕ → Answer CheckStop (List ℕ)
tree_line tree number line = do
  entries ← line_entries number (action_counts (game_of_tree tree)) line
  tree_judged number tree entries

-- ---- all lines
-- this text, where it is within the limit on texts
abbrev pub limited : List ℕ → Answer CheckStop (List ℕ)
limited judged = refused_by stops.TooLarge (limited_text judged)

-- All lines with profiles of a table are judged, before the length of the text is tested.
abbrev pub table_check : GameTable → List ℕ → Answer CheckStop (List ℕ)
table_check table text = do
  judged ← lines_answer (table_line table) 1 (lines_of text)
  limited judged

-- likewise all lines with behaviour on a tree
abbrev pub tree_check : GameTree → List ℕ → Answer CheckStop (List ℕ)
tree_check tree text = do
  judged ← lines_answer (tree_line tree) 1 (lines_of text)
  limited judged

-- ---- laws
-- a table and a text have at most one answer
abbrev pub TableChecksAreSingle : Type 0
TableChecksAreSingle = (table : GameTable) (text : List ℕ) → IsSingle (table_check table text)

-- a tree in which all players recall and a text have at most one answer
abbrev pub TreeChecksAreSingle : Type 0
TreeChecksAreSingle =
    (tree : GameTree) (text : List ℕ) → IsGameTree tree → AllRecall (game_of_tree tree)
    → IsSingle (tree_check tree text)
