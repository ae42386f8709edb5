-- The check of lines has an answer.
use Rattle.std.proofs.Common.{ℕ, ◌+◌, List, [], ◌∷◌, ◌++◌, Ok, refl, subst, sym}
use Rattle.answers.specs.Answers.{Answer, ◌>>=◌, only, refused_by, such_that}
use Rattle.answers.specs.Answered.{IsAnswered}
use Rattle.answers.proofs.AnsweredLemmas.{answered, bind-answered, only-answered, refused_by-answered, such_that-answered}
use Rattle.rational.specs.Rational.{ℚ}
use Rattle.game_theory.specs.OwnSets.{action_counts}
use Rattle.game_theory.specs.Recall.{AllRecall}
use Rattle.game_theory.specs.Trees.{IsTree}
use Rattle.game_core.specs.Limits.{limited_text}
use Rattle.game_core.specs.Table.{GameTable, IsTable, strategy_counts}
use Rattle.game_core.specs.Tree.{GameTree, IsGameTree}
use Rattle.game_core.specs.TreeGame.{game_of_tree}
use Rattle.game_core.proofs.AnsweredLimitLemmas.{limited_text-answered}
use Rattle.behaviour_profile.specs.EntryLaws.{TestedEntriesAreProfiles, TestedEntriesAreBehaviours}
use Rattle.behaviour_profile.specs.EntryTests.{profile_in}
use Rattle.behaviour_profile.proofs.AnsweredProfileLemmas.{profile_in-answered}
use Rattle.behaviour_profile.proofs.ProfileAnswerLemmas.{passed_same}
use Rattle.ne_printer.specs.ReadLines.{line_in}
use Rattle.ne_printer.specs.TextLines.{lines_of}
use Rattle.ne_printer.proofs.AnsweredLineLemmas.{line_in-answered}
use Rattle.verdicts.specs.AnsweredLaws.{TableVerdictsExist, TreeVerdictsExist}
use Rattle.verdicts.specs.TableChecks.{table_verdict}
use Rattle.verdicts.specs.TreeVerdicts.{tree_verdict}
use Rattle.verdicts.specs.declared.tables.TableVerdict.{TableVerdict}
use Rattle.verdicts.specs.declared.tables.TableVerdict.TheVariants as table_verdicts
use Rattle.verdicts.specs.declared.trees.TreeVerdict.{TreeVerdict}
use Rattle.verdicts.specs.declared.trees.TreeVerdict.TheVariants as tree_verdicts
use Rattle.ne_checker.specs.LineChecks.{faulty, limited, line_entries, table_check, table_judged, table_line, tree_check, tree_judged, tree_line, unread}
use Rattle.ne_checker.specs.Lines.{lines_answer}
use Rattle.ne_checker.specs.Texts.{table_told, tree_told}
use Rattle.ne_checker.specs.declared.stops.CheckStop.{CheckStop}

-- ---- all lines
-- lines have an answer, where each has
lines-answered : (judge : ℕ → List ℕ → Answer CheckStop (List ℕ)) → ((number : ℕ) (line : List ℕ) → IsAnswered (judge number line)) → (number : ℕ) (lines : List (List ℕ)) → IsAnswered (lines_answer judge number lines)
lines-answered judge each number [] = only-answered []
lines-answered judge each number (line ∷ lines) =
    bind-answered (judge number line) (λ text. lines_answer judge (number + 1) lines >>= λ texts. only (text ++ texts)) (each number line)
    (λ text _. bind-answered (lines_answer judge (number + 1) lines) (λ texts. only (text ++ texts)) (lines-answered judge each (number + 1) lines) (λ texts _. only-answered (text ++ texts)))

-- the check of a text has an answer, where that of each line has
check-answered : (judge : ℕ → List ℕ → Answer CheckStop (List ℕ)) → ((number : ℕ) (line : List ℕ) → IsAnswered (judge number line)) → (text : List ℕ) → IsAnswered (lines_answer judge 1 (lines_of text) >>= limited)
check-answered judge each text =
    bind-answered (lines_answer judge 1 (lines_of text)) limited (lines-answered judge each 1 (lines_of text)) (λ judged _. refused_by-answered _ (limited_text judged) (limited_text-answered judged))

-- ---- the entries of a line
entries-answered : (number : ℕ) (sizes line : List ℕ) → IsAnswered (line_entries number sizes line)
entries-answered number sizes line =
    bind-answered (refused_by (unread number) (line_in line)) (λ entries. refused_by (faulty number) (profile_in sizes entries)) (refused_by-answered (unread number) (line_in line) (line_in-answered line))
    (λ entries _. refused_by-answered (faulty number) (profile_in sizes entries) (profile_in-answered sizes entries))

-- entries of a line that are told were tested
told-tested : (number : ℕ) (sizes line : List ℕ) (tested : List ℚ) → line_entries number sizes line (Ok tested) → profile_in sizes tested (Ok tested)
told-tested number sizes line tested h = subst (λ entries. profile_in sizes entries (Ok tested)) (sym (passed_same sizes h.0 tested h.2)) h.2

-- ---- tables
table_told-answered : (number : ℕ) (verdict : TableVerdict) → IsAnswered (table_told number verdict)
table_told-answered number table_verdicts.Equilibrium = only-answered _
table_told-answered number (table_verdicts.Better player payoff best reply) = only-answered _
table_told-answered number (table_verdicts.Range step) = answered _ _ refl

-- a line with a profile of a table has an answer
table_line-answered : TestedEntriesAreProfiles → TableVerdictsExist → (table : GameTable) → IsTable table → (number : ℕ) (line : List ℕ) → IsAnswered (table_line table number line)
table_line-answered profiles exist table valid number line =
    bind-answered (line_entries number (strategy_counts table) line) (table_judged number table) (entries-answered number (strategy_counts table) line) (λ entries h.
    let profile = profiles.sound (strategy_counts table) entries (told-tested number (strategy_counts table) line entries h) in
    bind-answered (such_that (table_verdict table entries)) (table_told number)
    (such_that-answered (table_verdict table entries) (rw profile.1 (exist table profile.0 valid)))
    (λ verdict _. table_told-answered number verdict))

pub table_checks-answered : TestedEntriesAreProfiles → TableVerdictsExist → (table : GameTable) (text : List ℕ) → IsTable table → IsAnswered (table_check table text)
table_checks-answered profiles exist table text valid = check-answered (table_line table) (table_line-answered profiles exist table valid) text

-- ---- trees
tree_told-answered : (number : ℕ) (verdict : TreeVerdict × List ℕ) → IsAnswered (tree_told number verdict)
tree_told-answered number (tree_verdicts.Equilibrium, reply) = only-answered _
tree_told-answered number (tree_verdicts.Better player payoff best, reply) = only-answered _
tree_told-answered number (tree_verdicts.Range step, reply) = answered _ _ refl

-- a line with behaviour on a tree has an answer
tree_line-answered : TestedEntriesAreBehaviours → TreeVerdictsExist → (tree : GameTree) → IsGameTree tree → IsTree (game_of_tree tree) → AllRecall (game_of_tree tree) → (number : ℕ) (line : List ℕ) → IsAnswered (tree_line tree number line)
tree_line-answered behaviours exist tree valid game recall number line =
    let sizes = action_counts (game_of_tree tree) in
    bind-answered (line_entries number sizes line) (tree_judged number tree) (entries-answered number sizes line) (λ entries h.
    let behaviour = behaviours.sound (game_of_tree tree) entries game (told-tested number sizes line entries h) in
    bind-answered (such_that (λ v. tree_verdict tree entries v.0 v.1)) (tree_told number)
    (such_that-answered (λ v. tree_verdict tree entries v.0 v.1) (rw behaviour.1 (exist tree behaviour.0 valid recall)))
    (λ verdict _. tree_told-answered number verdict))

pub tree_checks-answered : TestedEntriesAreBehaviours → TreeVerdictsExist → ((tree : GameTree) → IsGameTree tree → IsTree (game_of_tree tree)) → (tree : GameTree) (text : List ℕ) → IsGameTree tree → AllRecall (game_of_tree tree) → IsAnswered (tree_check tree text)
tree_checks-answered behaviours exist game tree text valid recall = check-answered (tree_line tree) (tree_line-answered behaviours exist tree valid (game tree valid) recall) text
