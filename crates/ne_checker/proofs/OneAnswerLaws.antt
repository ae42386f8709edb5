-- The check of lines has one answer.
use Rattle.std.proofs.Common.{ℕ, ◌+◌, ◌≡◌, List, [], ◌∷◌, ◌++◌}
use Rattle.answers.specs.Answers.{Answer, IsSingle, ◌>>=◌, only, refused_by, such_that}
use Rattle.answers.proofs.AnswerLemmas.{bind-single, only-single, refused-single, refused_by-single, such_that-single}
use Rattle.rational.specs.Rational.{ℚ}
use Rattle.game_core.specs.Table.{GameTable, strategy_counts}
use Rattle.game_core.specs.Tree.{GameTree, IsGameTree}
use Rattle.game_core.specs.TreeGame.{game_of_tree}
use Rattle.behaviour_profile.specs.EntryTests.{profile_in}
use Rattle.ne_printer.specs.ReadLines.{line_in}
use Rattle.ne_printer.proofs.LinesReadLemmas.{line_told}
use Rattle.game_core.specs.Limits.{limited_text}
use Rattle.game_core.proofs.LimitLemmas.{limited_text-single}
use Rattle.verdicts.specs.TableChecks.{table_verdict}
use Rattle.verdicts.specs.TreeVerdicts.{tree_verdict}
use Rattle.game_theory.specs.Recall.{AllRecall}
use Rattle.verdicts.specs.TreeVerdictLaws.{TreeVerdictsAreSingle}
use Rattle.verdicts.specs.declared.tables.TableVerdict.{TableVerdict}
use Rattle.verdicts.specs.declared.tables.TableVerdict.TheVariants as table_verdicts
use Rattle.verdicts.specs.declared.trees.TreeVerdict.{TreeVerdict}
use Rattle.verdicts.specs.declared.trees.TreeVerdict.TheVariants as tree_verdicts
use Rattle.verdicts.proofs.TableSingleLemmas.{verdict_once}
use Rattle.ne_checker.specs.LineChecks.{faulty, limited, line_entries, table_judged, table_line, tree_judged, tree_line, unread, TableChecksAreSingle, TreeChecksAreSingle}
use Rattle.ne_checker.specs.Lines.{lines_answer}
use Rattle.ne_printer.specs.TextLines.{lines_of}
use Rattle.game_theory.specs.OwnSets.{action_counts}
use Rattle.ne_checker.specs.Texts.{better_text, equilibrium_text, table_told, tree_told}
use Rattle.ne_checker.specs.declared.stops.CheckStop.{CheckStop}
use Rattle.ne_checker.specs.declared.stops.CheckStop.TheVariants as stops

-- ---- all lines
-- lines have one answer, where each has
lines_once : (judge : ℕ → List ℕ → Answer CheckStop (List ℕ)) → ((number : ℕ) (line : List ℕ) → IsSingle (judge number line)) → (number : ℕ) (lines : List (List ℕ)) → IsSingle (lines_answer judge number lines)
lines_once judge each number [] = only-single []
lines_once judge each number (line ∷ lines) =
    bind-single (judge number line) (λ text. lines_answer judge (number + 1) lines >>= λ texts. only (text ++ texts)) (each number line) (λ text h. bind-single (lines_answer judge (number + 1) lines) (λ texts. only (text ++ texts)) (lines_once judge each (number + 1) lines) (λ texts k. only-single (text ++ texts)))

limited_once : (judged : List ℕ) → IsSingle (limited judged)
limited_once judged = refused_by-single stops.TooLarge (limited_text judged) (limited_text-single judged)

-- the check of a text has one answer, where that of a line has
check_once : (judge : ℕ → List ℕ → Answer CheckStop (List ℕ)) → ((number : ℕ) (line : List ℕ) → IsSingle (judge number line)) → (text : List ℕ) → IsSingle (lines_answer judge 1 (lines_of text) >>= limited)
check_once judge each text =
    bind-single (lines_answer judge 1 (lines_of text)) limited (lines_once judge each 1 (lines_of text)) (λ judged h. limited_once judged)

-- ---- the entries of a line
-- entries in groups have one answer
abbrev pub ProfilesAreSingle : Type 0
ProfilesAreSingle = (sizes : List ℕ) (entries : List ℚ) → IsSingle (profile_in sizes entries)

entries_once : ProfilesAreSingle → (number : ℕ) (sizes line : List ℕ) → IsSingle (line_entries number sizes line)
entries_once profile_once number sizes line =
    bind-single (refused_by (unread number) (line_in line)) (λ entries. refused_by (faulty number) (profile_in sizes entries)) (refused_by-single (unread number) (line_in line) (line_told line)) (λ entries h. refused_by-single (faulty number) (profile_in sizes entries) (profile_once sizes entries))

-- ---- tables
table_told_once : (number : ℕ) (verdict : TableVerdict) → IsSingle (table_told number verdict)
table_told_once number table_verdicts.Equilibrium = only-single equilibrium_text
table_told_once number (table_verdicts.Better player payoff best reply) = only-single (better_text player payoff best (reply ∷ []))
table_told_once number (table_verdicts.Range step) = refused-single (stops.Range number step)

table_judged_once : (number : ℕ) (table : GameTable) (entries : List ℚ) → IsSingle (table_judged number table entries)
table_judged_once number table entries =
    bind-single (such_that (table_verdict table entries)) (table_told number) (such_that-single (table_verdict table entries) (verdict_once table entries)) (λ verdict h. table_told_once number verdict)

pub table_checks_once : ProfilesAreSingle → TableChecksAreSingle
table_checks_once profile_once table text =
    check_once (table_line table) (λ number line. bind-single (line_entries number (strategy_counts table) line) (table_judged number table) (entries_once profile_once number (strategy_counts table) line) (λ entries h. table_judged_once number table entries)) text

-- ---- trees
tree_told_once : (number : ℕ) (verdict : TreeVerdict × List ℕ) → IsSingle (tree_told number verdict)
tree_told_once number (tree_verdicts.Equilibrium, reply) = only-single equilibrium_text
tree_told_once number (tree_verdicts.Better player payoff best, reply) = only-single (better_text player payoff best reply)
tree_told_once number (tree_verdicts.Range step, reply) = refused-single (stops.Range number step)

tree_judged_once : TreeVerdictsAreSingle → (number : ℕ) (tree : GameTree) (entries : List ℚ) → IsGameTree tree → AllRecall (game_of_tree tree) → IsSingle (tree_judged number tree entries)
tree_judged_once once number tree entries is recall =
    bind-single (such_that (λ v. tree_verdict tree entries v.0 v.1)) (tree_told number) (such_that-single (λ v. tree_verdict tree entries v.0 v.1) same) (λ verdict h. tree_told_once number verdict)
  where
    same : (one other : TreeVerdict × List ℕ) → tree_verdict tree entries one.0 one.1 → tree_verdict tree entries other.0 other.1 → one ≡ other
    same one other h k =
        let both = once tree entries one.0 other.0 one.1 other.1 is recall h k in
        λ j. (both.0 j, both.1 j)

pub tree_checks_once : ProfilesAreSingle → TreeVerdictsAreSingle → TreeChecksAreSingle
tree_checks_once profile_once once tree text is recall =
    let sizes = action_counts (game_of_tree tree) in
    check_once (tree_line tree) (λ number line. bind-single (line_entries number sizes line) (tree_judged number tree) (entries_once profile_once number sizes line) (λ entries h. tree_judged_once once number tree entries is recall)) text
