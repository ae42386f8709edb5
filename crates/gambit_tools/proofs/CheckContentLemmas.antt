-- Refusals of the tool `check` come from the contents of its inputs, the steps that they name do not fit, and it has at
-- most one answer.
use Rattle.std.proofs.Common.{ℕ, ◌+◌, ◌≡◌, ◌<◌, inl, inr, refl, subst, sym, Bool, true, false, List, [], ◌∷◌, ◌++◌, length, Err}
use Rattle.answers.specs.Answers.{Answer, IsSingle, ◌>>=◌, ◌>>◌, only, refused_by, refused}
use Rattle.answers.proofs.AnswerLemmas.{bind-single, refuse_where-single, refused_by-single}
use Rattle.rational.specs.Rational.{ℚ}
use Rattle.game_core.specs.Table.{GameTable, strategy_counts}
use Rattle.game_core.specs.Limits.{limited_text}
use Rattle.game_core.specs.Tree.{GameTree}
use Rattle.game_core.specs.TreeGame.{game_of_tree}
use Rattle.game_core.specs.declared.game.Game.{Game}
use Rattle.game_core.specs.declared.game.Game.TheVariants.{Strategic, Extensive}
use Rattle.behaviour_profile.specs.EntryTests.{fault_of, profile_in, TestHolds, Test, IsNotNegative, CanBeAdded, SumsToOne}
use Rattle.behaviour_profile.specs.declared.entries.ProfileFault.{ProfileFault}
use Rattle.ne_printer.specs.ReadLines.{line_in}
use Rattle.ne_printer.specs.declared.reading.LineStop.{LineStop}
use Rattle.ne_printer.specs.declared.reading.LineStop.TheVariants as line_stop
use Rattle.ne_checker.specs.LineChecks.{TableChecksAreSingle, TreeChecksAreSingle, faulty, limited, line_entries, table_check, table_judged, table_line, tree_check, tree_judged, tree_line, unread}
use Rattle.ne_checker.specs.Lines.{lines_answer}
use Rattle.verdicts.specs.TableChecks.{table_verdict}
use Rattle.ne_checker.specs.Texts.{better_text, equilibrium_text, table_told, tree_told}
use Rattle.verdicts.specs.TreeVerdicts.{tree_verdict}
use Rattle.ne_printer.specs.TextLines.{lines_of}
use Rattle.ne_checker.specs.declared.stops.CheckStop.{CheckStop}
use Rattle.ne_checker.specs.declared.stops.CheckStop.TheVariants as check_stop
use Rattle.verdicts.specs.declared.tables.TableVerdict.{TableVerdict}
use Rattle.verdicts.specs.declared.tables.TableVerdict.TheVariants as table_verdicts
use Rattle.verdicts.specs.declared.trees.TreeVerdict.{TreeVerdict}
use Rattle.verdicts.specs.declared.trees.TreeVerdict.TheVariants as tree_verdicts
use Rattle.perfect_recall.specs.Found.{recall_of}
use Rattle.refusals.specs.Told.{check_refusal, recall_refusal}
use Rattle.refusals.specs.declared.refusal.Refusal.{Refusal}
use Rattle.refusals.specs.declared.refusal.Refusal.TheVariants as refusal
use Rattle.two_player_tools.specs.StrategicForms.{strategic_table}
use Rattle.two_player_tools.proofs.StrategicFormLemmas.{strategic_table-single}
use Rattle.gambit_tools.specs.Check.{check, verdicts}
use Rattle.two_player_tools.specs.GameTypes.{IsGame}
use Rattle.gambit_tools.specs.Games.{game_in, within_bytes}
use Rattle.gambit_tools.specs.Input.{most_bytes}
use Rattle.gambit_tools.proofs.FormContentLemmas.{AreContents, AreReasons, IsOfContents, inner-reasons, only-reasons, recall-contents, strategic_table-contents, then-contents, then-reasons, told-contents}
use Rattle.two_player_tools.proofs.FormSingleLemmas.{RecallsAreSingle}
use Rattle.game_theory.specs.OwnSets.{action_counts}
use Rattle.gambit_tools.proofs.ReadGameLemmas.{game_in-valid}
use Rattle.gambit_tools.proofs.GameSingleLemmas.{game_in-single}

-- ---- contents
unread-reasons : (number : ℕ) (line : List ℕ) (stop : LineStop) → line_in line (Err stop) → IsOfContents (check_refusal (unread number stop))
unread-reasons number line line_stop.Bad h = refl
unread-reasons number line line_stop.Memory h = absurd h

-- a test that is not passed
failed-reasons : (number : ℕ) (test : Test) → ¬ (TestHolds test) → IsOfContents (check_refusal (faulty number (fault_of test)))
failed-reasons number (IsNotNegative place entry) fails = refl
failed-reasons number (CanBeAdded step) fails = fails
failed-reasons number (SumsToOne group sum) fails = refl

faulty-reasons : (number : ℕ) (sizes : List ℕ) (entries : List ℚ) (fault : ProfileFault) → profile_in sizes entries (Err fault) → IsOfContents (check_refusal (faulty number fault))
faulty-reasons number sizes entries fault (inl h) = subst (λ s. IsOfContents (check_refusal (faulty number s))) (sym h.1) refl
faulty-reasons number sizes entries fault (inr (_, _, inl h)) =
    subst (λ s. IsOfContents (check_refusal (faulty number s))) (sym h.2) (failed-reasons number h.0 h.1.fails)
faulty-reasons number sizes entries fault (inr (_, _, inr (_, _, h))) = cc

entries-reasons : (number : ℕ) (sizes line : List ℕ) → AreReasons check_refusal (line_entries number sizes line)
entries-reasons number sizes line =
    then-reasons check_refusal (refused_by (unread number) (line_in line)) (λ entries. refused_by (faulty number) (profile_in sizes entries))
    (inner-reasons check_refusal (unread number) (line_in line) (unread-reasons number line))
    (λ entries. inner-reasons check_refusal (faulty number) (profile_in sizes entries) (faulty-reasons number sizes entries))

refused-reasons : (stop : CheckStop) → IsOfContents (check_refusal stop) → AreReasons check_refusal (refused {Y = List ℕ} stop)
refused-reasons stop of_contents other h =
    let same : stop ≡ other = cc h in
    subst (λ s. IsOfContents (check_refusal s)) same of_contents

table_told-reasons : (number : ℕ) (table : GameTable) (entries : List ℚ) (verdict : TableVerdict) → table_verdict table entries verdict → AreReasons check_refusal (table_told number verdict)
table_told-reasons number table entries table_verdicts.Equilibrium v = only-reasons check_refusal equilibrium_text
table_told-reasons number table entries (table_verdicts.Better player payoff best reply) v = only-reasons check_refusal (better_text player payoff best (reply ∷ []))
table_told-reasons number table entries (table_verdicts.Range step) v = refused-reasons (check_stop.Range number step) (v.2.first_unfit.does_not_fit)

table_judged-reasons : (number : ℕ) (table : GameTable) (entries : List ℚ) → AreReasons check_refusal (table_judged number table entries)
table_judged-reasons number table entries stop (inl h) = absurd h
table_judged-reasons number table entries stop (inr (verdict, v, h)) = table_told-reasons number table entries verdict v stop h

tree_told-reasons : (number : ℕ) (tree : GameTree) (entries : List ℚ) (verdict : TreeVerdict × List ℕ) → tree_verdict tree entries verdict.0 verdict.1 → AreReasons check_refusal (tree_told number verdict)
tree_told-reasons number tree entries (tree_verdicts.Equilibrium, reply) v = only-reasons check_refusal equilibrium_text
tree_told-reasons number tree entries (tree_verdicts.Better player payoff best, reply) v = only-reasons check_refusal (better_text player payoff best reply)
tree_told-reasons number tree entries (tree_verdicts.Range step, reply) v = refused-reasons (check_stop.Range number step) (v.2.0.first.does_not_fit)

tree_judged-reasons : (number : ℕ) (tree : GameTree) (entries : List ℚ) → AreReasons check_refusal (tree_judged number tree entries)
tree_judged-reasons number tree entries stop (inl h) = absurd h
tree_judged-reasons number tree entries stop (inr (verdict, v, h)) = tree_told-reasons number tree entries verdict v stop h

table_line-reasons : (table : GameTable) (number : ℕ) (line : List ℕ) → AreReasons check_refusal (table_line table number line)
table_line-reasons table number line =
    then-reasons check_refusal (line_entries number (strategy_counts table) line) (table_judged number table) (entries-reasons number (strategy_counts table) line) (table_judged-reasons number table)

tree_line-reasons : (tree : GameTree) (number : ℕ) (line : List ℕ) → AreReasons check_refusal (tree_line tree number line)
tree_line-reasons tree number line =
    then-reasons check_refusal (line_entries number (action_counts (game_of_tree tree)) line) (tree_judged number tree) (entries-reasons number (action_counts (game_of_tree tree)) line)
    (tree_judged-reasons number tree)

lines-reasons : (judge : ℕ → List ℕ → Answer CheckStop (List ℕ)) → ((number : ℕ) (line : List ℕ) → AreReasons check_refusal (judge number line)) → (number : ℕ) (lines : List (List ℕ))
    → AreReasons check_refusal (lines_answer judge number lines)
lines-reasons judge each number [] = only-reasons check_refusal []
lines-reasons judge each number (line ∷ lines) =
    then-reasons check_refusal (judge number line) (λ text. lines_answer judge (number + 1) lines >>= λ texts. only (text ++ texts)) (each number line)
    (λ text. then-reasons check_refusal (lines_answer judge (number + 1) lines) (λ texts. only (text ++ texts)) (lines-reasons judge each (number + 1) lines) (λ texts. only-reasons check_refusal (text ++ texts)))

limited-reasons : (judged : List ℕ) → AreReasons check_refusal (limited judged)
limited-reasons judged = inner-reasons check_refusal check_stop.TooLarge (limited_text judged) (λ limit h. refl)

table_check-reasons : (table : GameTable) (text : List ℕ) → AreReasons check_refusal (table_check table text)
table_check-reasons table text =
    then-reasons check_refusal (lines_answer (table_line table) 1 (lines_of text)) limited (lines-reasons (table_line table) (table_line-reasons table) 1 (lines_of text)) limited-reasons

tree_check-reasons : (tree : GameTree) (text : List ℕ) → AreReasons check_refusal (tree_check tree text)
tree_check-reasons tree text =
    then-reasons check_refusal (lines_answer (tree_line tree) 1 (lines_of text)) limited (lines-reasons (tree_line tree) (tree_line-reasons tree) 1 (lines_of text)) limited-reasons

strategic-contents : (game : Game) (lines : List ℕ) → AreContents (strategic_table game >>= λ table. refused_by check_refusal (table_check table lines))
strategic-contents game lines =
    then-contents (strategic_table game) (λ table. refused_by check_refusal (table_check table lines)) (strategic_table-contents game)
    (λ table. told-contents check_refusal (table_check table lines) (table_check-reasons table lines))

pub verdicts-contents : (strategic : Bool) (game : Game) (lines : List ℕ) (r : Refusal) → verdicts strategic game lines (Err r) → IsOfContents r
verdicts-contents true (Strategic table) lines = strategic-contents (Strategic table) lines
verdicts-contents false (Strategic table) lines = strategic-contents (Strategic table) lines
verdicts-contents true (Extensive tree) lines = strategic-contents (Extensive tree) lines
verdicts-contents false (Extensive tree) lines =
    then-contents (refused_by recall_refusal (recall_of tree)) (λ _. refused_by check_refusal (tree_check tree lines))
    (told-contents recall_refusal (recall_of tree) (recall-contents tree)) (λ _. told-contents check_refusal (tree_check tree lines) (tree_check-reasons tree lines))

-- ---- one answer
-- lines have at most one answer on a table, and on a tree
pub record ChecksAreSingle : Type 0 where
  pub tables : TableChecksAreSingle
  pub trees : TreeChecksAreSingle

strategic-single : ChecksAreSingle → (game : Game) (lines : List ℕ) → IsSingle (strategic_table game >>= λ table. refused_by check_refusal (table_check table lines))
strategic-single checks game lines =
    bind-single (strategic_table game) (λ table. refused_by check_refusal (table_check table lines)) (strategic_table-single game)
    (λ table _. refused_by-single check_refusal (table_check table lines) (checks.tables table lines))

verdicts-single : RecallsAreSingle → ChecksAreSingle → (strategic : Bool) (game : Game) (lines : List ℕ) → IsGame game → IsSingle (verdicts strategic game lines)
verdicts-single recalls checks true (Strategic table) lines w = strategic-single checks (Strategic table) lines
verdicts-single recalls checks false (Strategic table) lines w = strategic-single checks (Strategic table) lines
verdicts-single recalls checks true (Extensive tree) lines w = strategic-single checks (Extensive tree) lines
verdicts-single recalls checks false (Extensive tree) lines w =
    bind-single (refused_by recall_refusal (recall_of tree)) (λ _. refused_by check_refusal (tree_check tree lines))
    (refused_by-single recall_refusal (recall_of tree) (recalls tree w))
    (λ before h. refused_by-single check_refusal (tree_check tree lines) (checks.trees tree lines w h.all_recall))

pub check-single : RecallsAreSingle → ChecksAreSingle → (strategic : Bool) (bytes lines : List ℕ) → IsSingle (check strategic bytes lines)
check-single recalls checks strategic bytes lines =
    bind-single (within_bytes bytes) (λ _. within_bytes lines >> (game_in bytes >>= λ game. verdicts strategic game lines))
    (refuse_where-single (most_bytes < length bytes) refusal.TooLong)
    (λ _ _. bind-single (within_bytes lines) (λ _. game_in bytes >>= λ game. verdicts strategic game lines)
    (refuse_where-single (most_bytes < length lines) refusal.TooLong)
    (λ _ _. bind-single (game_in bytes) (λ game. verdicts strategic game lines) (game_in-single bytes) (λ game h. verdicts-single recalls checks strategic game lines (game_in-valid bytes game h))))
