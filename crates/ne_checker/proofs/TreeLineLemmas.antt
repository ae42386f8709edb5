-- A line with behaviour on a tree.
use Rattle.std.proofs.Common.{ℕ, ◌≡◌, ◌∙◌, List, inr, refl, subst, Ok, Err}
use Rattle.rational.specs.Rational.{ℚ}
use Rattle.frac128.specs.declared.steps.Unfit.{Unfit}
use Rattle.game_theory.specs.Behaviour.{Behaviour, IsValid}
use Rattle.game_theory.specs.TreeEntries.{tree_entries}
use Rattle.game_theory.specs.Trees.{IsTree as is_game_tree}
use Rattle.game_theory.specs.OwnSets.{action_counts}
use Rattle.game_core.specs.Tree.{GameTree}
use Rattle.game_core.specs.TreeGame.{game_of_tree}
use Rattle.behaviour_profile.specs.EntryLaws.{TestedEntriesAreBehaviours}
use Rattle.behaviour_profile.specs.EntryTests.{profile_in}
use Rattle.behaviour_profile.proofs.ProfileAnswerLemmas.{passed_same}
use Rattle.ne_printer.specs.ReadLines.{IsLine}
use Rattle.verdicts.specs.TreeVerdicts.{tree_verdict}
use Rattle.verdicts.specs.declared.trees.TreeVerdict.{TreeVerdict}
use Rattle.verdicts.specs.declared.trees.TreeVerdict.TheVariants as verdicts
use Rattle.ne_checker.specs.LineChecks.{tree_line}
use Rattle.ne_checker.specs.Texts.{tree_told}
use Rattle.ne_checker.specs.declared.stops.CheckStop.TheVariants as stops

-- tested entries are those of valid behaviour
pub tested_behaviour : TestedEntriesAreBehaviours → (tree : GameTree) (entries tested : List ℚ) → is_game_tree (game_of_tree tree) → profile_in (action_counts (game_of_tree tree)) entries (Ok tested) → (b : Behaviour) × (tested ≡ tree_entries (game_of_tree tree) b) × IsValid (game_of_tree tree) b
tested_behaviour law tree entries tested valid h =
    let same = passed_same (action_counts (game_of_tree tree)) entries tested h in
    let found = law.sound (game_of_tree tree) entries valid (subst (λ list. profile_in (action_counts (game_of_tree tree)) entries (Ok list)) same h) in
    (found.0, same ∙ found.1, found.2)

-- the answer of a line is what is told of its verdict
pub line_told : (tree : GameTree) (number : ℕ) (line : List ℕ) (entries tested : List ℚ) (verdict : TreeVerdict) (reply text : List ℕ) → IsLine line entries → profile_in (action_counts (game_of_tree tree)) entries (Ok tested) → tree_verdict tree tested verdict reply → tree_told number (verdict, reply) (Ok text) → tree_line tree number line (Ok text)
line_told tree number line entries tested verdict reply text is profile judged told =
    (tested, (entries, is, profile), ((verdict, reply), judged, told))

-- so is the refusal of a line with a step that does not fit
pub line_out_of_range : (tree : GameTree) (number : ℕ) (line : List ℕ) (entries tested : List ℚ) (step : Unfit) (reply : List ℕ) → IsLine line entries → profile_in (action_counts (game_of_tree tree)) entries (Ok tested) → tree_verdict tree tested (verdicts.Range step) reply → tree_line tree number line (Err (stops.Range number step))
line_out_of_range tree number line entries tested step reply is profile judged =
    inr (tested, (entries, is, profile), inr ((verdicts.Range step, reply), judged, refl))
