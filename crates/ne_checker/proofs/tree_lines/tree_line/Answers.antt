use Rattle.std.proofs.Common.{◌∙◌, inr, ap, Ok}
use Rattle.game_theory.specs.OwnSets.{action_counts}
use Rattle.game_core.specs.TreeGame.{game_of_tree}
use Rattle.behaviour_profile.specs.EntryTests.{profile_in}
use Rattle.ne_printer.specs.ReadLines.{IsLine}
use Rattle.verdicts.specs.TreeScratches.{reply_of}
use Rattle.verdicts.specs.declared.trees.TreeVerdict.TheVariants as verdicts
use Rattle.lists.proofs.MappedErrorLemmas.{was_value}
use Rattle.ne_checker.specs.Texts.{better_text}
use Rattle.ne_checker.proofs.TreeLineLemmas.{line_out_of_range, line_told, tested_behaviour}
use Rattle.ne_checker.proofs.tree_lines.tree_line.Goals as goal
use Rattle.ne_checker.proofs.tree_lines.tree_line.Goals.{In_ok-behaviour}

-- the entries that were read
read : (c : In_ok-behaviour) → IsLine c.args.line.now c.in_ok-entries.entries.items
read c = rw (was_value _ c.read_line.result c.map_err.result c.in_ok-entries.entries c.map_err.ensures.cases c.in_ok-entries.was) at c.read_line.ensures

-- and the behaviour as which they passed
tested : (c : In_ok-behaviour) → profile_in (action_counts (game_of_tree c.args.tree.now)) c.in_ok-entries.entries.items (Ok c.in_ok-behaviour.behaviour)
tested c = rw (was_value _ c.try_new.result c.map_err-2.result c.in_ok-behaviour.behaviour c.map_err-2.ensures.cases c.in_ok-behaviour.was) at c.try_new.ensures

pub check_tree-requires-clause-entries : goal.check_tree-requires-clause-entries
check_tree-requires-clause-entries c =
    let found = tested_behaviour c.tested_entries_are_behaviours.ensures c.args.tree.now c.in_ok-entries.entries.items c.in_ok-behaviour.behaviour c.stands_for_game_tree.ensures.game (tested (goal.at.check_tree-requires-clause-entries c).In_ok-behaviour) in
    (found.0, found.1)

pub returns-in-Equilibrium-clause-text : goal.returns-in-Equilibrium-clause-text
returns-in-Equilibrium-clause-text c =
    line_told c.args.tree.now c.args.number c.args.line.now c.in_ok-entries.entries.items c.in_ok-behaviour.behaviour verdicts.Equilibrium (reply_of c.check_tree.new.scratch) c.in_ok-equilibrium-in-Equilibrium.field-0.items (read (goal.at.returns-in-Equilibrium-clause-text c).In_ok-behaviour) (tested (goal.at.returns-in-Equilibrium-clause-text c).In_ok-behaviour) c.in-Equilibrium.ensures.verdict (ap Ok c.in_ok-equilibrium-in-Equilibrium.ensures)

pub returns-in-Better-clause-text : goal.returns-in-Better-clause-text
returns-in-Better-clause-text c =
    line_told c.args.tree.now c.args.number c.args.line.now c.in_ok-entries.entries.items c.in_ok-behaviour.behaviour (verdicts.Better c.in-Better.player c.in-Better.payoff c.in-Better.best) (reply_of c.check_tree.new.scratch) c.in_ok-better_reply-in-Better.field-0.items (read (goal.at.returns-in-Better-clause-text c).In_ok-behaviour) (tested (goal.at.returns-in-Better-clause-text c).In_ok-behaviour) c.in-Better.ensures.verdict (ap Ok (c.in_ok-better_reply-in-Better.ensures ∙ ap (better_text c.in-Better.player c.in-Better.payoff c.in-Better.best) c.reply-reply.ensures))

pub returns-clause-text : goal.returns-clause-text
returns-clause-text c =
    inr (line_out_of_range c.args.tree.now c.args.number c.args.line.now c.in_ok-entries.entries.items c.in_ok-behaviour.behaviour c.in-Range.unfit (reply_of c.check_tree.new.scratch) (read (goal.at.returns-clause-text c).In_ok-behaviour) (tested (goal.at.returns-clause-text c).In_ok-behaviour) c.in-Range.ensures.verdict)
