use Rattle.std.proofs.Common.{Ok, subst, sym}
use Rattle.answers.specs.Answers.{Gives}
use Rattle.refusals.specs.declared.refusal.Refusal.TheVariants as refusal
use Rattle.two_player_tools.specs.Perfect.{entries_by}
use Rattle.two_player_tools.specs.TwoPlayers.{tree_form_within, rows_by}
use Rattle.two_player_tools.proofs.perfect.form_behaviour.Goals as goal

pub program_behaviour-requires : goal.program_behaviour-requires
program_behaviour-requires c = subst (λ method. tree_form_within (rows_by method) c.args.tree.now (Ok c.args.form.now)) c.in-LinearProgram.is c.requires

pub returns-in-LinearProgram-clause-answer : goal.returns-in-LinearProgram-clause-answer
returns-in-LinearProgram-clause-answer c = subst (λ method. Gives refusal.Memory (entries_by method c.args.tree.now) c.program_behaviour.result) (sym c.in-LinearProgram.is) c.program_behaviour.ensures.answer

pub pivot_behaviour-requires : goal.pivot_behaviour-requires
pivot_behaviour-requires c = subst (λ method. tree_form_within (rows_by method) c.args.tree.now (Ok c.args.form.now)) c.in-Complementarity.is c.requires

pub returns-in-Complementarity-clause-answer : goal.returns-in-Complementarity-clause-answer
returns-in-Complementarity-clause-answer c = subst (λ method. Gives refusal.Memory (entries_by method c.args.tree.now) c.pivot_behaviour.result) (sym c.in-Complementarity.is) c.pivot_behaviour.ensures.answer
