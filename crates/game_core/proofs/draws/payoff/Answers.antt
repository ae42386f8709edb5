use Rattle.std.proofs.Common.{ap, arith, nat_abs, ◌<◌, ◌^◌, ◌∙◌, subst, sym}
use Rattle.std.proofs.lemmas.Int.{to_z_pos}
use Rattle.std.specs.Int.{w128}
use Rattle.rational.specs.Rational.{whole}
use Rattle.game_core.specs.MadeTables.{digit_of}
use Rattle.game_core.proofs.draws.payoff.Goals as goal

pub over-requires-clause-num : goal.over-requires-clause-num
over-requires-clause-num c = subst (λ z. nat_abs z < 2 ^ 127) (sym (to_z_pos w128 (digit_of c.args.state) (omega arith))) (omega arith)

pub returns : goal.returns
returns c = c.over.ensures ∙ ap whole (to_z_pos w128 (digit_of c.args.state) (omega arith))
