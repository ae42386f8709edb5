use Rattle.std.proofs.Common.{ap, nat_abs, ◌<◌, ◌^◌, ◌∙◌, subst, sym}
use mir.Syntax.{w128}
use Rattle.std.proofs.lemmas.Int.{to_z_pos}
use Rattle.rational.specs.Rational.{frac}
use Rattle.ne_printer.proofs.reading.over.Goals as goal

pub over-requires-clause-num : goal.over-requires-clause-num
over-requires-clause-num c = subst (λ z. nat_abs z < 2 ^ 127) (sym (to_z_pos w128 c.args.num c.requires.num)) c.requires.num

pub returns : goal.returns
returns c = c.over.ensures ∙ ap (λ z. frac z c.args.den) (to_z_pos w128 c.args.num c.requires.num)
