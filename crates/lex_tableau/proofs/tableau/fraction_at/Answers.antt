use Rattle.std.proofs.Common.{◌∙◌, ◌+◌, ap₂, nat_abs}
use Rattle.rational.specs.Rational.{frac}
use Rattle.whole_rows.proofs.FittingStepLemmas.{read_at, read_first}
use Rattle.lex_tableau.proofs.tableau.fraction_at.Goals as goal

pub returns : goal.returns
returns c = c.fraction.ensures ∙ ap₂ (λ x y. frac x (nat_abs y)) (read_at c.args.numbers.now (c.args.first + c.args.place) c.requires.fit) (read_first c.args.numbers.now c.args.first c.requires.fit)
