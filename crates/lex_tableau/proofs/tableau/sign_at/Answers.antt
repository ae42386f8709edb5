use Rattle.std.proofs.Common.{◌∙◌, ◌+◌, ap, sym, nat_abs}
use Rattle.std.specs.Int.{int_signum}
use Rattle.rational.proofs.PartLemmas.{pos_abs}
use Rattle.whole_rows.proofs.FittingStepLemmas.{read_at}
use Rattle.whole_rows.specs.Rows.{from_place}
use Rattle.lex_tableau.proofs.SignLemmas.{sign_of-frac, sign_read}
use Rattle.lex_tableau.proofs.tableau.sign_at.Goals as goal

pub returns : goal.returns
returns c =
    sign_read (from_place c.args.numbers.now c.args.first c.args.place) c.signum.result (c.signum.ensures.value ∙ ap int_signum (read_at c.args.numbers.now (c.args.first + c.args.place) c.requires.fit))
    ∙ sym (sign_of-frac (from_place c.args.numbers.now c.args.first c.args.place) (nat_abs (from_place c.args.numbers.now c.args.first 0)) (pos_abs (from_place c.args.numbers.now c.args.first 0) c.requires.positive))
