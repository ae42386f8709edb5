use Rattle.std.proofs.Common.{sym, ap, ◌∙◌, subst}
use Rattle.game_text.specs.Numbers.{IsWithinLimits, form_value}
use Rattle.game_text.proofs.EveryAnswerLaws.{every_text}
use Rattle.game_text.proofs.NumeralFormLemmas.{one_form}
use Rattle.game_text.proofs.number.numbers_have_one_value.Goals as goal

pub returns-clause-some : goal.returns-clause-some
returns-clause-some c = every_text

pub returns-clause-value : goal.returns-clause-value
returns-clause-value c text one other p q =
    p.is_value ∙ ap form_value (one_form text p.form q.form p.is_written q.is_written) ∙ sym q.is_value

pub returns-clause-not_too_large : goal.returns-clause-not_too_large
returns-clause-not_too_large c text value p q =
    q.is_beyond (subst IsWithinLimits (one_form text p.form q.form p.is_written q.is_written) p.is_within)
