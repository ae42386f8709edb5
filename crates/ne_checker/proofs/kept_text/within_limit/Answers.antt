use Rattle.std.proofs.Common.{inr, refl, arith}
use Rattle.game_core.proofs.LimitLemmas.{text-long}
use Rattle.ne_checker.proofs.LineStepLemmas.{longer}
use Rattle.ne_checker.proofs.kept_text.within_limit.Goals as goal

pub returns-then-len-gt-MOST_TEXT : goal.returns-then-len-gt-MOST_TEXT
returns-then-len-gt-MOST_TEXT c = λ whole kept.
    inr (c.too_long_text.result, text-long whole c.too_long_text.result (longer whole c.args.text.items kept (omega (arith, c.if-len-gt-MOST_TEXT.true, c.len.ensures, c.args.text.ok.0))) c.too_long_text.ensures, refl)
