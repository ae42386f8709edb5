use Rattle.std.proofs.Common.{Ok, inr, length, refl, sym, subst, arith}
use Rattle.game_theory.specs.Lines.{lines_text}
use Rattle.game_core.specs.Limits.{limited_text}
use Rattle.game_core.proofs.LimitLemmas.{text-long, text-short}
use Rattle.enumpure.specs.Ranks.{lines_below}
use Rattle.enumpure.proofs.listing.list_profiles.Goals as goal

pub returns-then-bytes-gt-MOST_TEXT : goal.returns-then-bytes-gt-MOST_TEXT
returns-then-bytes-gt-MOST_TEXT c =
    let text = lines_text (lines_below c.args.counts.now c.args.passes.now (length c.args.passes.now)) in
    inr (_, text-long text _ (omega (arith, c.text_length-bytes.ensures, c.if-bytes-gt-MOST_TEXT.true)) c.too_long_text.ensures, refl)

pub returns : goal.returns
returns c =
    let text = lines_text (lines_below c.args.counts.now c.args.passes.now (length c.args.passes.now)) in
    subst (λ v. limited_text text (Ok v)) (sym (c.in_ok-write_lines.ensures {u = tt})) (text-short text (omega (arith, c.text_length-bytes.ensures, c.if-bytes-gt-MOST_TEXT.false)))
