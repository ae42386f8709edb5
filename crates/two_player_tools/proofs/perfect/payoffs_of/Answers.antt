use Rattle.std.proofs.Common.{◌∙◌, inl, inr, ap, sym}
use Rattle.two_player_tools.specs.Perfect.{worth_refusal}
use Rattle.two_player_tools.proofs.perfect.payoffs_of.Goals as goal

pub returns-in-Ok-clause-stops : goal.returns-in-Ok-clause-stops
returns-in-Ok-clause-stops c =
    let found = c.requires.entries in
    (found.0, found.1, c.in-Ok.ensures.stop found.0 found.1)

pub returns-in-Err-Range-clause-stops : goal.returns-in-Err-Range-clause-stops
returns-in-Err-Range-clause-stops c =
    let found = c.requires.entries in
    let is = c.in-Err-Range.field-0-is in
    elim (c.in-Err-Range.ensures.stop found.0 found.1) [
      | inl memory ↦ absurd (cc (sym is ∙ memory))
      | inr h ↦ inr (c.in-Err-Range.field-0, (found.0, found.1, h), sym (ap (worth_refusal c.args.root) is))
    ]
