use Rattle.std.proofs.Common.{◌≡◌, ◌∷◌, [], ◌++◌, sym, ap, ◌∙◌, append_assoc}
use Rattle.game_text.proofs.QuotedLemmas.{spelled_more}
use Rattle.game_text.proofs.text.text.Goals as goal

pub loop-byte-preserved : goal.loop-byte-preserved
loop-byte-preserved c =
    let more = spelled_more c.loop-byte.rest.now c.in-Some.after.now c.in-Some.byte (sym c.in-Some.ensures) in
    let text : c.push.new.self.items ≡ c.loop-byte.text.items ++ c.in-Some.byte ∷ [] = c.in_ok-push.ensures.items in
    rw (text, append_assoc) (ap (λ t. c.loop-byte.text.items ++ t) (sym more.0) ∙ c.loop-byte.invariant)
