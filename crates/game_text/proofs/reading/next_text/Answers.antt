use Rattle.std.proofs.Common.{refl}
use Rattle.game_text.proofs.NextTokenLemmas.{text_next, open_text}
use Rattle.game_text.proofs.reading.next_text.Goals as goal

pub returns-in_default-clause-fault : goal.returns-in_default-clause-fault
returns-in_default-clause-fault c =
    rw c.fault.ensures (refl, open_text c.args.bytes.now c.closing-closing.result.now c.closing-closing.ensures.closing c.in_default.len_below)

pub returns-clause-token : goal.returns-clause-token
returns-clause-token c =
    let text = c.in_ok-text in
    rw c.new.ensures (text_next c.args.bytes.now c.closing-closing.result.now text.text.items text.ensures c.closing-closing.ensures.closing c.in-len1-up.len_at_least)
