use Rattle.std.proofs.Common.{take, drop, refl, sym, ap, ◌∙◌}
use Rattle.game_text.proofs.NextTokenLemmas.{IsFrontRun, word_next, number_next, number_fault}
use Rattle.game_text.proofs.reading.next_run.Goals as goal

pub returns-then-is_letter-clause-token : goal.returns-then-is_letter-clause-token
returns-then-is_letter-clause-token c =
    let bytes = c.args.bytes.now in
    let run : IsFrontRun bytes c.split_at.result.0.now c.split_at.result.1.now = record {
      front = c.split_at.ensures.front ∙ ap (λ n. take n bytes) c.bare_length.ensures;
      back = c.split_at.ensures.back ∙ ap (λ n. drop n bytes) c.bare_length.ensures;
      some = c.in-len1-up.len_at_least;
    } in
    word_next bytes c.split_at.result.0.now c.split_at.result.1.now c.new.result run (sym c.is_letter.ensures ∙ c.if-is_letter.true) (c.new.ensures ∙ c.in_ok-word.ensures.items)

pub returns-in-Ok-clause-token : goal.returns-in-Ok-clause-token
returns-in-Ok-clause-token c =
    let bytes = c.args.bytes.now in
    let run : IsFrontRun bytes c.split_at.result.0.now c.split_at.result.1.now = record {
      front = c.split_at.ensures.front ∙ ap (λ n. take n bytes) c.bare_length.ensures;
      back = c.split_at.ensures.back ∙ ap (λ n. drop n bytes) c.bare_length.ensures;
      some = c.in-len1-up.len_at_least;
    } in
    number_next bytes c.split_at.result.0.now c.split_at.result.1.now _ run (sym c.is_letter.ensures ∙ c.if-is_letter.false) c.in-Ok.ensures.number

pub returns-in-Err-clause-fault : goal.returns-in-Err-clause-fault
returns-in-Err-clause-fault c =
    let bytes = c.args.bytes.now in
    let run : IsFrontRun bytes c.split_at.result.0.now c.split_at.result.1.now = record {
      front = c.split_at.ensures.front ∙ ap (λ n. take n bytes) c.bare_length.ensures;
      back = c.split_at.ensures.back ∙ ap (λ n. drop n bytes) c.bare_length.ensures;
      some = c.in-len1-up.len_at_least;
    } in
    rw c.fault-in-Err.ensures (refl, number_fault bytes c.split_at.result.0.now c.split_at.result.1.now c.in-Err.kind run (sym c.is_letter.ensures ∙ c.if-is_letter.false) c.in-Err.ensures.fault)
