use Rattle.std.proofs.Common.{◌≡◌, ◌<◌, ◌∙◌, arith, sym, ap, Some, length, true, false, string_bytes}
use Rattle.std.specs.Str.{bytes_eq}
use Rattle.outside.proofs.MemInputsLemmas.{first_named-other, first_named-found}
use Rattle.outside.proofs.mem_inputs.first_named.Goals as goal

pub loop-key-preserved : goal.loop-key-preserved
loop-key-preserved c =
    let below : c.loop-key.key-index < length c.args.named.now = omega arith in
    let other : bytes_eq (string_bytes c.loop-key-item.result.0) c.args.name.now ≡ false = cc in
    c.loop-key.invariant ∙ first_named-other (λ p. (string_bytes p.0, p.1.items)) c.args.named.now c.loop-key.key-index c.loop-key-item.result c.args.name.now below c.loop-key-item.is other

pub returns-then-eq : goal.returns-then-eq
returns-then-eq c =
    let below : c.loop-key.key-index < length c.args.named.now = omega arith in
    let same : bytes_eq (string_bytes c.loop-key-item.result.0) c.args.name.now ≡ true = cc in
    let found = first_named-found (λ p. (string_bytes p.0, p.1.items)) c.args.named.now c.loop-key.key-index c.loop-key-item.result c.args.name.now below c.loop-key-item.is same in
    ap Some c.as_slice.ensures.value ∙ sym (c.loop-key.invariant ∙ found)
