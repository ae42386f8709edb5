use Rattle.std.proofs.Common.{◌-◌, ◌^◌, ◌≤◌, ◌≡◌, ap, ◌∙◌, arith}
use Rattle.std.proofs.lemmas.Nat.Bits.{ones_shr}
use Rattle.basis_enum.proofs.marking.ones.Goals as goal

pub returns : goal.returns
returns c =
    let n = c.args.count in
    let few : n ≤ 128 = c.requires in
    let back : 128 - (128 - n) ≡ n = omega arith in
    ones_shr 128 (128 - n) (omega arith) ∙ ap (λ k. 2 ^ k - 1) back
