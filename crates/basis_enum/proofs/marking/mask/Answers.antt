use Rattle.std.proofs.Common.{◌<◌, ◌≢◌, suc, ◌^◌, ◌-◌, ◌+◌, ◌*◌, ◌%◌, bit_and, length, sym, ap, ◌∙◌, subst, of_z}
use Rattle.std.specs.Int.{bit_not, cast_signed, w8, w128}
use Rattle.std.proofs.lemmas.Int.{to_z-of_z}
use Rattle.rational.specs.Rational.{zero_ℚ}
use Rattle.lex_tableau.specs.Rows.{tableau as fractions_of}
use Rattle.linear_systems.specs.Vertices.{IsZeroWord}
use Rattle.rational.proofs.TestLemmas.{sign_of-zero}
use Rattle.basis_enum.proofs.MaskLemmas.{solution_to, zeros_of_none, zeros_kept, zeros_cleared}
use Rattle.basis_enum.proofs.marking.mask.Goals as goal
use Rattle.basis_enum.proofs.marking.mask.Goals.{then-right_sign-ne0, else-right_sign-ne0}

pub loop-row-init : goal.loop-row-init
loop-row-init c =
    let t = fractions_of c.args.tableau.now in
    subst (IsZeroWord c.args.count (λ v. solution_to t 0 (suc v))) (sym c.ones-mask.ensures)
    (zeros_of_none t c.args.count)

pub loop-row-preserved : goal.loop-row-preserved
loop-row-preserved c =
    let t = fractions_of c.args.tableau.now in
    let within : c.loop-row.row < length c.args.tableau.now.basics = subst (λ xs. c.loop-row.row < length xs) c.basics-row-end.ensures c.loop-row-test.true in
    elim c.if-right_sign-ne0.branch [
      | then-right_sign-ne0 w ↦
          let ends = c.requires.numbered c.loop-row.row 0 within in
          let other : t.right c.loop-row.row ≢ zero_ℚ =
          λ z. w.if-right_sign-ne0.true (ap (of_z w8) (c.right_sign.ensures.value ∙ (sign_of-zero (t.right c.loop-row.row)).1 z)) in
          subst (IsZeroWord c.args.count (λ v. solution_to t (c.loop-row.row + 1) (suc v)))
          (sym (w.mask-is ∙ ap (λ v. bit_and c.loop-row.mask (bit_not w128 (1 * 2 ^ (v - 1) % 2 ^ 128))) w.basic.ensures))
          (zeros_cleared t c.args.count c.loop-row.row c.loop-row.mask c.right_sign.ensures.valid.reached.reached.proper within c.requires.few ends.0 ends.1 other c.loop-row.invariant)
      | else-right_sign-ne0 w ↦
          subst (IsZeroWord c.args.count (λ v. solution_to t (c.loop-row.row + 1) (suc v)))
          (sym w.mask-is)
          (zeros_kept t c.args.count c.loop-row.row c.loop-row.mask
          ((sign_of-zero (t.right c.loop-row.row)).0 (sym c.right_sign.ensures.value ∙ sym (to_z-of_z w8 c.right_sign.result (record { sfits = c.right_sign.type_inv })) ∙ ap (cast_signed w8) w.if-right_sign-ne0.false)) c.loop-row.invariant)
    ]
