use Rattle.std.proofs.Common.{arith, ◌∙◌}
use Rattle.std.proofs.lemmas.Int.{ints, to_z-of_z}
use Rattle.std.specs.Int.{w8}
use Rattle.lex_tableau.specs.Rows.{tableau}
use Rattle.zero_sum_lp.proofs.EnteringColumnLemmas.{below_by_sign, below_has_sign}
use Rattle.zero_sum_lp.proofs.path.is_negative.Goals as goal

pub returns : goal.returns
returns c =
    let back = to_z-of_z w8 c.entry_sign.result (record { sfits = c.entry_sign.type_inv }) in
    let cell = (tableau c.args.current.now).cell c.args.row c.args.column in
    let sign = back ∙ c.entry_sign.ensures.value in
    (λ h. below_by_sign cell _ sign (grind (arith, ints, h)), λ b. let below = below_has_sign cell _ sign b in grind (arith, ints, below))
