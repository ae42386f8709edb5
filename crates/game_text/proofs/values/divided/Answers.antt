use Rattle.std.proofs.Common.{◌≡◌, mul-pos, arith}
use Rattle.frac128.proofs.PartLemmas.{den_size}
use Rattle.game_text.proofs.PowerLemmas.{ten_pos}
use Rattle.game_text.proofs.values.divided.Goals as goal

pub over-requires-clause-positive : goal.over-requires-clause-positive
over-requires-clause-positive c =
    let size : c.unsigned_abs.result ≡ c.args.fraction.den = den_size c.args.fraction c.den.result _ c.den.ensures.value c.den.ensures.fits c.unsigned_abs.ensures.value in
    mul-pos (omega (arith, size)) (omega (arith, ten_pos c.args.power))
