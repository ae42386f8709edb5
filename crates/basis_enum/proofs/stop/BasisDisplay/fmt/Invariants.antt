use Rattle.std.proofs.Common.{take}
use Rattle.std.specs.Fmt.{HasWritten, IsPlainFormatter}
use Rattle.basis_enum.specs.Texts.{spaced}
use Rattle.basis_enum.proofs.stop.BasisDisplay.fmt.Given as goal

abbrev pub invariant-loop-variable : goal.invariant-loop-variable
invariant-loop-variable g l =
    IsPlainFormatter l.initial.f → HasWritten g.W.Write.write_str_gives l.initial.f (spaced (take l.variable-index l.variable-items)) l.f
