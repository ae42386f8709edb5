use Rattle.std.specs.Io.KnownBytes.{Keeps}
use Rattle.outside.proofs.real_inputs.read_some.Given as goal

-- the interrupted calls kept what is left
abbrev pub invariant-loop : goal.invariant-loop
invariant-loop g l = Keeps (g.S.Read.remaining l.initial.source) (g.S.Read.remaining l.source)
