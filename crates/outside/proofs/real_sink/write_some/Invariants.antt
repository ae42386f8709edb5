use Rattle.std.specs.Io.KnownBytes.{Keeps}
use Rattle.outside.proofs.real_sink.write_some.Given as goal

-- the interrupted calls kept what the writer holds
abbrev pub invariant-loop : goal.invariant-loop
invariant-loop g l = Keeps (g.W.Write.contents l.initial.inner) (g.W.Write.contents l.inner)
