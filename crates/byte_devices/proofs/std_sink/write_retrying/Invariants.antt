-- An interrupted write takes no byte.
use Rattle.std.specs.Io.KnownBytes.{Keeps}
use Rattle.byte_devices.proofs.std_sink.write_retrying.Given as goal

abbrev pub invariant-loop : goal.invariant-loop
invariant-loop g l = Keeps (g.W.Write.contents l.initial.writer) (g.W.Write.contents l.writer)
