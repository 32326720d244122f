-- An interrupted read takes no byte.
use Rattle.std.specs.Io.KnownBytes.{Keeps}
use Rattle.byte_devices.proofs.std_source.read_retrying.Given as goal

abbrev pub invariant-loop : goal.invariant-loop
invariant-loop g l = Keeps (g.R.Read.remaining l.initial.reader) (g.R.Read.remaining l.reader)
