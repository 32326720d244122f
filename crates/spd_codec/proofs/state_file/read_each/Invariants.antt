use Rattle.std.proofs.Common.{length}
use Rattle.spd_codec.proofs.Files.{IsRead}
use Rattle.spd_codec.proofs.state_file.read_each.Given as goal

abbrev pub invariant-loop-rest : goal.invariant-loop-rest
invariant-loop-rest l = IsRead l.bytes l.frames.items l.rest

abbrev pub decreases-loop-rest : goal.decreases-loop-rest
decreases-loop-rest l = length l.rest
