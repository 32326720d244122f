use Rattle.std.proofs.Common.{◌≡◌, false, length}
use Rattle.pgm_codec.specs.Reading.{after_gap}
use Rattle.pgm_codec.proofs.numbers.after_gap.Given as goal

abbrev pub invariant-loop-rest : goal.invariant-loop-rest
invariant-loop-rest l = after_gap l.place l.inside l.rest ≡ after_gap l.place false l.text

abbrev pub decreases-loop-rest : goal.decreases-loop-rest
decreases-loop-rest l = length l.rest
