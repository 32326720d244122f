use Rattle.std.proofs.Common.{◌≡◌, ◌≤◌, length}
use Rattle.pgm_codec.specs.Reading.{digits_after, too_great}
use Rattle.pgm_codec.proofs.numbers.digits.Given as goal

abbrev pub invariant-loop-rest : goal.invariant-loop-rest
invariant-loop-rest l = (digits_after l.value l.rest ≡ digits_after 0 l.text) × (l.value ≤ too_great)

abbrev pub decreases-loop-rest : goal.decreases-loop-rest
decreases-loop-rest l = length l.rest
