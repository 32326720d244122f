use Rattle.band_growth.proofs.HalfLaws.{halves_have_the_reconstruction}
use Rattle.band_growth.proofs.laws.halves_have_the_reconstruction.Goals as goal

pub returns : goal.returns
returns c = halves_have_the_reconstruction
