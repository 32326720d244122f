use Rattle.band_growth.proofs.HalfLaws.{open_pairs_lie_across}
use Rattle.band_growth.proofs.laws.open_pairs_lie_across.Goals as goal

pub returns : goal.returns
returns c = open_pairs_lie_across
