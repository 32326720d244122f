use Rattle.marker_tiles.proofs.Levels.{marker_within}
use Rattle.marker_tiles.proofs.laws.marker_is_within_mask.Goals as goal

pub returns : goal.returns
returns c = marker_within
