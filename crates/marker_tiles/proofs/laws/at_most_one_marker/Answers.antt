use Rattle.marker_tiles.proofs.Levels.{one_marker}
use Rattle.marker_tiles.proofs.laws.at_most_one_marker.Goals as goal

pub returns : goal.returns
returns c = one_marker
