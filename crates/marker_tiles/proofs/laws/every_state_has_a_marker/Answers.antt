use Rattle.marker_tiles.proofs.Existence.{some_marker}
use Rattle.marker_tiles.proofs.laws.every_state_has_a_marker.Goals as goal

pub returns : goal.returns
returns c = some_marker
