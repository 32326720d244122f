use Rattle.stroke_lattice.proofs.Items.{strokes_are, tombstones_are}
use Rattle.stroke_lattice.proofs.laws.walks_give_one_list.Goals as goal

pub returns : goal.returns
returns c = record { strokes = strokes_are; tombstones = tombstones_are }
