use Rattle.std.proofs.Common.{refl}
use Rattle.stroke_lattice.specs.State.{nothing}
use Rattle.marker_tiles.specs.Kept.{IsMarkerOf}
use Rattle.marker_tiles.proofs.Keeping.{blank_marks_nothing, kept_is_in_order}
use Rattle.marker_tiles.proofs.mask_and_marker.Markers.over_blank.Goals as goal

pub invariant_of-result : goal.invariant_of-result
invariant_of-result c =
    let marks : IsMarkerOf c.args.mask nothing c.args.blank =
    blank_marks_nothing c.args.mask c.args.blank nothing c.contents_of_nothing.ensures.strokes c.requires.blank in
    kept_is_in_order c.args.mask c.args.blank c.args.tiling nothing c.cells-cells.ensures.sized
    c.requires.blank.size marks c.requires.width c.requires.height

pub returns : goal.returns
returns c = record {
  mask = refl;
  tiling = refl;
  marks = blank_marks_nothing c.args.mask c.args.blank nothing c.contents_of_nothing.ensures.strokes c.requires.blank;
}
