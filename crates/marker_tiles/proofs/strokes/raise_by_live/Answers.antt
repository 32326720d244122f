use Rattle.marker_tiles.proofs.{Marking.under_way_next, Marking.under_way_end}
use Rattle.marker_tiles.proofs.strokes.raise_by_live.Goals as goal

pub loop-stroke-preserved : goal.loop-stroke-preserved
loop-stroke-preserved c =
    under_way_next {entry = (c.in-Some.field-0-0.now, c.in-Some.stroke.now)} c.loop-stroke.invariant
    c.in-Some.ensures.steps c.level_brush.ensures c.paint_within.ensures

pub returns : goal.returns
returns c = under_way_end c.loop-stroke.invariant c.in-None.ensures.steps.0
