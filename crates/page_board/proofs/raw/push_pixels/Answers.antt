use Rattle.std.proofs.{lemmas.List.take_more, lemmas.List.Elements.Contains-get_or}
use Rattle.grid_core.specs.declared.rect.Rect.{Rect}
use Rattle.page_board.proofs.Samples.{puts_more}
use Rattle.page_board.proofs.raw.push_pixels.Goals as goal

pub push_part-requires-clause-fits : goal.push_part-requires-clause-fits
push_part-requires-clause-fits c =
    c.requires.fit _ (Contains-get_or c.args.rects.now c.loop-rect.rect-index _ c.loop-rect-test.true)

pub loop-rect-preserved : goal.loop-rect-preserved
loop-rect-preserved c =
    let none : Rect = record { x = 0; y = 0; w = 0; h = 0 } in
    let part = c.in_ok-push_part.ensures in
    rw (take_more c.args.rects.now c.loop-rect.rect-index none c.loop-rect-test.true)
    (puts_more (record { raster = c.args.image.now; maxval = c.args.maxval }) _ _ part.piece c.args.out.now.items
    c.loop-rect.out.items c.push_part.new.out.items c.loop-rect.invariant part.is_part part.behind)
