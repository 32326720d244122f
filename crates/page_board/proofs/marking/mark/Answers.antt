use Rattle.std.proofs.Common.{◌<◌, length, arith}
use Rattle.page_board.proofs.Marked.{none_marked, marked_more, all_marked}
use Rattle.page_board.proofs.marking.mark.Goals as goal

pub loop-tile-init : goal.loop-tile-init
loop-tile-init c = none_marked c.args.tiles.now c.args.step c.args.shown.now

pub bounds-shown-tile : goal.bounds-shown-tile
bounds-shown-tile c = omega (arith, c.in-Some.ensures.has.0, c.requires, c.loop-tile.invariant.count)

pub loop-tile-preserved : goal.loop-tile-preserved
loop-tile-preserved c =
    let within : c.in-Some.tile < length c.loop-tile.shown =
    omega (arith, c.in-Some.ensures.has.0, c.requires, c.loop-tile.invariant.count) in
    marked_more c.args.tiles.now c.loop-tile.from c.in-Some.tile c.args.step c.args.shown.now c.loop-tile.shown
    c.in-Some.ensures within c.loop-tile.invariant

pub returns : goal.returns
returns c =
    all_marked c.args.tiles.now c.loop-tile.from c.args.step c.args.shown.now c.loop-tile.shown c.in_default.ensures
    c.loop-tile.invariant
