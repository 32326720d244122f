-- What the tactics leave open of `insert_from`.
use Rattle.std.proofs.Common.{◌+◌, ◌<◌, length, subst, sym, arith}
use Rattle.tile_work.specs.TileSet.{HasGained}
use Rattle.tile_work.proofs.TileSetShifts.{IsMovedBefore, none_moved, one_more_moved, all_moved}
use Rattle.tile_work.proofs.tile_set.TileSet.insert_from.Goals as goal

pub loop-tile-init : goal.loop-tile-init
loop-tile-init c = none_moved c.args.self.now c.args.first c.args.other.now

pub loop-tile-preserved : goal.loop-tile-preserved
loop-tile-preserved c =
    let found = c.in-Some.ensures in
    let within : c.args.first + c.in-Some.tile < length c.loop-tile.self =
    omega (arith, found.has.0, c.requires, c.loop-tile.invariant.count) in
    subst (HasGained c.args.self.now (IsMovedBefore c.args.first c.args.other.now (c.in-Some.tile + 1)))
    (sym c.insert.ensures)
    (one_more_moved c.args.self.now c.loop-tile.self c.args.first c.args.other.now c.loop-tile.next c.in-Some.tile
    within found c.loop-tile.invariant)

pub returns : goal.returns
returns c =
    all_moved c.args.self.now c.loop-tile.self c.args.first c.args.other.now c.loop-tile.next c.in_default.ensures
    c.loop-tile.invariant
