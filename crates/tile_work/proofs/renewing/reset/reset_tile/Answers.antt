-- What the tactics leave open of `reset_tile`.
use Rattle.std.proofs.Common.{arith}
use Rattle.std.proofs.{Common.◌≡◌, Common.◌∙◌, Common.ap, Common.length, Common.arith, Math.ListN.length-set}
use Rattle.grid_core.specs.{Bounds.bounds_of, Tiles.count_of}
use Rattle.border_queues.specs.TileWork.{reset_work, work_of}
use Rattle.tile_work.proofs.RenewingBounds.{tile_reset_within}
use Rattle.tile_work.proofs.RenewingTiles.{one_reset, touching_are_tiles}
use Rattle.std.proofs.lemmas.Grind.{common_steps}
use Rattle.tile_work.proofs.renewing.reset.reset_tile.Goals as goal

pub mark_all_dirty-requires : goal.mark_all_dirty-requires
mark_all_dirty-requires c = λ k within.
    let work = c.args.work.now in
    let tile = c.args.tile in
    let count : length c.reset.new.self ≡ count_of c.args.tiling.now =
    ap length c.reset.ensures ∙ length-set work tile (reset_work (work_of work tile)) ∙ c.requires.count in
    omega (
      arith,
      count,
      touching_are_tiles c.args.tiling.now tile c.touching-around.result c.as_slice.result.now
          c.as_slice.ensures.tiles c.touching-around.ensures.members k within,
    )

pub widen_near-requires-clause-tiles : goal.widen_near-requires-clause-tiles
widen_near-requires-clause-tiles c =
    touching_are_tiles c.args.tiling.now c.args.tile c.touching-around.result c.as_slice-2.result.now
    c.as_slice-2.ensures.tiles c.touching-around.ensures.members

pub returns-clause-reset : goal.returns-clause-reset
returns-clause-reset c =
    one_reset c.args.tiling.now c.args.tile c.args.work.now c.reset.new.self c.mark_all_dirty.new.work
    c.touching-around.result c.as_slice.result.now c.requires.tile c.requires.count c.reset.ensures
    c.as_slice.ensures.tiles c.touching-around.ensures.members c.mark_all_dirty.ensures

pub returns-clause-bounds : goal.returns-clause-bounds
returns-clause-bounds c =
    tile_reset_within c.args.tiling.now c.args.tile c.of-area.result c.wider.result c.args.bounds.now
    c.widen.new.self c.widen_near.new.bounds c.touching-around.result c.as_slice-2.result.now c.requires.tiled
    c.requires.tile c.each_pixel_in_one_tile.ensures c.neighbours_lie_in_touching_tiles.ensures
    (c.of-area.ensures ∙ ap bounds_of c.rect-rect.ensures.value) c.wider.ensures c.requires.bounds c.widen.ensures
    c.as_slice-2.ensures.tiles c.touching-around.ensures.members c.widen_near.ensures

pub widen_near-requires-clause-count : goal.widen_near-requires-clause-count
widen_near-requires-clause-count c = grind (arith, common_steps)
