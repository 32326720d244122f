use Rattle.std.proofs.Common.{◌∙◌, get_or, take, arith, flat_map}
use Rattle.std.proofs.lemmas.List.Elements.{Contains-get_or}
use Rattle.reset_core.specs.Telling.{both_on, hints_in, image_on}
use Rattle.grid_core.specs.declared.conn.Conn.TheVariants.{Four}
use Rattle.reset_core.proofs.Bounding.{follow_same, follow_twice}
use Rattle.reset_core.proofs.TellingHands.{none_handed, tile_handed_next, still_of_tiles}
use Rattle.std.proofs.lemmas.Grind.{common_steps}
use Rattle.reset_core.proofs.replica.in_place.hand_over_all.Goals as goal

pub loop-tile-init : goal.loop-tile-init
loop-tile-init c = record {
  handed = none_handed c.args.tiling.now (both_on c.args.tiling.now c.args.image.now c.args.work.now);
  bounds = λ conn. follow_same c.args.tiling.now conn (image_on c.args.tiling.now c.args.image.now) c.args.bounds.now;
}

pub loop-tile-preserved : goal.loop-tile-preserved
loop-tile-preserved c = record {
  handed =
      tile_handed_next c.args.tiling.now c.args.hints.now c.args.tiles.now c.loop-tile.tile-index
      (both_on c.args.tiling.now c.args.image.now c.args.work.now)
      (both_on c.args.tiling.now c.loop-tile.image c.loop-tile.work)
      (both_on c.args.tiling.now c.hand_over_in.new.image c.hand_over_in.new.work) c.loop-tile-test.true
      c.loop-tile.invariant.handed c.hand_over_in.ensures.handed;
  bounds = λ conn.
      follow_twice c.args.tiling.now conn (image_on c.args.tiling.now c.args.image.now)
      (image_on c.args.tiling.now c.loop-tile.image) (image_on c.args.tiling.now c.hand_over_in.new.image)
      c.args.bounds.now
      c.loop-tile.bounds c.hand_over_in.new.bounds c.requires.parts.tiled c.requires.bounds
      (c.loop-tile.invariant.bounds conn) (c.hand_over_in.ensures.bounds conn);
}

pub hand_over_in-requires-clause-tile : goal.hand_over_in-requires-clause-tile
hand_over_in-requires-clause-tile c =
    let i = c.loop-tile.tile-index in
    let tiles = c.args.tiles.now in
    let within = c.requires.tiles (get_or tiles i 0) (Contains-get_or tiles i 0 c.loop-tile-test.true) in
    record {
      parts =
          still_of_tiles c.args.tiling.now
          (flat_map (hints_in c.args.tiling.now c.args.hints.now) (take i c.args.tiles.now))
          c.args.image.now c.args.work.now c.loop-tile.image c.loop-tile.work c.loop-tile.invariant.handed
          c.requires.parts;
      within = omega (arith, within, c.loop-tile.invariant.handed.count);
    }

pub hand_over_in-requires-clause-bounds : goal.hand_over_in-requires-clause-bounds
hand_over_in-requires-clause-bounds c = (c.loop-tile.invariant.bounds Four).widened.count ∙ c.requires.bounds

pub hand_over_in-requires-clause-inside : goal.hand_over_in-requires-clause-inside
hand_over_in-requires-clause-inside c = grind (arith, common_steps)

pub hand_over_in-requires-clause-near : goal.hand_over_in-requires-clause-near
hand_over_in-requires-clause-near c = c.bounds_around-near.ensures
