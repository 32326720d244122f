-- What the tactics leave open of `next_job`.
use Rattle.std.proofs.Common.{◌<◌, ap, arith, length, subst}
use Rattle.std.specs.Arc.{arc_value}
use Rattle.grid_core.specs.Tiles.{count_of}
use Rattle.tile_generations.specs.Jobs.{Job}
use Rattle.tile_work.specs.OpenBounds.{bounds_for}
use Rattle.core_rules.specs.{Invariant.IsSound, Sweeps.tile_rect, Work.Core, Work.tiling}
use Rattle.reset_core.specs.Bounding.{AreBoundedOrTold, AreCountedFrom}
use Rattle.reset_core.proofs.{BoundedOrTold.job_bounds, Sweeping.base_is_below}
use Rattle.reset_core.proofs.replica.Core.next_job.Goals as goal

-- the table has bounds for each tile
pub get-requires : goal.get-requires
get-requires c =
    omega (
      arith,
      c.requires.is_tile,
      ap (λ (r : Core). length r.tiles) c.self.view_is,
      c.self.invariant.sound.shape.tiles,
      c.self.invariant.bounded.count,
    )

-- the bounds of a tile lie in it
pub counted_from-bounds-requires : goal.counted_from-bounds-requires
counted_from-bounds-requires c =
    let core = c.args.self.now in
    let sound = subst IsSound c.self.view_is c.self.invariant.sound in
    let bounded =
    subst (λ k. AreBoundedOrTold k c.self.inside.bounds) c.self.view_is c.self.invariant.bounded in
    rw (c.get.ensures, c.rect-rect.ensures.rect) (bounded.lie c.args.tile
    (omega (arith, c.requires.is_tile, sound.shape.tiles, bounded.count)))

pub bounded-requires-clause-below : goal.bounded-requires-clause-below
bounded-requires-clause-below c =
    let core = c.args.self.now in
    let rect = c.rect-rect.ensures.rect in
    let image = ap (λ (r : Core). r.image) c.self.view_is in
    let sound = subst IsSound c.self.view_is c.self.invariant.sound in
    base_is_below core c.args.tile c.in_ok-base.base (arc_value c.args.mask) sound c.requires.is_tile
    (rw (image, rect) at c.in_ok-base.ensures) c.requires.mask

pub bounded-requires-clause-bounds : goal.bounded-requires-clause-bounds
bounded-requires-clause-bounds c =
    let core = c.args.self.now in
    let rect = c.rect-rect.ensures.rect in
    let image = ap (λ (r : Core). r.image) c.self.view_is in
    let sound = subst IsSound c.self.view_is c.self.invariant.sound in
    let bounded =
    subst (λ k. AreBoundedOrTold k c.self.inside.bounds) c.self.view_is c.self.invariant.bounded in
    let within : c.args.tile < count_of (tiling core) = omega (arith, c.requires.is_tile, sound.shape.tiles) in
    let job : Job = record {
      ticket = record {
        tile = c.args.tile;
        generation = c.generation.result;
        serial = c.self.inside.serial;
      };
      conn = c.self.inside.conn;
      base = c.in_ok-base.base;
      mask = arc_value c.args.mask;
    } in
    let moved : AreCountedFrom (tile_rect core c.args.tile) (bounds_for c.self.inside.bounds c.args.tile)
    c.counted_from-bounds.result =
    rw (c.get.ensures, rect) at c.counted_from-bounds.ensures in
    job_bounds core c.args.tile job c.self.inside.bounds c.counted_from-bounds.result sound bounded within
    (ap (λ (r : Core). r.conn) c.self.view_is) (rw (image, rect) at c.in_ok-base.ensures) c.requires.mask moved
