-- What the tactics leave open of `next_job`.
use Rattle.std.proofs.Common.{◌<◌, ◌∙◌, ap, arith, length, subst}
use Rattle.std.specs.Arc.{arc_value}
use Rattle.grid_core.specs.{Rects.IsPart, Tiles.count_of}
use Rattle.tile_generations.specs.Jobs.{Job}
use Rattle.tile_work.specs.OpenBounds.{bounds_for}
use Rattle.core_rules.specs.{Sweeps.tile_rect, Work.Core, Work.tiling, Work.work_at}
use Rattle.reset_core.specs.Bounding.{AreBoundedOrTold, AreCountedFrom}
use Rattle.reset_core.proofs.{BoundedOrTold.job_bounds, Sweeping.base_is_below}
use Rattle.tiled_core.proofs.StoredCore.{is_kept_tile, kept_sound, of_core}
use Rattle.tiled_core.proofs.replica.TiledCore.next_job.Goals as goal

pub share-requires : goal.share-requires
share-requires c =
    is_kept_tile c.self.inside c.args.self.now c.self.view_is c.self.invariant c.args.tile c.requires.is_tile

-- where there was no memory for the pixels, the core stays as it was
pub invariant_of-self : goal.invariant_of-self
invariant_of-self c = rw c.share.ensures.same c.self.invariant

pub returns-in_err-base-clause-same : goal.returns-in_err-base-clause-same
returns-in_err-base-clause-same c = rw c.share.ensures.same c.self.view_is

-- the table has bounds for each tile
pub get-requires : goal.get-requires
get-requires c =
    omega (
      arith,
      c.requires.is_tile,
      ap (λ (r : Core). length r.tiles) c.self.view_is,
      c.self.invariant.stored.sound.shape.tiles,
      c.self.invariant.stored.bounded.count,
    )

-- the bounds of a tile lie in it
pub counted_from-bounds-requires : goal.counted_from-bounds-requires
counted_from-bounds-requires c =
    let core = c.args.self.now in
    let sound = kept_sound c.self.inside core c.self.view_is c.self.invariant in
    let bounded =
    subst (λ (k : Core). AreBoundedOrTold k c.self.inside.bounds) c.self.view_is c.self.invariant.stored.bounded in
    rw (c.get.ensures, c.rect-rect.ensures.rect) (bounded.lie c.args.tile
    (omega (arith, c.requires.is_tile, sound.shape.tiles, bounded.count)))

pub shared-requires-clause-below : goal.shared-requires-clause-below
shared-requires-clause-below c =
    let core = c.args.self.now in
    let base = arc_value c.in_ok-base.base in
    base_is_below core c.args.tile base (arc_value c.args.mask)
    (kept_sound c.self.inside core c.self.view_is c.self.invariant) c.requires.is_tile
    (of_core c.self.inside core c.self.view_is c.self.invariant (λ rect whole. IsPart rect whole base) c.args.tile
    c.in_ok-base.ensures.part) c.requires.mask

pub shared-requires-clause-bounds : goal.shared-requires-clause-bounds
shared-requires-clause-bounds c =
    let core = c.args.self.now in
    let tiled = c.self.inside in
    let base = arc_value c.in_ok-base.base in
    let sound = kept_sound tiled core c.self.view_is c.self.invariant in
    let bounded =
    subst (λ (k : Core). AreBoundedOrTold k tiled.bounds) c.self.view_is c.self.invariant.stored.bounded in
    let within : c.args.tile < count_of (tiling core) = omega (arith, c.requires.is_tile, sound.shape.tiles) in
    let job : Job = record {
      ticket = record { tile = c.args.tile; generation = c.generation.result; serial = tiled.serial };
      conn = tiled.conn;
      base = base;
      mask = arc_value c.args.mask;
    } in
    let moved : AreCountedFrom (tile_rect core c.args.tile) (bounds_for tiled.bounds c.args.tile)
    c.counted_from-bounds.result =
    rw (c.get.ensures, c.rect-rect.ensures.rect) at c.counted_from-bounds.ensures in
    job_bounds core c.args.tile job tiled.bounds c.counted_from-bounds.result sound bounded within
    (ap (λ (r : Core). r.conn) c.self.view_is)
    (of_core tiled core c.self.view_is c.self.invariant (λ rect whole. IsPart rect whole base) c.args.tile
    c.in_ok-base.ensures.part) c.requires.mask moved

pub invariant_of-self-2 : goal.invariant_of-self-2
invariant_of-self-2 c = rw c.share.ensures.same c.self.invariant

pub returns-clause-same : goal.returns-clause-same
returns-clause-same c = rw c.share.ensures.same c.self.view_is

pub returns-clause-job : goal.returns-clause-job
returns-clause-job c =
    let core = c.args.self.now in
    let base = arc_value c.in_ok-base.base in
    let generation =
    c.generation.ensures.value ∙ ap (λ (k : Core). (work_at k c.args.tile).generation) c.self.view_is in
    let serial = ap (λ (k : Core). k.serial) c.self.view_is in
    rw c.shared.ensures (record {
      ticket = λ i. record { tile = c.args.tile; generation = generation i; serial = serial i };
      conn = ap (λ (k : Core). k.conn) c.self.view_is;
      base =
          of_core c.self.inside core c.self.view_is c.self.invariant (λ rect whole. IsPart rect whole base) c.args.tile
          c.in_ok-base.ensures.part;
      mask = c.requires.mask;
    })
