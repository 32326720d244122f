-- What the tactics leave open of `bounds_over`.
use Rattle.std.proofs.Common.{ap, refl, subst, sym}
use Rattle.grid_core.specs.Raster.{IsSized}
use Rattle.grid_core.specs.{declared.rect.Rect.Rect, Rects.RectFits, Tiles.rect_of}
use Rattle.tile_generations.specs.declared.ticket.Ticket.{Ticket}
use Rattle.core_rules.specs.{Sweeps.tile_rect, Work.IsTile}
use Rattle.reset_core.specs.Parts.{AreBoundsAbove, IsPieceFor}
use Rattle.reset_core.proofs.LeftOpen.{none_above}
use Rattle.reset_core.proofs.Sweeping.{swept_is_above, swept_is_piece}
use Rattle.tiled_image.specs.Raising.{IsBelowInside}
use Rattle.tiled_image.specs.Shown.{value_in}
use Rattle.tiled_core.specs.Stored.{parts_of}
use Rattle.tiled_core.proofs.StoredCore.{kept_rect, kept_sound, kept_tile_fits, of_core, of_kept}
use Rattle.tiled_core.proofs.replica.TiledCore.bounds_over.Goals as goal

-- a tile that is as it was is nowhere above what its sweep gave
pub returns-then-is_unchanged : goal.returns-then-is_unchanged
returns-then-is_unchanged c =
    let core = c.args.self.now in
    let swept = c.args.swept.now in
    let rect = tile_rect core swept.job.ticket.tile in
    let shape = (kept_sound c.self.inside core c.self.view_is c.self.invariant).shape in
    let sized : IsSized core.image = record {
      size = rw (shape.image.width, shape.image.height) shape.tiled.size;
      filled = shape.image.filled;
    } in
    let fits =
    kept_tile_fits c.self.inside core c.self.view_is c.self.invariant swept.job.ticket.tile c.requires.known.is_tile in
    subst (AreBoundsAbove rect rect.h core.image swept.pixels) (sym c.none.ensures)
    (none_above rect rect.h core.image swept.pixels sized fits
    (swept_is_above core swept c.pixels-pixels.ensures.swept c.requires.known
    (c.requires.unchanged c.if-is_unchanged.true)))

pub returns : goal.returns
returns c =
    let tiled = c.self.inside in
    let core = c.args.self.now in
    let swept = c.args.swept.now in
    let pixels = swept.pixels in
    let view = c.self.view_is in
    let stored = c.self.invariant in
    let tile = c.ticket-tile.result.tile in
    let tile_is = ap (λ (k : Ticket). k.tile) c.ticket-tile.ensures in
    let fits =
    kept_tile_fits tiled core view stored tile (subst (IsTile core) (sym tile_is) c.requires.known.is_tile) in
    let piece : IsPieceFor (rect_of tiled.image.tiling tile) tiled.image.image pixels =
    swept_is_piece (parts_of tiled) core swept tile (rect_of tiled.image.tiling tile) pixels view tile_is
    (kept_rect tiled core view stored tile) refl
    (subst (λ (r : Rect). RectFits core.image.width core.image.height r) (sym (kept_rect tiled core view stored tile))
    fits) c.pixels-pixels.ensures.swept c.requires.known in
    let below =
    of_kept tiled core view stored (λ rect whole. IsBelowInside rect whole (value_in rect pixels)) tile
    (subst (λ n. IsBelowInside (tile_rect core n) core.image (value_in (tile_rect core n) pixels)) (sym tile_is)
    c.requires.inside) in
    subst (λ n. AreBoundsAbove (tile_rect core n) (tile_rect core n).h core.image pixels c.bounds_over.result) tile_is
    (of_core tiled core view stored (λ rect whole. AreBoundsAbove rect rect.h whole pixels c.bounds_over.result) tile
    (c.bounds_over.ensures pixels piece c.rim.ensures below))
