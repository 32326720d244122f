-- What the tactics leave open of `has_pixels`.
use Rattle.grid_core.specs.{declared.rect.Rect.Rect, Raster.Raster, Rects.IsPart}
use Rattle.tiled_core.proofs.StoredCore.{is_kept_tile, of_core, of_kept}
use Rattle.tiled_core.proofs.replica.TiledCore.has_pixels.Goals as goal

pub is_part-requires : goal.is_part-requires
is_part-requires c =
    is_kept_tile c.self.inside c.args.self.now c.self.view_is c.self.invariant c.args.tile c.requires

pub returns : goal.returns
returns c =
    let core = c.args.self.now in
    let view = c.self.view_is in
    let stored = c.self.invariant in
    let holds : Rect → Raster → Type 0 = λ rect whole. IsPart rect whole c.args.piece.now in (
      λ yes. of_core c.self.inside core view stored holds c.args.tile (c.is_part.ensures.0 yes),
      λ is. c.is_part.ensures.1 (of_kept c.self.inside core view stored holds c.args.tile is),
    )
