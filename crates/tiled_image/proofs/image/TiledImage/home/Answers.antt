-- What the tactics leave open of `home`.
use Rattle.std.proofs.Common.{ap, sym, subst, ◌∙◌}
use Rattle.grid_core.specs.{declared.rect.Rect.Rect, Raster.IsInside, Rects.IsInRect, Tiles.Tiles, Tiles.rect_of}
use Rattle.tiled_image.proofs.KeptImages.{in_its_tile, inside_tiling}
use Rattle.tiled_image.proofs.image.TiledImage.home.Goals as goal

pub tile_of-tile-requires : goal.tile_of-tile-requires
tile_of-tile-requires c =
    let now = c.args.self.now in
    subst (λ (t : Tiles). IsInside t.width t.height c.args.p) (sym c.tiling-tiling.ensures.value)
    (inside_tiling now.tiling now.image c.tiling-tiling.ensures.of_tiling c.args.p c.requires)

pub returns-clause-tile : goal.returns-clause-tile
returns-clause-tile c =
    (in_its_tile c.args.self.now c.tiling-tiling.result c.tile_of-tile.result c.args.p
    c.tiling-tiling.ensures.of_tiling c.tiling-tiling.ensures.value c.requires c.tile_of-tile.ensures.value).0

pub returns-clause-inside : goal.returns-clause-inside
returns-clause-inside c =
    let there = in_its_tile c.args.self.now c.tiling-tiling.result c.tile_of-tile.result c.args.p
    c.tiling-tiling.ensures.of_tiling c.tiling-tiling.ensures.value c.requires c.tile_of-tile.ensures.value in
    subst (λ (rect : Rect). IsInRect rect c.args.p) (sym (c.rect.ensures.value
    ∙ ap (λ (t : Tiles). rect_of t c.tile_of-tile.result) c.tiling-tiling.ensures.value)) there.1
