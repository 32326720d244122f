-- What the tactics leave open of `tile_source`.
use Rattle.std.proofs.Common.{◌<◌, ap, sym, subst, ◌∙◌}
use Rattle.grid_core.specs.{declared.rect.Rect.Rect, Tiles.Tiles, Tiles.count_of, Tiles.rect_of}
use Rattle.grid_core.proofs.Tilings.{tiles_lie_inside}
use Rattle.tiled_image.specs.Shown.{HasPartAt}
use Rattle.tiled_image.proofs.{CopiedStrips.strip_in, ShownParts.shown_part}
use Rattle.tiled_image.proofs.image.TiledImage.tile_source.Goals as goal

pub rect-rect-requires : goal.rect-rect-requires
rect-rect-requires c =
    subst (λ (t : Tiles). c.args.tile < count_of t) (sym c.tiling-tiling.ensures.value) c.requires

pub returns : goal.returns
returns c =
    let now = c.args.self.now in
    let rect = rect_of now.tiling c.args.tile in
    let source = c.in_ok-shown.source.now in
    let shown = c.in_ok-shown.shown in
    let rect_is =
    c.rect-rect.ensures.value ∙ ap (λ (t : Tiles). rect_of t c.args.tile) c.tiling-tiling.ensures.value in
    let fits = tiles_lie_inside now.tiling c.args.tile c.tiling-tiling.ensures.of_tiling.tiled c.requires in
    subst (λ (r : Rect). HasPartAt rect now.image source (strip_in shown r)) (sym rect_is)
    (shown_part rect now.image source shown c.in_ok-shown.ensures fits.some_width fits.some_height)
