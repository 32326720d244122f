-- What the tactics leave open of `has_below`.
use Rattle.std.proofs.Common.{refl, subst, sym}
use Rattle.grid_core.specs.{declared.rect.Rect.Rect, Rects.IsPart, Rects.RectFits, Tiles.rect_of}
use Rattle.grid_core.proofs.Tilings.{tiles_lie_inside}
use Rattle.tiled_image.specs.{RaisedTiles.whole_of, Raising.IsBelowRim}
use Rattle.tiled_image.specs.TiledImage.{TiledRaster, image_of}
use Rattle.tiled_image.proofs.{KeptImages.tile_before, LaidRims.laid_in}
use Rattle.tiled_image.proofs.RaisedParts.{all_of_part, below_rim, part_of_part}
use Rattle.tiled_image.proofs.image.TiledImage.has_below.Goals as goal

pub rect-requires : goal.rect-requires
rect-requires c =
    let i = c.self.inside in
    tile_before i.tiling (whole_of i.tiling i.rows i.parts i.newer i.rims) c.args.self.now c.args.tile c.self.view_is
    c.requires

pub is_part-requires : goal.is_part-requires
is_part-requires c =
    let i = c.self.inside in
    let tile = c.args.tile in
    let m = c.in-Some.part.now in
    let within = tile_before i.tiling (whole_of i.tiling i.rows i.parts i.newer i.rims) c.args.self.now tile
    c.self.view_is c.requires in
    let fits = tiles_lie_inside i.tiling tile c.self.invariant.shown.of_tiling.tiled within in
    subst (λ (r : Rect). RectFits m.width m.height (record r { x = 0; y = 0 })) (sym c.rect.ensures.value)
    (all_of_part (rect_of i.tiling tile) (image_of i.tiling i.rows i.parts i.newer) m
    (c.self.invariant.kept.are_cut.cut tile m c.in-Some.ensures) fits.some_width fits.some_height)

pub returns-then-is_part : goal.returns-then-is_part
returns-then-is_part c holds =
    let i = c.self.inside in
    let tile = c.args.tile in
    let m = c.in-Some.part.now in
    let piece = c.args.piece.now in
    let whole = whole_of i.tiling i.rows i.parts i.newer i.rims in
    let below = image_of i.tiling i.rows i.parts i.newer in
    let rect = rect_of i.tiling tile in
    let shown = c.self.invariant.shown in
    let within = tile_before i.tiling whole c.args.self.now tile c.self.view_is c.requires in
    let same =
    subst (λ (r : Rect). IsPart (record r { x = 0; y = 0 }) m piece) c.rect.ensures.value
    (c.if-is_part.ensures.0 refl) in
    let is_part = part_of_part rect below m piece (c.self.invariant.kept.are_cut.cut tile m c.in-Some.ensures) same in
    subst (λ (r : TiledRaster). IsBelowRim (rect_of r.tiling tile) r.image piece) c.self.view_is
    (below_rim i.tiling tile whole below i.rims piece shown.of_tiling within (laid_in shown tile) is_part
    (λ edge p there. c.is_nowhere_below.ensures whole edge p holds (shown.rims_are.values tile within) there))
