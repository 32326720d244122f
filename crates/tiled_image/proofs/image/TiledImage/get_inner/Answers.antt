-- What the tactics leave open of `get_inner`.
use Rattle.std.proofs.Common.{◌≡◌, ◌<◌, ℕ, Bool, List, Option, ap, sym, subst, ◌∙◌}
use Rattle.grid_core.specs.{declared.pixel.Pixel.Pixel, declared.rect.Rect.Rect, Rects.IsInRect}
use Rattle.grid_core.specs.{Raster.Raster, Raster.IsInside, Raster.value_at}
use Rattle.grid_core.specs.Tiles.{Tiles, count_of, rect_of}
use Rattle.tile_work.specs.TileSet.{Has}
use Rattle.tiled_image.specs.RaisedTiles.{IsInner, IsShownBut, whole_of}
use Rattle.tiled_image.specs.TiledImage.{TiledRaster, image_of}
use Rattle.tiled_image.proofs.KeptImages.{part_at, rect_before, rows_at, tile_before}
use Rattle.tiled_image.proofs.{LaidRims.laid_in, Places.pixel_in_tile}
use Rattle.tiled_image.proofs.image.TiledImage.get_inner.Goals as goal

-- a pixel off the rim has the value below
off_rim : (tiling : Tiles) (rows : Raster) (parts : List (Option Raster)) (newer : List Bool) (rims : List ℕ)
    (raised : List Bool) (t : ℕ) (rect : Rect) (p : Pixel)
    → IsShownBut (Has raised) (whole_of tiling rows parts newer rims) tiling (image_of tiling rows parts newer) rims
    → t < count_of tiling → rect ≡ rect_of tiling t → IsInRect rect p → IsInner rect p
    → value_at (image_of tiling rows parts newer) p ≡ value_at (whole_of tiling rows parts newer rims) p
off_rim tiling rows parts newer rims raised t rect p shown within is inside is_inner =
    let (in_tiling, own) = pixel_in_tile tiling t shown.of_tiling.tiled within p
    (subst (λ (r : Rect). IsInRect r p) is inside) in
    (laid_in shown t).inner p in_tiling own (subst (λ (r : Rect). IsInner r p) is is_inner)

pub get-requires : goal.get-requires
get-requires c =
    let i = c.self.inside in
    let tile = c.args.tile in
    let whole = whole_of i.tiling i.rows i.parts i.newer i.rims in
    let m = c.in-Some.part.now in
    let within = tile_before i.tiling whole c.args.self.now tile c.self.view_is c.requires.tile in
    let rect = rect_before i.tiling whole c.args.self.now tile c.args.rect c.self.view_is c.requires.rect in
    subst (λ (q : Pixel). IsInside m.width m.height q) (sym c.place_in.ensures.value)
    (part_at c.self.invariant.kept tile within m c.in-Some.ensures c.args.rect rect c.args.p c.requires.inside).0

pub returns-in-Some : goal.returns-in-Some
returns-in-Some c =
    let i = c.self.inside in
    let tile = c.args.tile in
    let whole = whole_of i.tiling i.rows i.parts i.newer i.rims in
    let m = c.in-Some.part.now in
    let within = tile_before i.tiling whole c.args.self.now tile c.self.view_is c.requires.tile in
    let rect = rect_before i.tiling whole c.args.self.now tile c.args.rect c.self.view_is c.requires.rect in
    c.get.ensures ∙ ap (λ (q : Pixel). value_at m q) c.place_in.ensures.value
    ∙ (part_at c.self.invariant.kept tile within m c.in-Some.ensures c.args.rect rect c.args.p
    c.requires.inside).1
    ∙ off_rim i.tiling i.rows i.parts i.newer i.rims i.raised tile c.args.rect c.args.p c.self.invariant.shown within
    rect c.requires.inside c.requires.inner
    ∙ ap (λ (r : TiledRaster). value_at r.image c.args.p) c.self.view_is

pub get-requires-in-None : goal.get-requires-in-None
get-requires-in-None c =
    let i = c.self.inside in
    let tile = c.args.tile in
    let whole = whole_of i.tiling i.rows i.parts i.newer i.rims in
    let within = tile_before i.tiling whole c.args.self.now tile c.self.view_is c.requires.tile in
    let rect = rect_before i.tiling whole c.args.self.now tile c.args.rect c.self.view_is c.requires.rect in
    (rows_at c.self.invariant.kept tile within c.in-None.ensures c.args.p
    (subst (λ (r : Rect). IsInRect r c.args.p) rect c.requires.inside)).0

pub returns-in-None : goal.returns-in-None
returns-in-None c =
    let i = c.self.inside in
    let tile = c.args.tile in
    let whole = whole_of i.tiling i.rows i.parts i.newer i.rims in
    let within = tile_before i.tiling whole c.args.self.now tile c.self.view_is c.requires.tile in
    let rect = rect_before i.tiling whole c.args.self.now tile c.args.rect c.self.view_is c.requires.rect in
    c.get-in-None.ensures
    ∙ (rows_at c.self.invariant.kept tile within c.in-None.ensures c.args.p
    (subst (λ (r : Rect). IsInRect r c.args.p) rect c.requires.inside)).1
    ∙ off_rim i.tiling i.rows i.parts i.newer i.rims i.raised tile c.args.rect c.args.p c.self.invariant.shown within
    rect c.requires.inside c.requires.inner
    ∙ ap (λ (r : TiledRaster). value_at r.image c.args.p) c.self.view_is
