-- What the tactics leave open of `raise`.
use Rattle.std.proofs.Common.{◌≡◌, ◌<◌, ℕ, Bool, true, List, Option, Some, set, ap, refl, subst, sym, ◌∙◌}
use Rattle.std.specs.{Arc.arc_value, Prelude.⊤}
use Rattle.grid_core.specs.{declared.pixel.Pixel.Pixel, Raster.Raster, Raster.IsSized}
use Rattle.grid_core.specs.Tiles.{Tiles, count_of, rect_of}
use Rattle.core_rules.specs.Image.{IsJoinedWith}
use Rattle.tile_generations.specs.Rims.{IsRimOf, Rim}
use Rattle.tiled_image.specs.{AllKept.IsKeptWithAll, SharedCopies.Copies, SharedCopies.HaveChanged}
use Rattle.tiled_image.specs.{RaisedTiles.whole_of, Raising.IsBelowInside, Raising.greater_of, Rims.IsRimChanged}
use Rattle.tiled_image.specs.Rims.{IsRimOf as IsTileRim}
use Rattle.tiled_image.specs.{Shown.value_in, Sides.HasSides, Sides.HasValues}
use Rattle.tiled_image.specs.TiledImage.{TiledRaster, tiled_raster}
use Rattle.tiled_image.proofs.{KeptImages.tile_before, Sides.rim_sides, Sides.rim_values}
use Rattle.tiled_image.proofs.RaisedParts.{IsRaisedIn, bounds_seen, none_above, put_joins, raised_in, rim_seen}
use Rattle.tiled_image.proofs.image.TiledImage.raise.Goals as goal

pub bounds_over-requires-clause-count : goal.bounds_over-requires-clause-count
bounds_over-requires-clause-count c = c.self.invariant.shown.rims_are.count

pub bounds_over-requires-clause-tile : goal.bounds_over-requires-clause-tile
bounds_over-requires-clause-tile c =
    let i = c.self.inside in
    tile_before i.tiling (whole_of i.tiling i.rows i.parts i.newer i.rims) c.args.self.now c.args.tile c.self.view_is
    c.requires.tile

pub bounds_over-requires-clause-rim : goal.bounds_over-requires-clause-rim
bounds_over-requires-clause-rim c =
    subst (λ (r : TiledRaster). HasSides (rect_of r.tiling c.args.tile) c.args.rim.now) (sym c.self.view_is)
    (rim_sides (rect_of c.args.self.now.tiling c.args.tile) (arc_value c.args.part) c.args.rim.now c.requires.rim
    c.requires.width c.requires.height)

pub returns-then-is_empty-clause-joined : goal.returns-then-is_empty-clause-joined
returns-then-is_empty-clause-joined c =
    let i = c.self.inside in
    let now = c.args.self.now in
    let tile = c.args.tile in
    let part = arc_value c.args.part in
    let rect = rect_of now.tiling tile in
    let whole = whole_of i.tiling i.rows i.parts i.newer i.rims in
    let own = rim_seen now i.tiling whole i.rims tile c.self.view_is c.self.invariant.shown.rims_are
    (tile_before i.tiling whole now tile c.self.view_is c.requires.tile) in
    let over =
    bounds_seen now i.tiling i.rims tile c.args.rim.now c.bounds_over.result (value_in rect part)
    (ap (λ (r : TiledRaster). r.tiling) c.self.view_is) own c.bounds_over.ensures
    (rim_values rect part c.args.rim.now c.requires.rim c.requires.width c.requires.height) in
    put_joins rect part now.image c.put.new.self.image c.put.ensures.part c.put.ensures.patch
    (none_above rect now.image (value_in rect part) c.bounds_over.result over (c.if-is_empty.ensures.0 refl)
    c.requires.inside)

-- a part is put in below the raised rims, and this is kept of the tiled image `now`
raise_into : (now : TiledRaster) (tiling : Tiles) (tile : ℕ) (part seen rows : Raster) (rim : Rim)
    (parts new_parts : List (Option Raster)) (newer new_newer : List Bool) (copies new_copies : Copies)
    (raised new_raised : List Bool) (rims new_rims : List ℕ) → IsKeptWithAll tiling rows parts newer copies raised rims
    → tiled_raster tiling (whole_of tiling rows parts newer rims) ≡ now → tile < count_of now.tiling
    → part.width ≡ (rect_of now.tiling tile).w → part.height ≡ (rect_of now.tiling tile).h → IsRimOf part rim
    → seen ≡ part → IsSized seen → IsBelowInside (rect_of now.tiling tile) now.image
    (value_in (rect_of now.tiling tile) part)
    → new_parts ≡ set parts tile (Some part) → new_newer ≡ set newer tile true
    → HaveChanged (λ t. t ≡ tile) copies new_copies → new_raised ≡ set raised tile true
    → ((image : Raster) (value : Pixel → ℕ) → IsTileRim tiling image rims tile
    → HasValues (rect_of tiling tile) value rim
    → IsRimChanged tiling tile (λ _. ⊤) (greater_of image value) rims new_rims)
    → IsRaisedIn tiling tile part (whole_of tiling rows parts newer rims) rows new_parts new_newer new_copies new_raised
    new_rims
raise_into now tiling tile part seen rows rim parts new_parts newer new_newer copies new_copies raised new_raised rims
    new_rims kept view within width height is_rim is sized low parts_are newer_are copies_are raised_are rims_are =
    let whole = whole_of tiling rows parts newer rims in
    let rect = rect_of tiling tile in
    let value = value_in rect part in
    let in_tiling = tile_before tiling whole now tile view within in
    let wide = width ∙ ap (λ (r : TiledRaster). (rect_of r.tiling tile).w) (sym view) in
    let high = height ∙ ap (λ (r : TiledRaster). (rect_of r.tiling tile).h) (sym view) in
    raised_in tiling tile part rows parts new_parts newer new_newer copies new_copies raised new_raised rims new_rims
    kept in_tiling wide high (subst (λ (r : Raster). IsSized r) is sized).filled
    (subst (λ (r : TiledRaster). IsBelowInside (rect_of r.tiling tile) r.image (value_in (rect_of r.tiling tile) part))
    (sym view) low) parts_are newer_are copies_are raised_are
    (rims_are whole value (kept.shown.rims_are.values tile in_tiling)
    (rim_values rect part rim is_rim wide high))

pub invariant_of-self : goal.invariant_of-self
invariant_of-self c =
    let i = c.self.inside in
    (raise_into c.args.self.now i.tiling c.args.tile (arc_value c.args.part) c.deref.result.now i.rows c.args.rim.now
    i.parts c.put-else-is_empty.new.self i.newer c.insert.new.self i.copies c.mark.new.self i.raised
    c.insert-else-is_empty.new.self i.rims c.raise.new.self c.self.invariant c.self.view_is c.requires.tile
    c.requires.width c.requires.height c.requires.rim c.deref.ensures c.width.ensures.sized c.requires.inside
    c.put-else-is_empty.ensures c.insert.ensures c.mark.ensures c.insert-else-is_empty.ensures c.raise.ensures).kept

pub returns-else-is_empty-clause-joined : goal.returns-else-is_empty-clause-joined
returns-else-is_empty-clause-joined c =
    let i = c.self.inside in
    let tile = c.args.tile in
    let part = arc_value c.args.part in
    subst (λ (r : TiledRaster). IsJoinedWith (rect_of r.tiling tile) part r.image
    (whole_of i.tiling i.rows c.put-else-is_empty.new.self c.insert.new.self c.raise.new.self)) c.self.view_is
    (raise_into c.args.self.now i.tiling tile part c.deref.result.now i.rows c.args.rim.now i.parts
    c.put-else-is_empty.new.self i.newer c.insert.new.self i.copies c.mark.new.self i.raised
    c.insert-else-is_empty.new.self i.rims c.raise.new.self c.self.invariant c.self.view_is c.requires.tile
    c.requires.width c.requires.height c.requires.rim c.deref.ensures c.width.ensures.sized c.requires.inside
    c.put-else-is_empty.ensures c.insert.ensures c.mark.ensures c.insert-else-is_empty.ensures c.raise.ensures).joined
