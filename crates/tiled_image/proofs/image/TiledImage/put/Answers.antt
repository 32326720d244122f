-- What the tactics leave open of `put`.
use Rattle.std.proofs.Common.{◌≡◌, ◌<◌, ℕ, Bool, false, true, List, Option, Some, set, length, ap, sym, subst, ◌∙◌}
use Rattle.std.proofs.lemmas.List.{length-set}
use Rattle.std.specs.Arc.{arc_value}
use Rattle.grid_core.specs.{Raster.Raster, Raster.IsSized, Rects.IsPart, Rects.IsPatch}
use Rattle.grid_core.specs.Tiles.{Tiles, count_of, rect_of}
use Rattle.tiled_image.specs.{RaisedTiles.whole_of, Shown.value_in, Sides.HasSides, Sides.HasValues}
use Rattle.tiled_image.specs.TiledImage.{TiledRaster, IsKept, image_of, tiled_raster}
use Rattle.tiled_image.proofs.KeptImages.{bit_within, slot_within, tile_before}
use Rattle.tiled_image.proofs.{KeptTiles.IsPut, KeptTiles.is_put}
use Rattle.tiled_image.proofs.LaidRims.{put_else, put_shown, put_whole_part, put_whole_patch, whole_is, with_tile}
use Rattle.tiled_image.proofs.Sides.{rim_sides, rim_values}
use Rattle.tiled_image.proofs.{AllKept.with_all, SharedCopies.still_copies, TileRims.put_rims}
use Rattle.tiled_image.proofs.image.TiledImage.put.Goals as goal

-- a part of the tile's size is put into the tiled image `now`, over the image below
put_into : (now : TiledRaster) (tiling : Tiles) (whole : Raster) (rows : Raster) (parts : List (Option Raster))
    (newer : List Bool) (tile : ℕ) (part seen : Raster) (new_parts : List (Option Raster)) (new_newer : List Bool)
    → IsKept tiling rows parts newer → tiled_raster tiling whole ≡ now
    → tile < count_of now.tiling → part.width ≡ (rect_of now.tiling tile).w → part.height ≡ (rect_of now.tiling tile).h
    → seen ≡ part → IsSized seen → new_parts ≡ set parts tile (Some part) → new_newer ≡ set newer tile true
    → IsPut tiling tile (image_of tiling rows parts newer) rows part new_parts new_newer
put_into now tiling whole rows parts newer tile part seen new_parts new_newer kept view within width height is sized
    parts_are newer_are =
    is_put kept tile (tile_before tiling whole now tile view within) part
    (width ∙ ap (λ (r : TiledRaster). (rect_of r.tiling tile).w) (sym view))
    (height ∙ ap (λ (r : TiledRaster). (rect_of r.tiling tile).h) (sym view))
    (subst (λ (r : Raster). IsSized r) is sized).filled new_parts new_newer parts_are newer_are

pub take_rim-requires-clause-count : goal.take_rim-requires-clause-count
take_rim-requires-clause-count c = c.self.invariant.shown.rims_are.count

pub take_rim-requires-clause-tile : goal.take_rim-requires-clause-tile
take_rim-requires-clause-tile c =
    let i = c.self.inside in
    tile_before i.tiling (whole_of i.tiling i.rows i.parts i.newer i.rims) c.args.self.now c.args.tile c.self.view_is
    c.requires.tile

pub take_rim-requires-clause-rim : goal.take_rim-requires-clause-rim
take_rim-requires-clause-rim c =
    subst (λ (r : TiledRaster). HasSides (rect_of r.tiling c.args.tile) c.args.rim.now) (sym c.self.view_is)
    (rim_sides (rect_of c.args.self.now.tiling c.args.tile) (arc_value c.args.part) c.args.rim.now c.requires.rim
    c.requires.width c.requires.height)

pub put-requires : goal.put-requires
put-requires c =
    let i = c.self.inside in
    slot_within c.self.invariant.kept c.args.tile
    (tile_before i.tiling (whole_of i.tiling i.rows i.parts i.newer i.rims) c.args.self.now c.args.tile c.self.view_is
    c.requires.tile)

pub insert-requires : goal.insert-requires
insert-requires c =
    let i = c.self.inside in
    bit_within c.self.invariant.kept c.args.tile
    (tile_before i.tiling (whole_of i.tiling i.rows i.parts i.newer i.rims) c.args.self.now c.args.tile c.self.view_is
    c.requires.tile)

pub remove-requires : goal.remove-requires
remove-requires c =
    let i = c.self.inside in
    subst (λ n. c.args.tile < n) (sym c.self.invariant.count)
    (tile_before i.tiling (whole_of i.tiling i.rows i.parts i.newer i.rims) c.args.self.now c.args.tile c.self.view_is
    c.requires.tile)

pub invariant_of-self : goal.invariant_of-self
invariant_of-self c =
    let i = c.self.inside in
    let tile = c.args.tile in
    let part = arc_value c.args.part in
    let whole = whole_of i.tiling i.rows i.parts i.newer i.rims in
    let shown = c.self.invariant.shown in
    let within = tile_before i.tiling whole c.args.self.now tile c.self.view_is c.requires.tile in
    let new_below = image_of i.tiling i.rows c.put.new.self c.insert.new.self in
    let done = put_into c.args.self.now i.tiling whole i.rows i.parts i.newer tile part c.deref.result.now
    c.put.new.self c.insert.new.self c.self.invariant.kept c.self.view_is c.requires.tile c.requires.width
    c.requires.height c.deref.ensures c.width.ensures.sized c.put.ensures c.insert.ensures in
    let after = with_tile i.tiling whole tile (value_in (rect_of i.tiling tile) part) in
    let same = put_else i.raised shown tile within c.self.invariant.count part new_below done.is_part done.patch in
    let values : HasValues (rect_of i.tiling tile) (value_in (rect_of i.tiling tile) part) c.args.rim.now =
    subst (λ (r : TiledRaster). HasValues (rect_of r.tiling tile) (value_in (rect_of r.tiling tile) part)
    c.args.rim.now) (sym c.self.view_is)
    (rim_values (rect_of c.args.self.now.tiling tile) part c.args.rim.now c.requires.rim c.requires.width
    c.requires.height) in
    let rims_are = put_rims i.tiling shown.of_tiling.tiled tile part whole after i.rims c.take_rim.new.self within
    (c.take_rim.ensures (value_in (rect_of i.tiling tile) part) values)
    (put_whole_part i.raised shown tile within c.self.invariant.count part new_below done.is_part done.patch) same
    shown.rims_are in
    with_all c.remove.new.self done.kept
    (put_shown i.raised shown tile within c.self.invariant.count part new_below done.is_part done.patch
    c.take_rim.new.self rims_are c.remove.new.self c.remove.ensures)
    (ap length c.remove.ensures ∙ length-set i.raised tile false ∙ c.self.invariant.count)
    (still_copies c.self.invariant.copies_are c.mark.new.self (λ t. t ≡ tile) c.mark.ensures after same)

pub returns-clause-tiling : goal.returns-clause-tiling
returns-clause-tiling c = ap (λ (r : TiledRaster). r.tiling) c.self.view_is

pub returns-clause-part : goal.returns-clause-part
returns-clause-part c =
    let i = c.self.inside in
    let tile = c.args.tile in
    let part = arc_value c.args.part in
    let whole = whole_of i.tiling i.rows i.parts i.newer i.rims in
    let shown = c.self.invariant.shown in
    let within = tile_before i.tiling whole c.args.self.now tile c.self.view_is c.requires.tile in
    let new_below = image_of i.tiling i.rows c.put.new.self c.insert.new.self in
    let done = put_into c.args.self.now i.tiling whole i.rows i.parts i.newer tile part c.deref.result.now
    c.put.new.self c.insert.new.self c.self.invariant.kept c.self.view_is c.requires.tile c.requires.width
    c.requires.height c.deref.ensures c.width.ensures.sized c.put.ensures c.insert.ensures in
    let after = with_tile i.tiling whole tile (value_in (rect_of i.tiling tile) part) in
    let same = put_else i.raised shown tile within c.self.invariant.count part new_below done.is_part done.patch in
    let values : HasValues (rect_of i.tiling tile) (value_in (rect_of i.tiling tile) part) c.args.rim.now =
    subst (λ (r : TiledRaster). HasValues (rect_of r.tiling tile) (value_in (rect_of r.tiling tile) part)
    c.args.rim.now) (sym c.self.view_is)
    (rim_values (rect_of c.args.self.now.tiling tile) part c.args.rim.now c.requires.rim c.requires.width
    c.requires.height) in
    let rims_are = put_rims i.tiling shown.of_tiling.tiled tile part whole after i.rims c.take_rim.new.self within
    (c.take_rim.ensures (value_in (rect_of i.tiling tile) part) values)
    (put_whole_part i.raised shown tile within c.self.invariant.count part new_below done.is_part done.patch) same
    shown.rims_are in
    let new_is = whole_is done.kept
    (put_shown i.raised shown tile within c.self.invariant.count part new_below done.is_part done.patch
    c.take_rim.new.self rims_are c.remove.new.self c.remove.ensures) in
    subst (λ (r : TiledRaster). IsPart (rect_of r.tiling tile)
    (whole_of i.tiling i.rows c.put.new.self c.insert.new.self c.take_rim.new.self) part) c.self.view_is
    (subst (λ (r : Raster). IsPart (rect_of i.tiling tile) r part) (sym new_is)
    (put_whole_part i.raised shown tile within c.self.invariant.count part new_below done.is_part done.patch))

pub returns-clause-patch : goal.returns-clause-patch
returns-clause-patch c =
    let i = c.self.inside in
    let tile = c.args.tile in
    let part = arc_value c.args.part in
    let whole = whole_of i.tiling i.rows i.parts i.newer i.rims in
    let shown = c.self.invariant.shown in
    let within = tile_before i.tiling whole c.args.self.now tile c.self.view_is c.requires.tile in
    let new_below = image_of i.tiling i.rows c.put.new.self c.insert.new.self in
    let done = put_into c.args.self.now i.tiling whole i.rows i.parts i.newer tile part c.deref.result.now
    c.put.new.self c.insert.new.self c.self.invariant.kept c.self.view_is c.requires.tile c.requires.width
    c.requires.height c.deref.ensures c.width.ensures.sized c.put.ensures c.insert.ensures in
    let after = with_tile i.tiling whole tile (value_in (rect_of i.tiling tile) part) in
    let same = put_else i.raised shown tile within c.self.invariant.count part new_below done.is_part done.patch in
    let values : HasValues (rect_of i.tiling tile) (value_in (rect_of i.tiling tile) part) c.args.rim.now =
    subst (λ (r : TiledRaster). HasValues (rect_of r.tiling tile) (value_in (rect_of r.tiling tile) part)
    c.args.rim.now) (sym c.self.view_is)
    (rim_values (rect_of c.args.self.now.tiling tile) part c.args.rim.now c.requires.rim c.requires.width
    c.requires.height) in
    let rims_are = put_rims i.tiling shown.of_tiling.tiled tile part whole after i.rims c.take_rim.new.self within
    (c.take_rim.ensures (value_in (rect_of i.tiling tile) part) values)
    (put_whole_part i.raised shown tile within c.self.invariant.count part new_below done.is_part done.patch) same
    shown.rims_are in
    let new_is = whole_is done.kept
    (put_shown i.raised shown tile within c.self.invariant.count part new_below done.is_part done.patch
    c.take_rim.new.self rims_are c.remove.new.self c.remove.ensures) in
    subst (λ (r : TiledRaster). IsPatch (rect_of r.tiling tile) r.image
    (whole_of i.tiling i.rows c.put.new.self c.insert.new.self c.take_rim.new.self)) c.self.view_is
    (subst (λ (r : Raster). IsPatch (rect_of i.tiling tile) whole r) (sym new_is)
    (put_whole_patch i.raised shown tile within c.self.invariant.count part new_below done.is_part done.patch))
