-- What the tactics leave open of `share_part`.
use Rattle.std.proofs.Common.{◌≡◌, ◌+◌, ◌≤◌, Option, Some, None, slice_index_or, ap, sym, subst, ◌∙◌}
use Rattle.std.specs.{Arc.arc_value, declared.sync.Arc.Arc}
use Rattle.grid_core.specs.{declared.rect.Rect.Rect, Raster.Raster, Rects.IsPart, Tiles.rect_of}
use Rattle.tile_generations.specs.CutMasks.{cut_mask}
use Rattle.tiled_image.specs.TiledImage.{image_of}
use Rattle.tiled_image.proofs.{KeptImages.slot_within, KeptTiles.copy_kept, KeptTiles.cut_of_whole, PartsAt.none_when}
use Rattle.tiled_image.proofs.keeping.share_part.Goals as goal

-- the tile has no part where none was found
no_part : {Z : Type 0} (found : Option (Arc Raster Z)) (slot : Option Raster)
    → ((x : Arc Raster Z) → found ≡ Some x → ⊥) → cut_mask found ≡ slot → slot ≡ None
no_part found slot never same = sym same ∙ ap cut_mask (none_when found never)

pub share-requires : goal.share-requires
share-requires c = slot_within c.requires.kept c.args.tile c.requires.tile

pub returns-in-Some-clause-part : goal.returns-in-Some-clause-part
returns-in-Some-clause-part c =
    c.requires.kept.are_cut.cut c.args.tile (arc_value c.in-Some.part)
    (sym c.in_ok-part.ensures ∙ ap cut_mask c.in-Some.is)

pub cut-requires : goal.cut-requires
cut-requires c =
    let fits = c.rect.ensures.fits in
    let size = c.requires.kept.rows_of_tiling in
    record {
      some_width = fits.some_width;
      some_height = fits.some_height;
      columns = subst (λ w. c.rect.result.x + c.rect.result.w ≤ w) (sym size.width) fits.columns;
      rows = subst (λ h. c.rect.result.y + c.rect.result.h ≤ h) (sym size.height) fits.rows;
    }

pub put-requires : goal.put-requires
put-requires c = rw c.free_one.ensures (slot_within c.requires.kept c.args.tile c.requires.tile)

pub returns-clause-part : goal.returns-clause-part
returns-clause-part c =
    let a = c.args in
    let whole = image_of a.tiling.now a.rows.now a.parts.now a.newer.now in
    let none = no_part c.in_ok-part.field-0 (slice_index_or a.parts.now a.tile None) c.in_default.not-Some
    c.in_ok-part.ensures in
    let is_cut : IsPart (rect_of a.tiling.now a.tile) a.rows.now c.in_ok-cut.field-0 =
    subst (λ (rect : Rect). IsPart rect a.rows.now c.in_ok-cut.field-0) c.rect.ensures.value c.in_ok-cut.ensures in
    subst (λ (r : Raster). IsPart (rect_of a.tiling.now a.tile) whole r) (sym c.in_ok-part-2.ensures.ok)
    (cut_of_whole c.requires.kept a.tile c.requires.tile c.in_ok-cut.field-0 none is_cut)

pub returns-clause-kept : goal.returns-clause-kept
returns-clause-kept c =
    let a = c.args in
    let none = no_part c.in_ok-part.field-0 (slice_index_or a.parts.now a.tile None) c.in_default.not-Some
    c.in_ok-part.ensures in
    copy_kept c.requires.kept a.tile c.requires.tile c.rect.result c.in_ok-cut.field-0
    (arc_value c.in_ok-try_clone.field-0) none c.rect.ensures.value c.in_ok-cut.ensures
    (c.in_ok-try_clone.ensures ∙ c.in_ok-part-2.ensures.ok) c.put.new.self (rw (sym c.free_one.ensures) c.put.ensures)
