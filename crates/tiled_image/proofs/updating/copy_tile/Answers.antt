-- What the tactics leave open of `copy_tile`.
use Rattle.std.proofs.Common.{false, slice_index_or, sym, subst, ◌∙◌}
use Rattle.std.proofs.lemmas.Bool.{both_ways}
use Rattle.grid_core.specs.{declared.rect.Rect.Rect, Rects.IsPart, Rects.IsPatch, Rects.RectFits}
use Rattle.reset_core.specs.Parts.{IsPieceFor}
use Rattle.tile_work.proofs.TileSets.{is_there}
use Rattle.tiled_image.specs.SharedCopies.{IsRectCopied}
use Rattle.tiled_image.proofs.KeptImages.{bit_within, slot_within, tile_fits}
use Rattle.tiled_image.proofs.UpdatedCopies.{piece_for_copy, tile_from_part, tile_from_rows}
use Rattle.tiled_image.proofs.updating.copy_tile.Goals as goal

pub contains-requires : goal.contains-requires
contains-requires c = bit_within c.requires.kept c.args.tile c.requires.tile

pub copy_rect-requires-clause-width : goal.copy_rect-requires-clause-width
copy_rect-requires-clause-width c = c.requires.kept.rows_of_tiling.width ∙ sym c.requires.copy.width

pub copy_rect-requires-clause-height : goal.copy_rect-requires-clause-height
copy_rect-requires-clause-height c = c.requires.kept.rows_of_tiling.height ∙ sym c.requires.copy.height

pub copy_rect-requires-clause-fits : goal.copy_rect-requires-clause-fits
copy_rect-requires-clause-fits c =
    let copy = c.args.copy.now in
    subst (λ (rect : Rect). RectFits copy.width copy.height rect) (sym c.rect-rect.ensures.value)
    (tile_fits c.args.tiling.now copy c.requires.copy c.args.tile c.requires.tile)

pub returns-then-not-contains : goal.returns-then-not-contains
returns-then-not-contains c =
    let copy = c.args.copy.now in
    tile_from_rows c.requires.kept c.args.tile c.requires.tile copy c.requires.copy (λ has.
    both_ways (slice_index_or c.args.newer.now c.args.tile false) (sym c.contains.ensures ∙ c.if-not-contains.true)
    has.1) c.copy_rect.new.copy
    (subst (λ (rect : Rect). IsRectCopied rect c.args.rows.now copy c.copy_rect.new.copy) c.rect-rect.ensures.value
    c.copy_rect.ensures)

pub part-requires : goal.part-requires
part-requires c = slot_within c.requires.kept c.args.tile c.requires.tile

pub unreachable-requires : goal.unreachable-requires
unreachable-requires c =
    c.requires.kept.has_part c.args.tile
    (is_there c.args.newer.now c.args.tile (sym c.contains.ensures ∙ c.if-not-contains.false)) c.in-None.ensures

pub write_part-requires : goal.write_part-requires
write_part-requires c =
    subst (λ (rect : Rect). IsPieceFor rect c.args.copy.now c.in-Some.part.now) (sym c.rect-rect.ensures.value)
    (piece_for_copy c.requires.kept c.args.tile c.requires.tile c.args.copy.now c.requires.copy c.in-Some.part.now
    c.in-Some.ensures)

pub returns : goal.returns
returns c =
    tile_from_part c.requires.kept c.args.tile c.requires.tile c.args.copy.now c.requires.copy c.write_part.new.rows
    (subst (λ (rect : Rect). IsPatch rect c.args.copy.now c.write_part.new.rows) c.rect-rect.ensures.value
    c.write_part.ensures.patch) c.in-Some.part.now c.in-Some.ensures
    (subst (λ (rect : Rect). IsPart rect c.write_part.new.rows c.in-Some.part.now) c.rect-rect.ensures.value
    c.write_part.ensures.part)
