-- What the tactics leave open of `write_tile`.
use Rattle.std.proofs.Common.{false, slice_index_or, sym, subst, ◌∙◌}
use Rattle.std.proofs.lemmas.Bool.{both_ways}
use Rattle.grid_core.specs.{declared.rect.Rect.Rect, Rects.IsPart, Rects.IsPatch}
use Rattle.reset_core.specs.Parts.{IsPieceFor}
use Rattle.tile_work.proofs.TileSets.{is_there}
use Rattle.tiled_image.proofs.KeptImages.{bit_within, piece_for_rows, slot_within}
use Rattle.tiled_image.proofs.WrittenTiles.{older_written, part_written}
use Rattle.tiled_image.proofs.keeping.write_tile.Goals as goal

pub contains-requires : goal.contains-requires
contains-requires c = bit_within c.requires.kept c.args.tile c.requires.tile

pub returns-then-not-contains : goal.returns-then-not-contains
returns-then-not-contains c =
    older_written c.requires.kept c.args.tile c.requires.tile (λ has.
    both_ways (slice_index_or c.args.newer.now c.args.tile false) (sym c.contains.ensures ∙ c.if-not-contains.true)
    has.1)

pub part-requires : goal.part-requires
part-requires c = slot_within c.requires.kept c.args.tile c.requires.tile

pub unreachable-requires : goal.unreachable-requires
unreachable-requires c =
    c.requires.kept.has_part c.args.tile
    (is_there c.args.newer.now c.args.tile (sym c.contains.ensures ∙ c.if-not-contains.false)) c.in-None.ensures

pub write_part-requires : goal.write_part-requires
write_part-requires c =
    subst (λ (rect : Rect). IsPieceFor rect c.args.rows.now c.in-Some.part.now) (sym c.rect.ensures.value)
    (piece_for_rows c.requires.kept c.args.tile c.requires.tile c.in-Some.part.now c.in-Some.ensures)

pub returns : goal.returns
returns c =
    part_written c.requires.kept c.args.tile c.requires.tile c.in-Some.part.now c.in-Some.ensures c.write_part.new.rows
    (subst (λ (rect : Rect). IsPart rect c.write_part.new.rows c.in-Some.part.now) c.rect.ensures.value
    c.write_part.ensures.part)
    (subst (λ (rect : Rect). IsPatch rect c.args.rows.now c.write_part.new.rows) c.rect.ensures.value
    c.write_part.ensures.patch)
