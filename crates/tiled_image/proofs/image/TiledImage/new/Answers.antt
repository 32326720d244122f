-- What the tactics leave open of `new`.
use Rattle.std.proofs.Common.{ap, length, false, ◌∙◌}
use Rattle.std.proofs.lemmas.List.{length-replicate}
use Rattle.tile_work.specs.TileSet.{Has}
use Rattle.tiled_image.specs.TiledImage.{IsOfTiling}
use Rattle.tiled_image.proofs.KeptImages.{rows_kept}
use Rattle.tiled_image.proofs.{AllKept.seen, AllKept.with_all, LaidRims.plainly_shown, SharedCopies.no_copies_are}
use Rattle.tiled_image.proofs.image.TiledImage.new.Goals as goal

pub invariant_of-result : goal.invariant_of-result
invariant_of-result c =
    let count = c.count-count.result in
    let size : IsOfTiling c.args.tiling c.args.rows = record {
      tiled = c.count-count.ensures.tiled;
      width = c.requires.width;
      height = c.requires.height;
      sized = c.width.ensures.sized;
    } in
    let raised = c.in-Ok-empty.raised in
    with_all raised
    (rows_kept c.args.tiling c.args.rows c.in-Ok.parts c.in-Ok-empty-2.newer count size c.count-count.ensures.value
    c.in-Ok.ensures c.in-Ok-empty-2.ensures)
    (plainly_shown (Has raised) c.args.tiling c.args.rows c.in-Ok-of.rims size c.in-Ok-of.ensures)
    (ap length c.in-Ok-empty.ensures ∙ length-replicate count false ∙ c.count-count.ensures.value)
    (no_copies_are c.args.tiling c.args.rows count c.in-Ok-none.copies c.count-count.ensures.value c.in-Ok-none.ensures)

pub returns-in-Ok-none-clause-image : goal.returns-in-Ok-none-clause-image
returns-in-Ok-none-clause-image c =
    let count = c.count-count.result in
    let size : IsOfTiling c.args.tiling c.args.rows = record {
      tiled = c.count-count.ensures.tiled;
      width = c.requires.width;
      height = c.requires.height;
      sized = c.width.ensures.sized;
    } in
    let raised = c.in-Ok-empty.raised in
    seen raised
    (rows_kept c.args.tiling c.args.rows c.in-Ok.parts c.in-Ok-empty-2.newer count size c.count-count.ensures.value
    c.in-Ok.ensures c.in-Ok-empty-2.ensures)
    (plainly_shown (Has raised) c.args.tiling c.args.rows c.in-Ok-of.rims size c.in-Ok-of.ensures)
