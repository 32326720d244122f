-- What the tactics leave open of `write_part`.
use Rattle.std.proofs.Common.{length, ap, sym, subst}
use Rattle.grid_core.specs.{declared.rect.Rect.Rect, Raster.Raster, Rects.IsPart, Rects.IsPatch}
use Rattle.tiled_image.specs.Shown.{CanCopy, value_in}
use Rattle.tiled_image.proofs.WrittenParts.{all_by_sides, can_write, copied_into_all, written_part, written_patch}
use Rattle.tiled_image.proofs.keeping.write_part.Goals as goal

pub copy_strip-requires : goal.copy_strip-requires
copy_strip-requires c =
    let rect = c.args.rect in
    let rows = c.args.rows.now in
    let part = c.args.part.now in
    let count = length c.cells_mut.result.now in
    subst (λ (all : Rect). CanCopy rect part rect all count)
    (all_by_sides rows c.width.result c.height.result c.width.ensures.value c.height.ensures.value)
    (can_write rect rows part c.cells_mut.ensures.sized c.requires count (ap length c.cells_mut.ensures.values))

pub returns-clause-part : goal.returns-clause-part
returns-clause-part c =
    let rect = c.args.rect in
    let rows = c.args.rows.now in
    let part = c.args.part.now in
    let new = c.copy_strip.new.cells in
    let copied =
    copied_into_all rect (value_in rect part) rows c.width.result c.height.result c.cells_mut.result.now new
    c.width.ensures.value c.height.ensures.value c.cells_mut.ensures.values c.copy_strip.ensures in
    subst (λ (r : Raster). IsPart rect r part) (sym (c.cells_given_back.ensures rows new copied.count))
    (written_part rect rows part c.cells_mut.ensures.sized c.requires new c.cells.ensures.sized.filled copied)

pub returns-clause-patch : goal.returns-clause-patch
returns-clause-patch c =
    let rect = c.args.rect in
    let rows = c.args.rows.now in
    let part = c.args.part.now in
    let new = c.copy_strip.new.cells in
    let copied =
    copied_into_all rect (value_in rect part) rows c.width.result c.height.result c.cells_mut.result.now new
    c.width.ensures.value c.height.ensures.value c.cells_mut.ensures.values c.copy_strip.ensures in
    subst (λ (r : Raster). IsPatch rect rows r) (sym (c.cells_given_back.ensures rows new copied.count))
    (written_patch rect rows part c.cells_mut.ensures.sized c.requires new c.cells.ensures.sized.filled copied)
