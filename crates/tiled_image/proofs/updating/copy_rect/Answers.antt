-- What the tactics leave open of `copy_rect`.
use Rattle.std.proofs.Common.{length, ap, sym, subst}
use Rattle.grid_core.specs.{declared.rect.Rect.Rect, Raster.Raster}
use Rattle.tiled_image.specs.{SharedCopies.IsRectCopied, Shown.CanCopy, Shown.value_in}
use Rattle.tiled_image.proofs.UpdatedCopies.{can_copy_rect, rect_copied}
use Rattle.tiled_image.proofs.WrittenParts.{all_by_sides, copied_into_all}
use Rattle.tiled_image.proofs.updating.copy_rect.Goals as goal

pub copy_strip-requires : goal.copy_strip-requires
copy_strip-requires c =
    let rect = c.args.rect in
    let image = c.args.image.now in
    let copy = c.args.copy.now in
    let count = length c.cells_mut.result.now in
    subst (λ (all : Rect). CanCopy rect image all all count)
    (all_by_sides copy c.width.result c.height.result c.width.ensures.value c.height.ensures.value)
    (can_copy_rect rect image copy c.cells_mut.ensures.sized c.requires.fits c.requires.width c.requires.height count
    (ap length c.cells_mut.ensures.values))

pub returns : goal.returns
returns c =
    let rect = c.args.rect in
    let image = c.args.image.now in
    let copy = c.args.copy.now in
    let new = c.copy_strip.new.cells in
    let copied =
    copied_into_all rect (value_in (record { x = 0; y = 0; w = c.width.result; h = c.height.result }) image) copy
    c.width.result c.height.result c.cells_mut.result.now new c.width.ensures.value c.height.ensures.value
    c.cells_mut.ensures.values c.copy_strip.ensures in
    subst (λ (r : Raster). IsRectCopied rect image copy r)
    (sym (c.cells_given_back.ensures copy new copied.count))
    (rect_copied rect image copy c.cells_mut.ensures.sized c.requires.fits new copied)
