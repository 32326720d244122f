-- What the tactics leave open of `copy_rect`.
use Rattle.std.proofs.Common.{◌≡◌, ◌+◌, ◌*◌, ap, arith, rules}
use Rattle.tile_work.proofs.RenewingSpans.{copy_is_steady, sizes_join, made_also, cells_are_span}
use Rattle.tile_work.proofs.RenewingRects.{rect_row, rect_row_more}
use Rattle.tile_work.proofs.renewing.reset.copy_rect.Goals as goal

pub copy_cells-requires : goal.copy_cells-requires
copy_cells-requires c = record {
  size = sizes_join c.requires.size c.loop-y.invariant.size;
  order = search rules;
  within = search rules;
}

pub loop-y-preserved : goal.loop-y-preserved
loop-y-preserved c =
    let rect = c.args.rect in
    let row = c.loop-y.y in
    let marker = c.args.marker.now in
    let from = row * c.width-width.result + rect.x in
    let from_is : from ≡ row * marker.width + rect.x = ap (λ w. row * w + rect.x) c.width-width.ensures.value in
    let to_is : from + rect.w ≡ row * marker.width + (rect.x + rect.w) = omega (arith, from_is) in
    made_also copy_is_steady c.loop-y.invariant
    (cells_are_span (rect_row rect row) from (from + rect.w) (sizes_join c.requires.size c.loop-y.invariant.size)
    c.requires.fits.columns from_is to_is c.copy_cells.ensures)
    (λ p _. rect_row_more rect row p c.loop-y.auto.y)
