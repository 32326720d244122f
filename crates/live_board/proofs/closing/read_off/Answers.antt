use Rattle.std.proofs.Common.{◌<◌, List, ap, length, subst, sym, ℕ, ◌∙◌, ◌≡◌}
use Rattle.core.specs.Mem.Slots.{slots_items}
use Rattle.grid_core.proofs.Cells.{index_of-pixel_of, pixel_of, pixel_of-inside}
use Rattle.grid_core.specs.Raster.{Raster, index_of}
use Rattle.live_board.proofs.Endings.{read_more}
use Rattle.live_board.specs.Words.{IsOn, mask_of}
use Rattle.live_board.proofs.closing.read_off.Goals as goal

pub loop-cell-preserved : goal.loop-cell-preserved
loop-cell-preserved c =
    let kept = c.loop-cell.invariant in
    let width : ℕ = (mask_of c.args.base.now).width in
    let same : c.width-width.result ≡ width = kept.1 ∙ kept.0.width in
    let some_place : c.loop-cell.cell < length (mask_of c.args.base.now).cells =
    subst (λ (l : List ℕ). c.loop-cell.cell < length l) c.samples-cell-end.ensures.value c.loop-cell-test.true in
    let inside = pixel_of-inside (mask_of c.args.base.now) c.loop-cell.cell
    c.samples-cell-end.ensures.is_graymap.sized.filled some_place in (
      read_more c.args.base.now c.args.generation (slots_items c.args.closed.now.words) c.loop-cell.cell c.word.result
          c.value_in.result (pixel_of c.width-width.result c.loop-cell.cell) c.loop-cell.image c.set.new.self kept.0
          (subst (λ (w : ℕ). IsOn c.args.base.now (pixel_of w c.loop-cell.cell)) (sym same) inside)
          (subst (λ (w : ℕ). index_of width (pixel_of w c.loop-cell.cell) ≡ c.loop-cell.cell) (sym same)
          (index_of-pixel_of width c.loop-cell.cell)) c.word.ensures c.value_in.ensures c.set.ensures,
      kept.1 ∙ sym (ap (λ (r : Raster). r.width) c.set.ensures),
    )
