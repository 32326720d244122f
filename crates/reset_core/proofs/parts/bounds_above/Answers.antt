-- What the tactics leave open of `bounds_above`.
use Rattle.std.proofs.Common.{◌≡◌, ◌∙◌, arith, subst, sym}
use Rattle.grid_core.specs.{Raster.value_at, Rects.IsRowOf}
use Rattle.reset_core.specs.Parts.{AreBoundsAbove, IsBelowPiece}
use Rattle.reset_core.proofs.LeftOpen.{none_above, row_more}
use Rattle.reset_core.proofs.parts.bounds_above.Goals as goal
use Rattle.reset_core.proofs.parts.bounds_above.Goals.{then-is_above-via-then-is_above}
use Rattle.reset_core.proofs.parts.bounds_above.Goals.{then-is_above-via-else-is_above+then-is_seen_below}

pub returns-then-is_above : goal.returns-then-is_above
returns-then-is_above c =
    let rect = c.args.rect in
    let whole = c.args.whole.now in
    let piece = c.args.piece.now in
    let below : IsBelowPiece rect whole piece = elim c.then-is_above.branch [
      | then-is_above-via-then-is_above w ↦ c.requires.above w.if-is_above.true
      | then-is_above-via-else-is_above+then-is_seen_below w ↦ w.is_seen_below.ensures w.if-is_seen_below.true
    ] in
    subst (AreBoundsAbove rect rect.h whole piece) (sym c.none-bounds.ensures)
    (none_above rect rect.h whole piece c.width.ensures.sized c.requires.piece.fits below)

pub loop-y-init : goal.loop-y-init
loop-y-init c =
    let rect = c.args.rect in
    let whole = c.args.whole.now in
    let piece = c.args.piece.now in
    subst (AreBoundsAbove rect 0 whole piece) (sym c.none-bounds.ensures)
    (none_above rect 0 whole piece c.width.ensures.sized c.requires.piece.fits
    (λ p inside. absurd (omega (arith, inside.1))))

pub widened_by_row-bounds-requires-clause-columns : goal.widened_by_row-bounds-requires-clause-columns
widened_by_row-bounds-requires-clause-columns c =
    omega (arith, c.requires.piece.fits.columns, c.width.ensures.sized.size.width_within)

pub widened_by_row-bounds-requires-clause-rows : goal.widened_by_row-bounds-requires-clause-rows
widened_by_row-bounds-requires-clause-rows c =
    omega (arith, c.requires.piece.fits.rows, c.width.ensures.sized.size.height_within)

pub widened_by_row-bounds-requires-clause-values : goal.widened_by_row-bounds-requires-clause-values
widened_by_row-bounds-requires-clause-values c = c.row_in.ensures.long

pub widened_by_row-bounds-requires-clause-limits : goal.widened_by_row-bounds-requires-clause-limits
widened_by_row-bounds-requires-clause-limits c = c.row.ensures.long ∙ c.requires.piece.width

pub loop-y-preserved : goal.loop-y-preserved
loop-y-preserved c =
    let rect = c.args.rect in
    let y = c.loop-y.y in
    let piece = c.args.piece.now in
    let of_piece : IsRowOf rect.w (value_at piece) y c.row.result.now =
    subst (λ w. IsRowOf w (value_at piece) y c.row.result.now) c.requires.piece.width c.row.ensures in
    row_more rect y c.args.whole.now piece c.row_in.result.now c.row.result.now c.loop-y.bounds
    c.widened_by_row-bounds.result c.row_in.ensures of_piece c.loop-y.invariant c.widened_by_row-bounds.ensures

pub returns : goal.returns
returns c =
    let end : c.loop-y.y ≡ c.args.rect.h = omega (arith, c.loop-y-test.false, c.loop-y.auto.y-end) in
    subst (λ rows. AreBoundsAbove c.args.rect rows c.args.whole.now c.args.piece.now c.loop-y.bounds) end
    c.loop-y.invariant
