-- What the tactics leave open of `is_at_most_part`.
use Rattle.std.proofs.{Common.◌≡◌, Common.◌≤◌, Common.refl, Common.subst, Common.arith, lemmas.Bool.false≢true}
use Rattle.grid_core.specs.{Raster.value_at, Rects.IsRowOf, Rects.part}
use Rattle.reset_core.proofs.AtOnce.{alike_at_once, as_many, related_at_once}
use Rattle.reset_core.proofs.SweepingRows.{alike_more, related_row}
use Rattle.reset_core.proofs.parts.is_at_most_part.Goals as goal

pub returns-then-not-is_at_most : goal.returns-then-not-is_at_most
returns-then-not-is_at_most c =
    let rect = c.args.rect in
    let y = c.loop-y.y in
    let piece = value_at c.args.piece.now in
    let whole = part rect (value_at c.args.whole.now) in (
      λ h. absurd (false≢true h),
      λ is_part.
          let row : IsRowOf rect.w piece y c.row.result.now =
          subst (λ w. IsRowOf w piece y c.row.result.now) is_part.width c.row.ensures in
          c.if-not-is_at_most.ensures.1
          (related_row (λ a b. a ≤ b) rect.w piece whole y c.row.result.now c.row_in.result.now row
          c.row_in.ensures rect.h (λ p column below. is_part.values p (column, below)) c.loop-y-test.true),
    )

pub loop-y-preserved : goal.loop-y-preserved
loop-y-preserved c =
    let rect = c.args.rect in
    let y = c.loop-y.y in
    let piece = value_at c.args.piece.now in
    let whole = part rect (value_at c.args.whole.now) in
    let same : c.args.piece.now.width ≡ rect.w = omega (arith, c.width.ensures.value, c.if-width-rect.false) in
    let row : IsRowOf rect.w piece y c.row.result.now =
    subst (λ w. IsRowOf w piece y c.row.result.now) same c.row.ensures in
    alike_more (λ a b. a ≤ b) rect.w piece whole y c.row.result.now c.row_in.result.now row c.row_in.ensures
    c.loop-y.invariant (c.if-not-is_at_most.ensures.0 refl)

pub is_at_most_throughout-requires : goal.is_at_most_throughout-requires
is_at_most_throughout-requires c =
    as_many c.args.rect c.args.whole.now c.args.piece.now c.cells.result.now c.full_rows.result.now
    c.cells.ensures.values c.cells.ensures.sized.filled (omega (arith, c.width.ensures.value, c.if-width-rect.false))
    (omega (arith, c.height.ensures.value, c.if-height-rect.false)) c.full_rows.ensures

pub returns-then-rect-width : goal.returns-then-rect-width
returns-then-rect-width c =
    let rect = c.args.rect in
    let whole = c.args.whole.now in
    let piece = c.args.piece.now in
    let found = c.cells.result.now in
    let cells = c.full_rows.result.now in
    let values = c.cells.ensures.values in
    let filled = c.cells.ensures.sized.filled in
    let width : piece.width ≡ rect.w = omega (arith, c.width.ensures.value, c.if-width-rect.false) in
    let height : piece.height ≡ rect.h = omega (arith, c.height.ensures.value, c.if-height-rect.false) in
    let are_in = c.full_rows.ensures in (
      λ related. record {
        width = width;
        height = height;
        filled = filled;
        values =
            alike_at_once rect whole piece found cells values filled width height are_in (λ a b. a ≤ b)
            (c.is_at_most_throughout.ensures.0 related);
      },
      λ is_part.
          c.is_at_most_throughout.ensures.1
          (related_at_once rect whole piece found cells values filled width height are_in (λ a b. a ≤ b)
          is_part.values),
    )
