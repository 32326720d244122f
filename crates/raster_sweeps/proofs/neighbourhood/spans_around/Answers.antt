use Rattle.std.proofs.Common.{◌≡◌, ◌<◌, ◌≤◌, ◌+◌, ◌*◌, ◌/◌, ◌%◌, ℕ, ◌-◌, ap, arith}
use Rattle.std.proofs.Math.Nat.{mul-le-mul_left}
use Rattle.grid_core.specs.declared.conn.Conn.TheVariants.{Eight}
use Rattle.raster_sweeps.specs.declared.neighbourhood.RowSpan.{RowSpan}
use Rattle.raster_sweeps.proofs.Spans.{AreColumns, column_of_cell, no_span, row_of_cell, row_within, rows_above_within}
use Rattle.raster_sweeps.proofs.Spans.{rows_within, span_above, span_below, span_beside, spans_of}
use Rattle.raster_sweeps.proofs.neighbourhood.spans_around.Goals.{then-y-rect, else-y-rect, then-y-rect-2}
use Rattle.raster_sweeps.proofs.neighbourhood.spans_around.Goals.{else-y-rect-2}
use Rattle.raster_sweeps.proofs.neighbourhood.spans_around.Goals as goal

pub returns : goal.returns
returns c p inside place =
    let conn = Eight in
    let rect = c.args.rect in
    let width = c.args.width in
    let cell = c.args.cell in
    let x : cell % width ≡ rect.x + p.x = column_of_cell rect width cell p c.requires.columns inside place in
    let y : cell / width ≡ rect.y + p.y = row_of_cell rect width cell p c.requires.columns inside place in
    let row : cell - cell % width ≡ (rect.y + p.y) * width = omega (arith, place, x) in
    let columns : AreColumns conn rect (rect.x + p.x) (c.max-left.result - 1) c.min-right.result =
    (omega (arith, c.max-left.ensures, x), omega (arith, c.min-right.ensures, x)) in
    let beside : RowSpan = record {
      first = cell - cell % width + (c.max-left.result - 1);
      end = cell - cell % width + c.min-right.result;
      row = cell / width - rect.y;
    } in
    spans_of (elim c.if-y-rect.branch [
      | then-y-rect w ↦
          let up : ℕ = p.y - 1 in
          let next : up + 1 ≡ p.y = omega (arith, w.if-y-rect.true, y) in
          let start : (rect.y + (up + 1)) * width ≡ (rect.y + p.y) * width = ap (λ r. (rect.y + r) * width) next in
          span_above conn rect width p inside (c.max-left.result - 1) c.min-right.result columns c.if-y-rect.above up
          next
          (omega (arith, ap (λ s. s.first) w.above-is, row, start))
          (omega (arith, ap (λ s. s.end) w.above-is, row, start))
      | else-y-rect w ↦
          no_span (λ k here. absurd (omega (arith, here.1, ap (λ s. s.end) w.above-is)))
          (λ q inside_q up. absurd (omega (arith, up, w.if-y-rect.false, y)))
    ])
    (span_beside conn rect width p
    beside
    inside (omega (arith, row, c.max-left.ensures, x)) (omega (arith, row, c.min-right.ensures, x)))
    (elim c.if-y-rect-2.branch [
      | then-y-rect-2 w ↦
          span_below conn rect width p inside (c.max-left.result - 1) c.min-right.result columns c.if-y-rect-2.below
          (omega (arith, w.if-y-rect-2.true, y))
          (omega (arith, ap (λ s. s.first) w.below-is, row))
          (omega (arith, ap (λ s. s.end) w.below-is, row))
      | else-y-rect-2 w ↦
          no_span (λ k here. absurd (omega (arith, here.1, ap (λ s. s.end) w.below-is)))
          (λ q inside_q down. absurd (omega (arith, down, inside_q.1, w.if-y-rect-2.false, y)))
    ])

pub overflow_add-below-then-y-rect-2 : goal.overflow_add-below-then-y-rect-2
overflow_add-below-then-y-rect-2 c =
    let width = c.args.width in
    let rect = c.args.rect in
    let y : ℕ = c.args.cell / width in
    let inside : c.requires.inside.0.x < rect.w = c.requires.inside.1.0 in
    let some : 0 < width = omega (arith, inside, c.requires.columns) in
    let left : c.max-left.result - 1 < width = omega (arith, c.max-left.ensures, inside, c.requires.columns, some) in
    let rows : width * (y + 2) ≤ width * (rect.y + rect.h) =
    mul-le-mul_left width (let row : y + 2 ≤ rect.y + rect.h = omega (arith, c.if-y-rect-2.true) in row) in
    omega (arith, left, rows, some, c.requires.rows)

pub overflow_add-y : goal.overflow_add-y
overflow_add-y c =
    omega (
      arith,
      rows_above_within c.args.rect c.args.width c.args.cell c.requires.inside.0 c.requires.columns c.requires.inside.1
          c.requires.inside.2 c.requires.rows,
    )

pub overflow_add-rect-3 : goal.overflow_add-rect-3
overflow_add-rect-3 c =
    let some : 0 < c.args.width = omega (arith, c.requires.inside.1.0, c.requires.columns) in
    omega (arith, rows_within c.args.width (c.args.rect.y + c.args.rect.h) some c.requires.rows)

pub overflow_add-beside : goal.overflow_add-beside
overflow_add-beside c =
    omega (
      arith,
      c.max-left.ensures,
      column_of_cell c.args.rect c.args.width c.args.cell c.requires.inside.0 c.requires.columns c.requires.inside.1
          c.requires.inside.2,
    )

pub overflow_add-beside-2 : goal.overflow_add-beside-2
overflow_add-beside-2 c =
    omega (
      arith,
      c.min-right.ensures,
      c.requires.columns,
      row_within c.args.rect c.args.width c.args.cell c.requires.inside.0 c.requires.columns c.requires.inside.1
          c.requires.inside.2 c.requires.rows,
    )
