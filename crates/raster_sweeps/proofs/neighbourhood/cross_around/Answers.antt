use Rattle.std.proofs.Common.{◌≡◌, ℕ, ◌+◌, ◌-◌, ◌/◌, ◌%◌, ◌<◌, None, Some, arith, inl, inr, refl}
use Rattle.raster_sweeps.specs.declared.neighbourhood.Cross.{Cross}
use Rattle.raster_sweeps.proofs.Crosses.{crossed}
use Rattle.raster_sweeps.proofs.Spans.{column_of_cell, row_of_cell, rows_above_within, rows_within}
use Rattle.raster_sweeps.proofs.neighbourhood.cross_around.Goals.{then-y-rect, else-y-rect, then-x-rect, else-x-rect}
use Rattle.raster_sweeps.proofs.neighbourhood.cross_around.Goals.{then-x-rect-2, else-x-rect-2}
use Rattle.raster_sweeps.proofs.neighbourhood.cross_around.Goals as goal

pub returns-then-y-rect-2 : goal.returns-then-y-rect-2
returns-then-y-rect-2 c p inside place =
    let rect = c.args.rect in
    let width = c.args.width in
    let cell = c.args.cell in
    let here : ℕ = cell / width - rect.y in
    let x : cell % width ≡ rect.x + p.x = column_of_cell rect width cell p c.requires.columns inside place in
    let y : cell / width ≡ rect.y + p.y = row_of_cell rect width cell p c.requires.columns inside place in
    let cross : Cross = record {
      above = c.if-y-rect.above;
      left = c.if-x-rect.left;
      right = c.if-x-rect-2.right;
      below = Some (record { cell = cell + width; row = here + 1 });
    } in
    crossed rect width cell p cross inside place
    (elim c.if-y-rect.branch [
      | then-y-rect w ↦ inl (omega (arith, w.if-y-rect.true, y), (here - 1, w.above-is))
      | else-y-rect w ↦ inr (omega (arith, w.if-y-rect.false, y), w.above-is)
    ])
    (elim c.if-x-rect.branch [
      | then-x-rect w ↦ inl (omega (arith, w.if-x-rect.true, x), (here, w.left-is))
      | else-x-rect w ↦ inr (omega (arith, w.if-x-rect.false, x), w.left-is)
    ])
    (elim c.if-x-rect-2.branch [
      | then-x-rect-2 w ↦ inl (omega (arith, w.if-x-rect-2.true, x), (here, w.right-is))
      | else-x-rect-2 w ↦ inr (omega (arith, w.if-x-rect-2.false, x), w.right-is)
    ])
    (inl (omega (arith, c.if-y-rect-2.true, y), (here + 1, refl)))

pub returns-else-y-rect-2 : goal.returns-else-y-rect-2
returns-else-y-rect-2 c p inside place =
    let rect = c.args.rect in
    let width = c.args.width in
    let cell = c.args.cell in
    let here : ℕ = cell / width - rect.y in
    let x : cell % width ≡ rect.x + p.x = column_of_cell rect width cell p c.requires.columns inside place in
    let y : cell / width ≡ rect.y + p.y = row_of_cell rect width cell p c.requires.columns inside place in
    let cross : Cross = record {
      above = c.if-y-rect.above;
      left = c.if-x-rect.left;
      right = c.if-x-rect-2.right;
      below = None;
    } in
    crossed rect width cell p cross inside place
    (elim c.if-y-rect.branch [
      | then-y-rect w ↦ inl (omega (arith, w.if-y-rect.true, y), (here - 1, w.above-is))
      | else-y-rect w ↦ inr (omega (arith, w.if-y-rect.false, y), w.above-is)
    ])
    (elim c.if-x-rect.branch [
      | then-x-rect w ↦ inl (omega (arith, w.if-x-rect.true, x), (here, w.left-is))
      | else-x-rect w ↦ inr (omega (arith, w.if-x-rect.false, x), w.left-is)
    ])
    (elim c.if-x-rect-2.branch [
      | then-x-rect-2 w ↦ inl (omega (arith, w.if-x-rect-2.true, x), (here, w.right-is))
      | else-x-rect-2 w ↦ inr (omega (arith, w.if-x-rect-2.false, x), w.right-is)
    ])
    (inr (omega (arith, c.if-y-rect-2.false, y), refl))

pub overflow_add-y : goal.overflow_add-y
overflow_add-y c =
    omega (
      arith,
      rows_above_within c.args.rect c.args.width c.args.cell c.requires.inside.0 c.requires.columns c.requires.inside.1
          c.requires.inside.2 c.requires.rows,
    )

pub overflow_add-rect-2 : goal.overflow_add-rect-2
overflow_add-rect-2 c =
    let some : 0 < c.args.width = omega (arith, c.requires.inside.1.0, c.requires.columns) in
    omega (arith, rows_within c.args.width (c.args.rect.y + c.args.rect.h) some c.requires.rows)
