use Rattle.std.proofs.Common.{◌≡◌, ◌+◌, ◌∙◌, arith, refl, subst, true}
use Rattle.raster_sweeps.specs.{Growth.rows_of, OpenCells.HaveOpenJoined}
use Rattle.row_scans.specs.Rows.{IsAmong}
use Rattle.raster_sweeps.proofs.OpenCells.{next_cell_joined, next_cell_stopped, none_open_joined}
use Rattle.raster_sweeps.proofs.open_cells.queue_open_run.Goals as goal

pub loop-cell-init : goal.loop-cell-init
loop-cell-init c = record {
  joined = none_open_joined (λ p q raises among. omega (arith, among.0, among.1));
  from = omega arith;
  width = refl;
}

pub queue_if_open-requires-clause-inside : goal.queue_if_open-requires-clause-inside
queue_if_open-requires-clause-inside c =
    c.requires.within c.loop-cell.cell (c.loop-cell.invariant.from, omega (arith, c.loop-cell-test.true))

pub loop-cell-preserved : goal.loop-cell-preserved
loop-cell-preserved c = record {
  joined =
      next_cell_joined c.loop-cell.invariant.from c.loop-cell.invariant.joined c.if-not-queue_if_open.ensures.joined;
  from = omega (arith, c.loop-cell.invariant.from);
  width = c.if-not-queue_if_open.ensures.width ∙ c.loop-cell.invariant.width;
}

pub returns-then-not-queue_if_open-clause-joined : goal.returns-then-not-queue_if_open-clause-joined
returns-then-not-queue_if_open-clause-joined c =
    next_cell_stopped c.loop-cell.invariant.from c.loop-cell.invariant.joined (omega (arith, c.loop-cell-test.true))
    c.if-not-queue_if_open.ensures.joined

pub returns-clause-joined : goal.returns-clause-joined
returns-clause-joined c =
    let size = c.args.size in
    let mask = rows_of size c.args.mask.now in
    let image = rows_of size c.args.image.now in
    let all : c.loop-cell.cell ≡ c.args.first + c.args.count =
    omega (arith, c.loop-cell-test.false, c.loop-cell.auto.cell-end) in
    subst (λ n. HaveOpenJoined c.args.conn c.args.rect mask image (IsAmong c.args.first n) true c.args.trail.now.cells
    c.loop-cell.trail.cells) all c.loop-cell.invariant.joined
