use Rattle.std.proofs.Common.{◌∙◌, arith, refl}
use Rattle.raster_sweeps.proofs.OpenCells.{each_row_open_joined, in_row, next_row_open_joined, next_row_stopped}
use Rattle.raster_sweeps.proofs.OpenCells.{none_open_joined}
use Rattle.raster_sweeps.proofs.open_cells.queue_open_cells.Goals as goal

pub loop-y-init : goal.loop-y-init
loop-y-init c = record {
  joined = none_open_joined (λ p q raises above. omega (arith, above.2));
  width = refl;
}

pub queue_open_run-requires-clause-few : goal.queue_open_run-requires-clause-few
queue_open_run-requires-clause-few c = c.first_cell-first.ensures.within

pub queue_open_run-requires-clause-within : goal.queue_open_run-requires-clause-within
queue_open_run-requires-clause-within c k among =
    let own = in_row c.loop-y-test.true c.first_cell-first.ensures k among in
    c.requires.within k (own.0, own.1, own.3)

pub returns-then-not-queue_open_run-clause-joined : goal.returns-then-not-queue_open_run-clause-joined
returns-then-not-queue_open_run-clause-joined c =
    next_row_stopped c.loop-y-test.true c.first_cell-first.ensures c.loop-y.invariant.joined
    c.if-not-queue_open_run.ensures.joined

pub loop-y-preserved : goal.loop-y-preserved
loop-y-preserved c = record {
  joined =
      next_row_open_joined c.loop-y-test.true c.first_cell-first.ensures c.loop-y.invariant.joined
      c.if-not-queue_open_run.ensures.joined;
  width = c.if-not-queue_open_run.ensures.width ∙ c.loop-y.invariant.width;
}

pub returns-clause-joined : goal.returns-clause-joined
returns-clause-joined c = each_row_open_joined c.args.part c.loop-y-test.false c.loop-y.invariant.joined
