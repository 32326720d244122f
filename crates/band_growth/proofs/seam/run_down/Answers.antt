use Rattle.std.proofs.Common.{arith}
use Rattle.raster_sweeps.proofs.Grown.{grown_twice}
use Rattle.band_growth.proofs.Seams.{apart_more}
use Rattle.band_growth.proofs.seam.run_down.Goals as goal

pub loop-y-preserved : goal.loop-y-preserved
loop-y-preserved c =
    let grown = rw c.all_of-all.ensures at c.raise_row.ensures.grown in
    record {
      grown = grown_twice c.loop-y.invariant.grown grown.grown;
      closed = λ apart.
          apart_more (c.loop-y.invariant.closed apart) grown (omega arith) (omega arith) (omega arith) (omega arith);
    }
