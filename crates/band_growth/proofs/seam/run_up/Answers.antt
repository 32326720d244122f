use Rattle.std.proofs.Common.{◌≡◌, ◌+◌, ◌-◌, arith, sym, ◌∙◌}
use Rattle.std.proofs.lemmas.Bool.{false≢true}
use Rattle.raster_sweeps.proofs.{Grown.grown_twice, Scanning.joined_inside, Scanning.row_waits}
use Rattle.band_growth.proofs.Seams.{open_before}
use Rattle.band_growth.proofs.seam.run_up.Goals as goal

pub loop-y-preserved-then-room : goal.loop-y-preserved-then-room
loop-y-preserved-then-room c =
    let y = c.loop-y.y - 1 in
    let grown = c.raise_upwards.ensures.grown in
    let next : c.loop-y.y ≡ y + 1 = omega arith in
    let joined = rw c.all_of-all.ensures at c.queue_downward-room.ensures in
    record {
      grown = grown_twice c.loop-y.invariant.grown grown.grown;
      inside = joined_inside c.loop-y.invariant.inside joined;
      waits = λ all. row_waits grown joined all (rw next at (c.loop-y.invariant.waits c.if-room.true));
      before = λ p q raises p_cut q_cut p_above q_above.
          c.loop-y.invariant.before p q
          (open_before grown raises (λ e. omega arith) (λ e. omega arith)) p_cut q_cut (omega arith) (omega arith);
    }

pub loop-y-preserved : goal.loop-y-preserved
loop-y-preserved c =
    let y = c.loop-y.y - 1 in
    let grown = c.raise_upwards.ensures.grown in
    record {
      grown = grown_twice c.loop-y.invariant.grown grown.grown;
      inside = c.loop-y.invariant.inside;
      waits = λ all. absurd (false≢true (sym c.if-room.false ∙ all));
      before = λ p q raises p_cut q_cut p_above q_above.
          c.loop-y.invariant.before p q
          (open_before grown raises (λ e. omega arith) (λ e. omega arith)) p_cut q_cut (omega arith) (omega arith);
    }
