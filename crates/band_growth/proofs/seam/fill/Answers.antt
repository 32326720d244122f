use Rattle.std.proofs.Common.{◌≡◌, ◌+◌, ◌-◌, arith, refl}
use Rattle.raster_sweeps.proofs.{Grown.grown_twice, Growing.grown_nowhere}
use Rattle.raster_sweeps.proofs.Scanning.{joined_inside, none_inside, row_waits}
use Rattle.band_growth.specs.Bands.{all_of}
use Rattle.band_growth.proofs.Seams.{closed_waits, cut_waits}
use Rattle.band_growth.proofs.seam.fill.Goals as goal

pub returns-then-is_wide_open : goal.returns-then-is_wide_open
returns-then-is_wide_open c = record {
  grown = grown_twice c.run_down-bottom.ensures.grown c.run_up.ensures.grown;
  inside = c.run_up.ensures.inside;
  waits = c.run_up.ensures.waits;
}

pub returns : goal.returns
returns c =
    let size = c.args.limits.now.size in
    let cut = c.args.cut in
    let old = c.args.waiting.now in
    let joined = rw c.all_of.ensures at c.queue_row.ensures in
    let next : cut ≡ cut - 1 + 1 = omega (arith, c.requires.cut.some_above) in
    record {
      grown = grown_nowhere c.requires.close;
      inside = joined_inside (none_inside (all_of size) size.w old c.requires.empty) joined;
      waits = λ all.
          cut_waits c.queue_row.new.waiting c.requires.cut.some_above c.requires.closed
          (row_waits (record { grown = grown_nowhere c.requires.close; others = λ p inside other. refl }) joined all
          (rw (← next) (closed_waits old c.requires.closed)));
    }
