use Rattle.std.proofs.Common.{◌≤◌, arith, refl, inl, inr}
use Rattle.grid_core.specs.Raster.{headroom}
use Rattle.raster_sweeps.specs.Growth.{rows_of}
use Rattle.raster_sweeps.proofs.Grown.{grown_headroom, grown_twice}
use Rattle.raster_sweeps.proofs.growth.fill.Goals as goal

pub returns-then-scan_back : goal.returns-then-scan_back
returns-then-scan_back c = record {
  scanned =
      record {
        grown = grown_twice c.scan_down.ensures.grown c.scan_back.ensures.grown;
        inside = c.scan_back.ensures.inside;
        waits = λ all. c.scan_back.ensures.waits c.if-scan_back.true;
      };
  rose = inl refl;
}

pub returns : goal.returns
returns c =
    let size = c.args.size in
    let image = rows_of size c.args.image.now in
    let up = rows_of size c.scan_back.new.image in
    let scanned = grown_twice c.scan_down.ensures.grown c.scan_back.ensures.grown in
    let before : headroom up.cells ≤ headroom image.cells = grown_headroom c.requires.filled scanned in
    record {
      scanned =
          record {
            grown = grown_twice scanned c.check.ensures.scanned.grown;
            inside = c.check.ensures.scanned.inside;
            waits = c.check.ensures.scanned.waits;
          };
      rose = elim c.check.ensures.rose [ inl all ↦ inl all | inr less ↦ inr (omega (arith, less, before)) ];
    }
