use Rattle.std.proofs.{Common.None, Common.subst, Common.arith, Common.IsOk, lemmas.Bool.false≢true}
use Rattle.spd_codec.proofs.{RunLists.in_order, StrokeParts.behind_read}
use Rattle.spd_codec.proofs.reader.Reader.stroke_of_runs.Goals as goal

pub returns-in-Err : goal.returns-in-Err
returns-in-Err c =
    let runs = c.in_ok-runs.runs.items in
    let read = behind_read c.in_ok-count.count None c.run_count.new.self.rest.now (runs, c.runs.new.self.rest.now)
    c.in_ok-runs.ensures in
    let some = c.in_ok-count.ensures.range in
    let fits = c.ranges.level.fits in
    absurd (false≢true (subst IsOk c.in-Err.is (c.new.ensures.canonical.1 (record {
      level_low = omega (arith, c.requires);
      level_high = omega (arith, fits);
      shape = (omega (arith, read.0, some.0), omega (arith, read.0, some.1), in_order None runs read.1);
    }))))
