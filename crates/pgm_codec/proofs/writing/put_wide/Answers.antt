use Rattle.std.proofs.Common.{◌+◌, ◌*◌, ◌<◌, length, take, ◌∙◌, arith, length-set}
use Rattle.pgm_codec.proofs.WriteLoop.{wide_more}
use Rattle.pgm_codec.proofs.writing.put_wide.Goals as goal

pub loop-i-preserved : goal.loop-i-preserved
loop-i-preserved c =
    let len = c.loop-i.invariant.len in
    let room : c.args.at + c.loop-i.i * 2 + 1 < length c.loop-i.out = omega
    (arith, len, c.requires.room, c.loop-i-test.true) in
    record {
      len = length-set _ _ _ ∙ length-set c.loop-i.out _ _ ∙ len;
      written = wide_more c.args.maxval c.args.at c.loop-i.i c.loop-i.out (take c.args.at c.args.out.now)
          c.args.samples.now
          c.requires.wide room c.loop-i-test.true c.loop-i.invariant.written;
    }
