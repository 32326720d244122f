use Rattle.std.proofs.Common.{◌+◌, ◌<◌, length, take, ◌∙◌, arith, length-set}
use Rattle.pgm_codec.proofs.WriteLoop.{narrow_more}
use Rattle.pgm_codec.proofs.writing.put_narrow.Goals as goal

pub loop-i-preserved : goal.loop-i-preserved
loop-i-preserved c =
    let len = c.loop-i.invariant.len in
    let room : c.args.at + c.loop-i.i < length c.loop-i.out = omega (arith, len, c.requires.room, c.loop-i-test.true) in
    record {
      len = length-set c.loop-i.out _ _ ∙ len;
      written = narrow_more c.args.maxval c.args.at c.loop-i.i c.loop-i.out (take c.args.at c.args.out.now)
          c.args.samples.now
          c.requires.narrow room c.loop-i-test.true c.loop-i.invariant.written;
    }
