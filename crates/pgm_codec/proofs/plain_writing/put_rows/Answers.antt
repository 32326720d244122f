use Rattle.std.proofs.Common.{◌++◌, arith}
use Rattle.pgm_codec.proofs.PlainLoop.{rows_from, row_more, row_left}
use Rattle.pgm_codec.proofs.plain_writing.put_rows.Goals as goal

pub loop-row-preserved : goal.loop-row-preserved
loop-row-preserved c =
    let rest = c.loop-row.rest.now in
    let before = c.loop-row.invariant in
    let width = c.args.width in
    let height = c.args.height in
    let y = c.loop-row._row in
    let left = row_left width height y _ c.loop-row-test.true before.len in
    record {
      written = row_more width height y c.loop-row.out.items c.put_row.new.out.items c.split_at.result.0.now rest
          c.split_at.result.1.now (c.args.out.now.items ++ rows_from width height 0 c.args.samples.now)
          c.loop-row-test.true c.split_at.ensures.front c.split_at.ensures.back c.in_ok-put_row.ensures
          before.written;
      len = omega (arith, left, c.split_at.ensures.back_len);
    }
