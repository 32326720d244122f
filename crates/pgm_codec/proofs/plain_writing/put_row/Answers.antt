use Rattle.std.proofs.Common.{◌++◌, sym, ◌∙◌}
use Rattle.pgm_codec.specs.PlainWriting.{plain_row}
use Rattle.pgm_codec.proofs.PlainLoop.{line_more, some_left}
use Rattle.pgm_codec.proofs.plain_writing.put_row.Goals as goal

pub loop-rest-preserved : goal.loop-rest-preserved
loop-rest-preserved c =
    let rest = c.loop-rest.rest.now in
    let before = c.loop-rest.invariant in
    line_more c.min.result c.loop-rest.out.items c.put_line.new.out.items c.split_at.result.0.now rest
    c.split_at.result.1.now (c.args.out.now.items ++ plain_row c.args.row.now)
    (some_left rest (sym c.is_empty.ensures ∙ c.loop-rest-test.true)) c.min.ensures
    c.split_at.ensures.front c.split_at.ensures.back c.in_ok-put_line.ensures before
