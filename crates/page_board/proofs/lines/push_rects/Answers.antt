use Rattle.std.proofs.Common.{arith, append-nil, sym}
use Rattle.page_board.specs.Changes.{rect_line}
use Rattle.page_board.proofs.LineByLine.{line_more, all_lines}
use Rattle.page_board.proofs.lines.push_rects.Goals as goal

pub loop-rect-init : goal.loop-rect-init
loop-rect-init c = sym (append-nil c.args.out.now.items)

pub loop-rect-preserved : goal.loop-rect-preserved
loop-rect-preserved c =
    line_more rect_line c.args.rects.now c.loop-rect.rect-index (record { x = 0; y = 0; w = 0; h = 0 })
    c.args.out.now.items c.loop-rect.out.items c.push_rect.new.out.items c.loop-rect-test.true c.loop-rect.invariant
    c.in_ok-push_rect.ensures

pub returns : goal.returns
returns c =
    all_lines rect_line c.args.rects.now c.loop-rect.rect-index c.args.out.now.items c.loop-rect.out.items
    (omega arith) c.loop-rect.invariant
