use Rattle.std.proofs.Common.{◌++◌, arith, append-nil, ap, sym, ◌∙◌}
use Rattle.page_board.specs.Changes.{tag_line}
use Rattle.page_board.proofs.LineByLine.{line_more, all_lines}
use Rattle.page_board.proofs.lines.push_tags.Goals as goal

pub loop-tag-init : goal.loop-tag-init
loop-tag-init c = sym (append-nil c.args.out.now.items)

pub loop-tag-preserved : goal.loop-tag-preserved
loop-tag-preserved c =
    let line = tag_line c.args.state.now in
    line_more line c.args.tags.now c.loop-tag.tag-index c.tag-item.result c.args.out.now.items
    c.loop-tag.out.items c.push_tag.new.out.items c.loop-tag-test.true c.loop-tag.invariant
    (c.in_ok-push_tag.ensures ∙ ap (λ tag. c.loop-tag.out.items ++ line tag) c.tag-item.is)

pub returns : goal.returns
returns c =
    all_lines (tag_line c.args.state.now) c.args.tags.now c.loop-tag.tag-index c.args.out.now.items
    c.loop-tag.out.items (omega arith) c.loop-tag.invariant
