use Rattle.std.proofs.Common.{◌≡◌, ◌++◌, take, flat_map}
use Rattle.page_board.specs.Changes.{tag_line}
use Rattle.page_board.proofs.lines.push_tags.Given as goal

-- the lines of the tags so far are there
abbrev pub invariant-loop-tag : goal.invariant-loop-tag
invariant-loop-tag l = l.out.items ≡ l.fn.out.items ++ flat_map (tag_line l.state) (take l.tag-index l.tags)
