-- What the tactics leave open of `begun`, and the clause that they would search long for.
use Rattle.std.proofs.Common.{◌∙◌, ap, false, replicate}
use Rattle.page_board.proofs.OpenedKept.{begun_is, begun_is_stored}
use Rattle.page_board.proofs.board.PageBoard.begun.Goals as goal

pub invariant_of-result : goal.invariant_of-result
invariant_of-result g c =
    begun_is_stored c.args.gathered.mask c.args.conn c.args.side c.args.run c.args.gathered.state _
    (begun_is c.args.gathered.mask c.args.conn c.args.side c.args.run c.args.gathered.state c.into_grid.result
    c.in-Ok.core c.maxval-maxval.result c.tiles.result c.in-Ok-first_steps.shown.items c.in_ok-news.news.items
    c.into_grid.ensures c.in-Ok.ensures.begun c.maxval-maxval.ensures.value c.tiles.ensures
    c.in-Ok-first_steps.ensures.shown c.in_ok-news.ensures) c.maxval-maxval.ensures.is_graymap c.requires.print
    (c.in-Ok-first_steps.ensures.marks ∙ ap (λ n. replicate n false) c.tiles.ensures)

pub returns-clause-begun : goal.returns-clause-begun
returns-clause-begun g c =
    begun_is c.args.gathered.mask c.args.conn c.args.side c.args.run c.args.gathered.state c.into_grid.result
    c.in-Ok.core c.maxval-maxval.result c.tiles.result c.in-Ok-first_steps.shown.items c.in_ok-news.news.items
    c.into_grid.ensures c.in-Ok.ensures.begun c.maxval-maxval.ensures.value c.tiles.ensures
    c.in-Ok-first_steps.ensures.shown c.in_ok-news.ensures
