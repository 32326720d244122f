use Rattle.std.proofs.lemmas.List.Filters.{dedup_is}
use Rattle.page_board.proofs.Turned.{in_order}
use Rattle.page_board.proofs.turning.tags_since.Goals as goal

pub returns : goal.returns
returns c =
    in_order c.args.news.now c.args.since _ _ _ c.in_ok-tags.ensures c.sort_unstable.ensures.permutation
    c.sort_unstable.ensures.sorted (dedup_is _ _ _ c.dedup.ensures.filtered)
