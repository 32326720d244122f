use Rattle.std.proofs.Common.{◌≡◌, ◌+◌, List, [], ◌∷◌, ◌++◌, ◌∙◌, ap, sym, subst, take}
use Rattle.std.proofs.lemmas.List.{take_more, take_all}
use Rattle.page_board.specs.declared.news.News.{News}
use Rattle.page_board.proofs.Turned.{HasTurnedTags, turned_passed, turned_more}
use Rattle.page_board.proofs.turning.turned_since.Goals.{
  then-since-told+in_ok-extend_from_slice+in_ok-extend_from_slice-2,
  else-since-told,
}
use Rattle.page_board.proofs.turning.turned_since.Goals as goal

pub loop-told-preserved : goal.loop-told-preserved
loop-told-preserved c =
    let news = c.told-item.result in
    let more : take (c.loop-told.told-index + 1) c.args.news.now ≡ take c.loop-told.told-index c.args.news.now
    ++ news ∷ [] = take_more c.args.news.now c.loop-told.told-index news c.loop-told-test.true
    ∙ ap (λ (n : News). take c.loop-told.told-index c.args.news.now ++ n ∷ []) (sym c.told-item.is) in
    subst (λ (all : List News). HasTurnedTags all c.args.since c.if-since-told.tags.items) (sym more)
    (elim c.if-since-told.branch [
      | then-since-told+in_ok-extend_from_slice+in_ok-extend_from_slice-2 w ↦ rw (
        w.tags-is,
        w.in_ok-extend_from_slice-2.ensures.items,
        w.in_ok-extend_from_slice.ensures.items,
        w.dead.ensures,
        w.born.ensures,
      ) (turned_more (take c.loop-told.told-index c.args.news.now) c.args.since news
          c.loop-told.tags.items c.loop-told.invariant w.if-since-told.true)
      | else-since-told w ↦ rw w.tags-is (turned_passed (take c.loop-told.told-index c.args.news.now) c.args.since
          news c.loop-told.tags.items c.loop-told.invariant w.if-since-told.false)
    ])

pub returns : goal.returns
returns c =
    rw (take_all c.loop-told.told-index c.args.news.now c.loop-told-test.false) at c.loop-told.invariant
