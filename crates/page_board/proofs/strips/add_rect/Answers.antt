use Rattle.std.proofs.Common.{◌∙◌, sym}
use Rattle.std.proofs.lemmas.Bool.{false≢true}
use Rattle.page_board.proofs.Covering.{added_behind, added_to_last}
use Rattle.page_board.proofs.strips.add_rect.Goals as goal

pub returns-in_ok-push-in-Some : goal.returns-in_ok-push-in-Some
returns-in_ok-push-in-Some c =
    rw (c.in_ok-push-in-Some.ensures.items, c.widened.ensures, c.in-Some.ensures.items)
    (added_to_last c.args.tiling.now c.pop.new.self.items c.in-Some.last c.args.tile
    (c.is_continued.ensures.0 c.if-is_continued.true) (rw c.in-Some.ensures.items at c.requires.fit) c.requires.tile)

pub returns-in_ok-push-in-Some-2-2 : goal.returns-in_ok-push-in-Some-2-2
returns-in_ok-push-in-Some-2-2 c =
    rw (c.in_ok-push-in-Some-2-2.ensures.items, c.in_ok-push-in-Some-2.ensures.items, c.in-Some.ensures.items)
    (added_behind c.args.tiling.now c.pop.new.self.items c.in-Some.last c.args.tile
    (λ next. false≢true (sym c.if-is_continued.false ∙ c.is_continued.ensures.1 next))
    (rw c.in-Some.ensures.items at c.requires.fit) c.requires.tile)
