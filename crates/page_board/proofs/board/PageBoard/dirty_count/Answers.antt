use Rattle.std.proofs.Common.{◌≡◌, ◌+◌, ◌<◌, length, take, ap, sym, ◌∙◌, arith}
use Rattle.std.proofs.{Math.Seq.take-length, lemmas.List.Sums.count_by_more_yes, lemmas.List.Sums.count_by_more_no}
use Rattle.border_queues.specs.TileWork.{TileWork, idle, dirty_count}
use Rattle.page_board.specs.Board.{PageBoard}
use Rattle.page_board.proofs.board.PageBoard.dirty_count.Goals.{then-is_dirty, else-is_dirty}
use Rattle.page_board.proofs.board.PageBoard.dirty_count.Goals as goal

pub is_dirty-requires : goal.is_dirty-requires
is_dirty-requires c = omega arith

pub loop-tile-preserved : goal.loop-tile-preserved
loop-tile-preserved c =
    let tiles = c.self.inside.core.tiles in
    let t = c.loop-tile.tile in
    let within : t < length tiles = omega arith in
    elim c.if-is_dirty.branch [
      | then-is_dirty w ↦
          rw w.count-is (
            ap (λ n. n + 1) c.loop-tile.invariant.0
                ∙ sym (count_by_more_yes (λ (work : TileWork). work.dirty) tiles t idle within
                (sym c.is_dirty.ensures ∙ w.if-is_dirty.true)),
            omega arith,
          )
      | else-is_dirty w ↦
          rw w.count-is (
            c.loop-tile.invariant.0
                ∙ sym (count_by_more_no (λ (work : TileWork). work.dirty) tiles t idle within
                (sym c.is_dirty.ensures ∙ w.if-is_dirty.false)),
            omega arith,
          )
    ]

pub returns : goal.returns
returns c =
    let tiles = c.self.inside.core.tiles in
    let all : c.loop-tile.tile ≡ length tiles = omega arith in
    c.loop-tile.invariant.0 ∙ ap (λ n. dirty_count (take n tiles)) all ∙ ap dirty_count (take-length tiles)
    ∙ ap (λ (b : PageBoard). dirty_count b.core.tiles) c.self.view_is
