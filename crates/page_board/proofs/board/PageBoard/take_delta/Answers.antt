-- What the tactics leave open of `take_delta`.
use Rattle.std.proofs.Common.{List, [], ◌∷◌, ◌++◌, refl, ap, ◌∙◌, subst}
use Rattle.std.proofs.{lemmas.List.with_items_is, lemmas.Result.err_from_is_err_and}
use Rattle.std.specs.Vec.{with_items}
use Rattle.page_board.specs.{declared.board.PageBoard.TheInside.Inside as Parts, declared.news.News.News}
use Rattle.page_board.specs.{Board.PageBoard, Later.IsLater, Marking.AreMarked, Stored.board_of, Taking.IsTaken}
use Rattle.page_board.proofs.Taken.{HasTaken, parts_are_taken, parts_are_later, parts_are_stored, not_merged_is_told}
use Rattle.page_board.proofs.board.PageBoard.take_delta.Goals.{After-push_reserved}
use Rattle.page_board.proofs.board.PageBoard.take_delta.Goals as goal

pub returns-in_err-change-clause-refused : goal.returns-in_err-change-clause-refused
returns-in_err-change-clause-refused c =
    let p = err_from_is_err_and c.from_residual-in_err-change.result c.from_residual-in_err-change.ensures.1 in
    rw (p.1, p.2) (not_merged_is_told c.self.inside c.args.self.now c.args.delta.now c.in_err-change.field-0.0
    c.self.view_is c.in_err-change.ensures.refused)

-- the parts that the board is stored as
abbrev parts_after : After-push_reserved → Parts
parts_after c = record c.self.inside {
  core = c.merge.new.self;
  version = c.saturating_add-self-inside.result;
  step = c.saturating_add-self-inside-2.result;
  shown = with_items c.self.inside.shown c.note.new.shown;
  news = c.push_reserved.new.self;
  marks = c.note.new.tiles;
}

are_marked : (c : After-push_reserved)
    → AreMarked c.add_dirty.new.set c.saturating_add-self-inside-2.result c.self.inside.shown.items
    (parts_after c).shown.items
are_marked c =
    rw (
      with_items_is c.self.inside.shown c.note.new.shown
          (c.note.ensures.marked.count ∙ c.deref_mut.ensures.len),
      ← c.deref_mut.ensures.value,
    ) c.note.ensures.marked

has_taken : (c : After-push_reserved) → HasTaken c.self.inside c.args.delta.now c.add_dirty.new.set (parts_after c)
has_taken c = record {
  turnover = c.in_ok-change.change;
  merged = c.in_ok-change.ensures.merged;
  gained = c.add_dirty.ensures;
  marked = are_marked c;
  version = c.saturating_add-self-inside.ensures;
  step = c.saturating_add-self-inside-2.ensures;
  news =
      c.push_reserved.ensures.items
      ∙ ap (λ (all : List News). all ++ record {
        step = c.saturating_add-self-inside-2.result;
        change = c.in_ok-change.change;
      } ∷ []) c.reserve.ensures.items;
  run = refl;
  maxval = refl;
  print = refl;
  emptied = c.note.ensures.emptied;
}

pub invariant_of-self-2 : goal.invariant_of-self-2
invariant_of-self-2 c = parts_are_stored c.merge_changes_dirty_tiles.ensures c.self.invariant (has_taken c)

pub returns-clause-taken : goal.returns-clause-taken
returns-clause-taken c =
    subst (λ (b : PageBoard). IsTaken b c.args.delta.now (board_of (parts_after c))) c.self.view_is
    (parts_are_taken c.merge_changes_dirty_tiles.ensures c.self.invariant (has_taken c))

pub returns-clause-later : goal.returns-clause-later
returns-clause-later c =
    subst (λ (b : PageBoard). IsLater b (board_of (parts_after c))) c.self.view_is
    (parts_are_later c.merge_changes_dirty_tiles.ensures c.self.invariant (has_taken c))
