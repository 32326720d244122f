-- What the tactics leave open of `grow_in_bands`.
use Rattle.std.proofs.Common.{◌<◌, refl, ◌∙◌, subst, OnOk, OnErr}
use Rattle.std.proofs.lemmas.List.{with_items_is}
use Rattle.std.specs.Vec.{with_items}
use Rattle.core_rules.specs.Work.{IsQuiet}
use Rattle.page_board.specs.{Board.PageBoard, Growing.IsGrown, Growing.IsSettledFor, Growing.quiet_of, Later.IsLater}
use Rattle.page_board.specs.{Marking.AreMarked, Stored.board_of, declared.board.PageBoard.TheInside.Inside as Parts}
use Rattle.page_board.proofs.Grown.{HasGrown, swept_room, marks_room, parts_are_grown, parts_are_later}
use Rattle.page_board.proofs.Grown.{parts_are_stored, settled_when, quiet_told, where_cut}
use Rattle.page_board.proofs.board.PageBoard.grow_in_bands.{Given.Over, Goals.After-quiet_of}
use Rattle.page_board.proofs.board.PageBoard.grow_in_bands.Goals as goal

pub add_dirty-requires : goal.add_dirty-requires
add_dirty-requires g c =
    let slice = c.settle_in_bands-slice in
    swept_room c.self.inside c.args.jobs slice.new.self slice.new.swept slice.result (record {
      stored = c.self.invariant;
      slice = slice.ensures.slice;
      cut_short = slice.ensures.cut_short;
      none_out = slice.ensures.none_out;
      unchanged = slice.ensures.unchanged;
      count = c.tiling.ensures.count;
    })

pub note-requires : goal.note-requires
note-requires g c =
    let slice = c.settle_in_bands-slice in
    marks_room c.self.inside c.args.jobs slice.new.self slice.new.swept slice.result (record {
      stored = c.self.invariant;
      slice = slice.ensures.slice;
      cut_short = slice.ensures.cut_short;
      none_out = slice.ensures.none_out;
      unchanged = slice.ensures.unchanged;
      count = c.tiling.ensures.count;
    }) c.add_dirty.new.set c.deref_mut.result.now c.add_dirty.ensures c.deref_mut.ensures.value

-- the parts that the board is stored as
abbrev parts_after : (g : Over) → After-quiet_of g → Parts
parts_after g c = record c.self.inside {
  core = c.settle_in_bands-slice.new.self;
  step = c.step_after-self-inside.result;
  shown = with_items c.self.inside.shown c.note.new.shown;
  marks = c.note.new.tiles;
}

are_marked : (g : Over) (c : After-quiet_of g)
    → AreMarked c.add_dirty.new.set c.step_after-self-inside.result c.self.inside.shown.items
    (parts_after g c).shown.items
are_marked g c =
    rw (
      with_items_is c.self.inside.shown c.note.new.shown
          (c.note.ensures.marked.count ∙ c.deref_mut.ensures.len),
      ← c.deref_mut.ensures.value,
    ) c.note.ensures.marked

has_grown : (g : Over) (c : After-quiet_of g)
    → HasGrown c.self.inside c.args.jobs c.settle_in_bands-slice.new.swept c.add_dirty.new.set
    c.settle_in_bands-slice.result (parts_after g c)
has_grown g c =
    let slice = c.settle_in_bands-slice in
    let step = c.step_after-self-inside in
    record {
      slice = record {
        stored = c.self.invariant;
        slice = slice.ensures.slice;
        cut_short = slice.ensures.cut_short;
        none_out = slice.ensures.none_out;
        unchanged = slice.ensures.unchanged;
        count = c.tiling.ensures.count;
      };
      gained = c.add_dirty.ensures;
      next = step.ensures.next;
      still = step.ensures.still;
      risen = step.ensures.risen;
      bounded = step.ensures.bounded;
      marked = are_marked g c;
      rest = refl;
      print = refl;
      emptied = c.note.ensures.emptied;
    }

pub invariant_of-self : goal.invariant_of-self
invariant_of-self g c = parts_are_stored (has_grown g c)

pub returns-clause-grown : goal.returns-clause-grown
returns-clause-grown g c =
    subst (λ (b : PageBoard). IsGrown b c.args.jobs (board_of (parts_after g c))) c.self.view_is
    (parts_are_grown (has_grown g c))

pub returns-clause-later : goal.returns-clause-later
returns-clause-later g c =
    subst (λ (b : PageBoard). IsLater b (board_of (parts_after g c))) c.self.view_is (parts_are_later (has_grown g c))

pub returns-clause-settled : goal.returns-clause-settled
returns-clause-settled g c =
    let slice = c.settle_in_bands-slice in
    rw (c.quiet_of.ensures) (subst (λ (b : PageBoard). OnOk (quiet_of slice.result) (IsSettledFor b.core c.args.jobs
    slice.new.self)) c.self.view_is
    (settled_when c.self.inside.core slice.new.self c.args.jobs c.self.inside.marks slice.new.swept slice.result
    slice.ensures.slice slice.ensures.none_out))

pub returns-clause-some_work : goal.returns-clause-some_work
returns-clause-some_work g c =
    let slice = c.settle_in_bands-slice in
    rw (c.quiet_of.ensures) (where_cut _ slice.result
    (subst (λ (b : PageBoard). OnErr slice.result ((IsQuiet b.core → ⊥) × (0 < c.args.jobs))) c.self.view_is
    slice.ensures.some_work))

pub returns-clause-quiet : goal.returns-clause-quiet
returns-clause-quiet g c =
    let slice = c.settle_in_bands-slice in
    rw (c.quiet_of.ensures) (quiet_told c.self.inside.core slice.new.self c.args.jobs c.self.inside.marks
    slice.new.swept slice.result slice.ensures.slice)
