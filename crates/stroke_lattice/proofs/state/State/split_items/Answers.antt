use Rattle.std.proofs.Common.{sym, subst, ◌∙◌}
use Rattle.stroke_lattice.specs.{Pieces.items_of, Places.item_of, Filling.IsFilling, Filling.filling}
use Rattle.stroke_lattice.proofs.{Items.before_next, Adding.filling_after}
use Rattle.stroke_lattice.proofs.state.State.split_items.Goals as goal

pub loop-entry-init : goal.loop-entry-init
loop-entry-init c =
    let is = c.into_iter-entry-iterator.ensures.into_iter_gives ∙ c.items-entry-items.ensures.items in
    record {
      measured = c.requires.measured;
      filling = subst (IsFilling c.args.max_bytes c.args.self.now (filling c.args.pieces.now)) (sym is)
          c.requires.so_far;
    }

pub add-requires : goal.add-requires
add-requires c =
    let now = subst (IsFilling c.args.max_bytes c.args.self.now (filling c.loop-entry.pieces)) c.in-Some.ensures.steps
    c.loop-entry.invariant.filling in
    record {
      least = c.requires.least;
      measured = c.loop-entry.invariant.measured;
      fits = now.last_fits;
      before = before_next (items_of c.loop-entry.pieces.last) (item_of c.in-Some.entry) c.next.new.self now.order;
    }

pub loop-entry-preserved : goal.loop-entry-preserved
loop-entry-preserved c =
    let now = subst (IsFilling c.args.max_bytes c.args.self.now (filling c.loop-entry.pieces)) c.in-Some.ensures.steps
    c.loop-entry.invariant.filling in
    record {
      measured = c.in_ok-add.ensures.taken.measured;
      filling = filling_after c.args.max_bytes c.args.self.now (filling c.loop-entry.pieces) (filling c.add.new.self)
          (item_of c.in-Some.entry) c.next.new.self c.in_ok-add.ensures.taken.added now c.in_ok-add.ensures.small;
    }

pub returns : goal.returns
returns c = record {
  least = c.requires.least;
  measured = c.loop-entry.invariant.measured;
  so_far = subst (IsFilling c.args.max_bytes c.args.self.now (filling c.loop-entry.pieces))
      c.in-None.ensures.steps.0 c.loop-entry.invariant.filling;
}
