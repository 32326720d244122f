use Rattle.std.proofs.Common.{◌≡◌, [], set, subst, sym, ◌∙◌}
use Rattle.row_scans.specs.Waiting.{AreAllEmpty, AreOneMore, HasCellAt, cells_of}
use Rattle.row_scans.proofs.Bags.{cell_popped, no_cells, served_changed}
use Rattle.row_scans.proofs.lists.Lists.pop_next.Goals as goal

pub returns-in_err-at : goal.returns-in_err-at
returns-in_err-at c =
    let none : c.args.self.now ≡ [] =
    sym c.self.view_is ∙ no_cells c.self.inside.strips.items
    (subst AreAllEmpty c.deref.ensures.value c.in_err-at.ensures) in
    rw c.from_residual.ensures none

pub invariant_of-self-2 : goal.invariant_of-self-2
invariant_of-self-2 c =
    let found : HasCellAt c.self.inside.strips.items c.in_ok-at.at =
    subst (λ lists. HasCellAt lists c.in_ok-at.at) c.deref.ensures.value c.in_ok-at.ensures in
    served_changed c.index_mut.result.now c.pop_front.new.self c.self.inside.strips.items c.in_ok-at.at found.within
    c.index_mut.ensures.value c.in_ok-at.at found.within c.self.invariant.capacity c.in_ok-cell.ensures.capacity

pub returns : goal.returns
returns c =
    let lists = c.self.inside.strips.items in
    let list = c.pop_front.new.self in
    let found : HasCellAt lists c.in_ok-at.at =
    subst (λ ls. HasCellAt ls c.in_ok-at.at) c.deref.ensures.value c.in_ok-at.ensures in
    subst (AreOneMore c.in_ok-cell.cell (cells_of (set lists c.in_ok-at.at list))) c.self.view_is
    (cell_popped c.index_mut.result.now list lists c.in_ok-at.at found.within c.index_mut.ensures.value
    c.in_ok-cell.cell c.in_ok-cell.ensures.items)
