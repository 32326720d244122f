use Rattle.std.proofs.Common.{set, subst}
use Rattle.row_scans.specs.Waiting.{AreOneMore, cells_of}
use Rattle.row_scans.proofs.Bags.{cell_popped, served_changed}
use Rattle.row_scans.proofs.lists.Lists.pop.Goals as goal

pub invariant_of-self-2 : goal.invariant_of-self-2
invariant_of-self-2 c =
    served_changed c.index_mut.result.now c.pop_front.new.self c.self.inside.strips.items c.self.inside.at
    c.self.invariant.within c.index_mut.ensures.value c.self.inside.at c.self.invariant.within
    c.self.invariant.capacity c.in_ok-cell.ensures.capacity

pub returns : goal.returns
returns c =
    let lists = c.self.inside.strips.items in
    let list = c.pop_front.new.self in
    subst (AreOneMore c.in_ok-cell.cell (cells_of (set lists c.self.inside.at list))) c.self.view_is
    (cell_popped c.index_mut.result.now list lists c.self.inside.at c.self.invariant.within
    c.index_mut.ensures.value c.in_ok-cell.cell c.in_ok-cell.ensures.items)
