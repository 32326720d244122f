use Rattle.std.proofs.Common.{◌<◌, length, set, subst, sym, arith, inr, deque_capacity}
use Rattle.row_scans.specs.Waiting.{AreOneMore, cells_of}
use Rattle.row_scans.proofs.Bags.{cell_pushed, served_changed, some_cells}
use Rattle.row_scans.proofs.lists.Lists.push.Goals as goal

pub returns-then-len-capacity-clause-full : goal.returns-then-len-capacity-clause-full
returns-then-len-capacity-clause-full c =
    let list = c.index_mut-list.result.now in
    let lists = c.self.inside.strips.items in
    let within : c.min.result < length lists = omega (arith, c.self.inside.strips.ok.0, c.self.invariant.within) in
    let room : 0 < deque_capacity list =
    subst (λ l. 0 < deque_capacity l) (sym c.index_mut-list.ensures.value)
    (c.self.invariant.capacity c.min.result list within) in
    let some : 0 < length (cells_of lists) =
    some_cells list list lists c.min.result within c.index_mut-list.ensures.value
    (omega (arith, room, c.if-len-capacity.true, list.ok.0)) in
    inr (subst (λ cells. 0 < length cells) c.self.view_is some)

pub invariant_of-self-2 : goal.invariant_of-self-2
invariant_of-self-2 c =
    served_changed c.index_mut-list.result.now c.push_back_reserved.new.self c.self.inside.strips.items c.min.result
    (omega (arith, c.self.inside.strips.ok.0, c.self.invariant.within)) c.index_mut-list.ensures.value
    c.self.inside.at c.self.invariant.within c.self.invariant.capacity c.push_back_reserved.ensures.capacity

pub returns-clause-added : goal.returns-clause-added
returns-clause-added c =
    let lists = c.self.inside.strips.items in
    let list = c.push_back_reserved.new.self in
    subst (λ cells. AreOneMore c.args.cell cells (cells_of (set lists c.min.result list))) c.self.view_is
    (cell_pushed c.index_mut-list.result.now list lists c.min.result
    (omega (arith, c.self.inside.strips.ok.0, c.self.invariant.within)) c.index_mut-list.ensures.value
    c.args.cell c.push_back_reserved.ensures.items)
