use Rattle.std.proofs.Common.{◌≡◌, length, subst, sym, ap, ◌∙◌, arith}
use Rattle.std.proofs.lemmas.List.{with_items_is}
use Rattle.row_scans.specs.Waiting.{AreServed, cells_of}
use Rattle.row_scans.proofs.Bags.{no_cells}
use Rattle.row_scans.proofs.lists.Lists.clear.Goals as goal

pub invariant_of-self : goal.invariant_of-self
invariant_of-self c =
    let lists = c.loop-list.list-items in
    let long : length lists ≡ c.self.inside.strips.len =
    c.loop-list.auto.list-items ∙ c.deref_mut-list-items.ensures.len in
    subst (λ ls. AreServed ls 0) (sym (with_items_is c.self.inside.strips lists long)) (record {
      capacity = c.loop-list.invariant.capacity;
      within = omega (arith, long, c.self.inside.strips.ok.0, c.self.invariant.within);
    })

pub returns : goal.returns
returns c =
    let lists = c.loop-list.list-items in
    let long : length lists ≡ c.self.inside.strips.len =
    c.loop-list.auto.list-items ∙ c.deref_mut-list-items.ensures.len in
    ap cells_of (with_items_is c.self.inside.strips lists long)
    ∙ no_cells lists (λ k d within.
    c.loop-list.invariant.empty k d (omega arith)
    (omega (arith, within, c.loop-list.auto.list-items, c.loop-list-test.false)))
