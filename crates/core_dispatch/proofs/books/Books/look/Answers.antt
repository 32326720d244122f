use Rattle.std.proofs.Common.{sym, refl, arith}
use Rattle.atomic_table.proofs.Lists.{set_here}
use Rattle.core_dispatch.specs.contracts.books.Books.{the_view}
use Rattle.core_dispatch.proofs.Taking.{passed_books}
use Rattle.core_dispatch.proofs.Resting.{has_desk, own_desk, own_ring, look_moves}
use Rattle.core_dispatch.proofs.books.Books.look.Goals as goal

pub index_mut-requires : goal.index_mut-requires
index_mut-requires c =
    let is_end = rw (← c.self.view_is) at c.requires in
    let within = has_desk c.args.end.now (the_view c.self.inside) is_end in
    omega (arith, within, c.self.inside.desks.ok.0)

pub look-requires : goal.look-requires
look-requires c =
    let is_end = rw (← c.self.view_is) at c.requires in
    own_ring c.args.end.now (the_view c.self.inside) is_end c.index_mut.result.now c.index_mut.ensures.value

pub invariant_of-self : goal.invariant_of-self
invariant_of-self c =
    let b = the_view c.self.inside in
    let end = c.args.end.now in
    let desk = c.index_mut.result.now in
    let is_end = rw (← c.self.view_is) at c.requires in
    let at = own_desk end b is_end desk c.index_mut.ensures.value in
    passed_books b end.number desk c.look.new.self at b.refusals c.self.invariant c.look.ensures.edits refl

pub returns-clause-left : goal.returns-clause-left
returns-clause-left c =
    let b = the_view c.self.inside in
    let is_end = rw (← c.self.view_is) at c.requires in
    record {
      desk = c.look.new.self;
      at = set_here b.desks c.args.end.now.number c.look.new.self (has_desk c.args.end.now b is_end);
      whole = c.look.ensures.whole;
      count = sym c.look.ensures.count;
    }

pub returns-clause-moved : goal.returns-clause-moved
returns-clause-moved c =
    let b = the_view c.self.inside in
    let end = c.args.end.now in
    let desk = c.index_mut.result.now in
    let is_end = rw (← c.self.view_is) at c.requires in
    let at = own_desk end b is_end desk c.index_mut.ensures.value in
    rw (← c.self.view_is) (look_moves end.number b desk c.look.new.self at c.look.ensures.ring)

pub returns-clause-kept : goal.returns-clause-kept
returns-clause-kept c =
    let b = the_view c.self.inside in
    let is_end = rw (← c.self.view_is) at c.requires in
    let at = set_here b.desks c.args.end.now.number c.look.new.self (has_desk c.args.end.now b is_end) in
    (c.look.new.self, rw c.look.ensures.end.number at, c.look.ensures.finished)
