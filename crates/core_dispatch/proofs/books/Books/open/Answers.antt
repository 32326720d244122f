use Rattle.std.proofs.Common.{List, [], map, sym, ◌∙◌, subst}
use Rattle.stroke_lattice.specs.State.{State}
use Rattle.core_rules.specs.Work.{Core}
use Rattle.core_dispatch.specs.declared.refusal.Refusal.{Refusal}
use Rattle.core_dispatch.specs.Books.{BooksView, IsFaithful, ledger, edits_of}
use Rattle.core_dispatch.proofs.Ledgers.{opened}
use Rattle.core_dispatch.proofs.books.Books.open.Goals as goal

pub invariant_of-result : goal.invariant_of-result
invariant_of-result c =
    let made : Core → State → List Refusal → BooksView =
    λ core opening refusals. record {
      core = core;
      opening = opening;
      desks = c.in-Ok.rings.desks.items;
      refusals = refusals;
    } in
    let opening = c.in-Ok-copy.opening in
    let copied = c.in-Ok-copy.ensures.value ∙ c.state.ensures in
    subst (λ (k : Core). IsFaithful (ledger (made k opening c.new-in-Ok-new.result.items)))
    (sym (c.in-Ok-new.ensures.ok ∙ c.in-Ok-over.ensures.value))
    (subst (λ (l : List Refusal). IsFaithful (ledger (made c.args.core opening l))) (sym c.new-in-Ok-new.ensures.items)
    (subst (λ (s : State). IsFaithful (ledger (made c.args.core s []))) (sym copied)
    (opened c.args.core c.args.pens (map edits_of c.in-Ok.rings.desks.items) c.in-Ok.ensures.taken)))
