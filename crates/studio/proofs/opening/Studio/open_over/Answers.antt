use Rattle.std.proofs.Common.{sym, ap, ◌∙◌, subst, arith}
use Rattle.core_dispatch.specs.{Books.ledger, Pens.HasItsDesk}
use Rattle.studio.specs.Opening.{HasShownOnce, IsOpened}
use Rattle.std.proofs.lemmas.Grind.{common_steps}
use Rattle.studio.proofs.opening.Studio.open_over.Goals as goal

pub returns-in-Ok-over_books-clause-opened : goal.returns-in-Ok-over_books-clause-opened
returns-in-Ok-over_books-clause-opened g c =
    let over = c.in-Ok-over_books.ensures.over in
    let opened = c.in-Ok.ensures in
    let same = over.books_are in
    subst (IsOpened c.args.core c.args.pens c.args.hands c.args.eyes) (sym c.with_pens.ensures) (record {
      core_is = ap (λ b. b.core) same ∙ opened.core;
      opening = ap (λ b. b.opening) same ∙ opened.opening;
      refusals = ap (λ b. b.refusals) same ∙ opened.refusals;
      taken = ap (λ b. (ledger b).taken) same ∙ opened.taken;
      sent = opened.sent;
      desks = λ i lt. subst (λ b. HasItsDesk c.in-Ok.opened.pens.items b.desks i) (sym same) (opened.rings i lt);
      owner = over.owner;
      hands_are = over.hands_are;
      eyes_are = over.eyes_are;
      shown = subst (HasShownOnce c.in-Ok-over_books.over.keeper) opened.core over.shown;
    })

pub returns-in-Ok-over_books-clause-counted : goal.returns-in-Ok-over_books-clause-counted
returns-in-Ok-over_books-clause-counted g c = grind (arith, common_steps)
