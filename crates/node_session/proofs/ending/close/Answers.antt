use Rattle.std.proofs.{Common.sym, Common.subst, Common.◌≡◌, Common.All, lemmas.Result.IfOk-weaker}
use Rattle.core_dispatch.specs.{declared.pen.Pen.Pen, declared.pen.PenEnd.PenEnd}
use Rattle.core_dispatch.specs.Pens.{IsOf, submitted, all_submitted}
use Rattle.studio.specs.Keeping.{books_of}
use Rattle.node_session.proofs.ending.close.Goals as goal

pub close_with-requires : goal.close_with-requires
close_with-requires g c = c.ends_of.ensures.books (books_of c.args.desk.keeper)
    (subst (λ (p : Pen). IsOf p (books_of c.args.desk.keeper)) (sym c.leave-pen.ensures.pen) c.requires)

pub returns-clause-left : goal.returns-clause-left
returns-clause-left g c = IfOk-weaker c.close_with.result _ _
    (λ core closed. record {
      ends = c.ends_of.result.items;
      submitted =
          subst (λ (p : Pen). All (λ (end : PenEnd). all_submitted end ≡ submitted p) c.ends_of.result.items)
          c.leave-pen.ensures.pen c.ends_of.ensures.submitted;
      closed = closed;
    }) c.close_with.ensures.closed
