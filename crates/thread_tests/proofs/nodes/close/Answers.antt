use Rattle.std.proofs.Common.{sym, subst}
use Rattle.core_dispatch.specs.{declared.pen.Pen.Pen, Pens.IsOf}
use Rattle.studio.specs.Keeping.{books_of}
use Rattle.thread_tests.proofs.nodes.close.Goals as goal

pub close_keeper-requires : goal.close_keeper-requires
close_keeper-requires g c =
    let books = books_of c.args.desk.0 in
    c.ends_of.ensures books (subst (λ (p : Pen). IsOf p books) (sym c.leave-pen.ensures.pen) c.requires)
