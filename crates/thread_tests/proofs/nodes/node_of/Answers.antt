use Rattle.std.proofs.Common.{sym, subst}
use Rattle.core_dispatch.specs.{declared.pen.Pen.Pen, Pens.IsOf}
use Rattle.studio.specs.Keeping.{books_of}
use Rattle.thread_tests.proofs.nodes.node_of.Goals as goal

pub returns : goal.returns
returns c = subst (λ (p : Pen). IsOf p (books_of c.args.scene.keeper)) (sym c.new.ensures.pen) c.requires.pen
