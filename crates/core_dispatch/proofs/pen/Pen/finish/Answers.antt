use Rattle.std.proofs.Common.{refl}
use Rattle.core_dispatch.proofs.Rings.{pair_finished}
use Rattle.core_dispatch.proofs.pen.Pen.finish.Goals as goal

pub returns-in-Some-clause-desk : goal.returns-in-Some-clause-desk
returns-in-Some-clause-desk c = record {
  number = refl;
  books = λ books (desk, at, pair). (
    desk,
    at,
    pair_finished c.args.self.producer c.in-Some.finished desk.consumer c.in-Some.ensures pair,
  );
}
