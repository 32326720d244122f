use Rattle.std.proofs.Common.{◌-◌}
use Rattle.core_dispatch.specs.{Pens.IsEndOf, Pens.end_number, Resting.HasLeft, Resting.HasMoved}
use Rattle.core_dispatch.proofs.books.Books.take_rest.Given as goal

abbrev pub invariant-loop-edit : goal.invariant-loop-edit
invariant-loop-edit l = record {
  moved : HasMoved (end_number l.fn.end) l.fn.self l.self;
  left : HasLeft l.self l.fn.end (l.left - l._edit);
  kept : IsEndOf l.end l.self;
}
