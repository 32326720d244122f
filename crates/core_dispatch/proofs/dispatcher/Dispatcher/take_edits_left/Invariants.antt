use Rattle.std.proofs.Common.{ℕ, ◌<◌}
use Rattle.core_dispatch.specs.Closing.{AreKept, IsAllTaken, HasGoneOn, HasTakenEdits}
use Rattle.core_dispatch.proofs.dispatcher.Dispatcher.take_edits_left.Given as goal

abbrev pub invariant-loop-number : goal.invariant-loop-number
invariant-loop-number l = record {
  taken : (n : ℕ) → n < l.number → IsAllTaken l.self.books l.fn.ends.items n;
  ends : AreKept l.fn.ends.items l.ends.items l.self.books;
  goes_on : HasGoneOn l.fn.self l.self;
  edits : HasTakenEdits l.fn.self l.self;
}
