use Rattle.std.proofs.Common.{◌≡◌}
use Rattle.core_dispatch.specs.Closing.{HasGoneOn, AreRounds}
use Rattle.core_dispatch.proofs.dispatcher.Dispatcher.take_reports_left.Given as goal

abbrev pub invariant-loop-round : goal.invariant-loop-round
invariant-loop-round l = record {
  desks : l.self.books.desks ≡ l.fn.self.books.desks;
  goes_on : HasGoneOn l.fn.self l.self;
  rounds : AreRounds l._round l.fn.self l.self;
}
