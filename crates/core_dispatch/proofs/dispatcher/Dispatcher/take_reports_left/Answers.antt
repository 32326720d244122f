use Rattle.std.proofs.Common.{◌≡◌, ℕ, suc, ◌+◌, ◌∙◌, subst, arith}
use Rattle.core_dispatch.specs.Closing.{AreRounds}
use Rattle.core_dispatch.proofs.GoingOn.{goes_through, goes_by_reports, reports_keep_desks}
use Rattle.core_dispatch.proofs.dispatcher.Dispatcher.take_reports_left.Goals as goal

pub loop-round-preserved : goal.loop-round-preserved
loop-round-preserved c =
    let now = c.loop-round.self in
    let new = c.take_reports-results.new.self in
    let results = c.take_reports-results.result in
    let have = c.take_reports-results.ensures in
    let n = c.loop-round._round in
    let more : suc n ≡ n + 1 = omega arith in
    record {
      desks = reports_keep_desks now new results have ∙ c.loop-round.invariant.desks;
      goes_on =
          goes_through c.args.self.now now new c.loop-round.invariant.goes_on (goes_by_reports now new results have);
      rounds =
          subst (λ (m : ℕ). AreRounds m c.args.self.now new) more (now, results, c.loop-round.invariant.rounds, have);
    }

pub returns-clause-taken : goal.returns-clause-taken
returns-clause-taken c = record {
  count = c.loop-round._round;
  all = omega (arith, c.loop-round-test.false, c.loop-round.auto._round-end);
  rounds = c.loop-round.invariant.rounds;
}
