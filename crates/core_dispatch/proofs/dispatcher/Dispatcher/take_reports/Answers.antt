use Rattle.std.proofs.Common.{[], ◌∷◌, ◌++◌, refl, arith}
use Rattle.core_dispatch.proofs.{Collecting.collected_more, Collecting.at_most_one}
use Rattle.core_dispatch.proofs.Rounds.{counted_more, none_counted}
use Rattle.core_dispatch.specs.Reports.{results_in, is_wanting}
use Rattle.core_dispatch.proofs.dispatcher.Dispatcher.take_reports.Goals as goal

pub loop-hand-init : goal.loop-hand-init
loop-hand-init c = ([], refl, none_counted results_in is_wanting)

pub loop-hand-preserved : goal.loop-hand-preserved
loop-hand-preserved c =
    let (answers, collected, counted) = c.loop-hand.invariant in
    let answer = c.take_report-answer.result in
    let hand = c.loop-hand.hand in (
      answers ++ answer ∷ [],
      collected_more 0 c.args.self.now c.loop-hand.self c.take_report-answer.new.self answers answer hand
          (omega (arith, counted.all)) collected c.take_report-answer.ensures,
      counted_more results_in is_wanting answers answer hand c.loop-hand.taken.results c.and-taken.result.results
          c.loop-hand.taken.memory c.and-taken.result.memory counted (at_most_one answer) c.and-taken.ensures.results
          c.and-taken.ensures.memory,
    )

pub returns : goal.returns
returns c =
    let (answers, collected, counted) = c.loop-hand.invariant in
    record {
      answers = answers;
      collected = collected;
      all = omega (arith, counted.all, c.hands-hand-end.ensures, c.loop-hand-test.false, c.loop-hand.auto.hand-end);
      count = counted.count_is;
      memory = counted.memory_is;
    }
