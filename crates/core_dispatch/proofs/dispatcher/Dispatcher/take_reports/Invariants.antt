use Rattle.std.proofs.Common.{Bool, List, Option}
use Rattle.core_dispatch.specs.Reports.{AreCollected, results_in, is_wanting}
use Rattle.core_dispatch.proofs.Rounds.{AreCounted}
use Rattle.core_dispatch.proofs.dispatcher.Dispatcher.take_reports.Given as goal

abbrev pub invariant-loop-hand : goal.invariant-loop-hand
invariant-loop-hand l =
    (answers : List (Option Bool)) × AreCollected 0 l.fn.self answers l.self
    × AreCounted results_in is_wanting answers l.hand l.taken.results l.taken.memory
