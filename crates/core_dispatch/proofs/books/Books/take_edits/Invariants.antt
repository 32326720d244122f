use Rattle.std.proofs.Common.{List, Result}
use Rattle.grid_core.specs.declared.memory.Memory.{Memory as Wanting}
use Rattle.core_dispatch.specs.{declared.taken.Taken.Taken, Pens.KeepsPens}
use Rattle.core_dispatch.specs.Taking.{ArePenTurns, HaveTakenEdits, edits_in, is_wanting}
use Rattle.core_dispatch.proofs.Rounds.{AreCounted}
use Rattle.core_dispatch.proofs.books.Books.take_edits.Given as goal

abbrev pub invariant-loop-pen : goal.invariant-loop-pen
invariant-loop-pen l = record {
  turns :
      (answers : List (Result Taken Wanting)) × ArePenTurns 0 l.fn.self answers l.self
      × AreCounted edits_in is_wanting answers l.pen l.edits.edits l.edits.memory;
  taken : HaveTakenEdits l.fn.self l.edits.edits l.self;
  pens : KeepsPens l.fn.self l.self;
}
