-- What the loop of `mark_linked` keeps.
use Rattle.tile_work.specs.Marks.{Adds}
use Rattle.core_rules.specs.Hits.{AreLinked}
use Rattle.tile_work.proofs.HittingTouching.{AreAmong}
use Rattle.tile_work.proofs.hits.links.Links.mark_linked.Given as goal

-- those of the tiles so far are marked that are linked
abbrev pub invariant-loop-other : goal.invariant-loop-other
invariant-loop-other l =
    Adds (AreAmong l.other-items l.other-index (AreLinked l.self.tiling l.self.image.now l.self.conn l.tile))
    l.fn.marks l.fn.queue l.marks l.queue
