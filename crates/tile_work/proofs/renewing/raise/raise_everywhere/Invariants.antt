-- What the loop of `raise_everywhere` keeps.
use Rattle.std.proofs.Common.{nat_lt}
use Rattle.tile_work.specs.Renewing.{AreRisesWithin, IsRaisedWhere}
use Rattle.tile_work.proofs.renewing.raise.raise_everywhere.Given as goal

-- the rows so far are raised
abbrev pub invariant-loop-y : goal.invariant-loop-y
invariant-loop-y l =
    IsRaisedWhere l.tiling (λ p. nat_lt p.y l.y) l.marker l.fn.image l.image l.fn.work l.work
    × AreRisesWithin l.tiling l.fn.image l.image l.fn.bounds l.bounds
