-- What merging and settling keep of a core: mask, connectivity and tiles; settling also the strokes.
use Rattle.std.proofs.Common.{ℕ, ap}
use Rattle.stroke_lattice.specs.{State.State, Change.Turnover}
use Rattle.core_rules.specs.{Merge.IsMerged, Work.Core}
use Rattle.core_rules.proofs.KeptRuns.{Keeps, run_keeps}
use Rattle.page_board.specs.{Growing.IsWorkedOn, Later.HasSameGround}

-- a core that takes a delta keeps its ground
pub merged_ground : (before after : Core) (delta : State) (turnover : Turnover) → IsMerged before delta turnover after
    → HasSameGround before after
merged_ground before after delta turnover merged = record {
  mask = ap (λ (c : Core). c.mask) merged.rest;
  conn = ap (λ (c : Core). c.conn) merged.rest;
  side = ap (λ (c : Core). c.side) merged.rest;
  count = merged.count;
}

-- ---- settling

-- settling, as far as it came, keeps mask, connectivity, side of the tiles and strokes
pub worked_on_keeps : (before after : Core) (jobs : ℕ) → IsWorkedOn before jobs after → Keeps before after
worked_on_keeps before after jobs worked = run_keeps before after worked.log worked.none_merged worked.run
