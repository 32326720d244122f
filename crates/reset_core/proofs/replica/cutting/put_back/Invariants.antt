use Rattle.std.proofs.Common.{drop}
use Rattle.reset_core.proofs.Bands.Puts.{IsPutSoFar}
use Rattle.reset_core.proofs.replica.cutting.put_back.Given as goal

-- the bands so far have been put back
abbrev pub invariant-loop-band : goal.invariant-loop-band
invariant-loop-band l =
    IsPutSoFar l.tiling l.fn.work l.fn.swept l.bands (drop l.band-index l.bands) l.above l.work l.bounds l.swept l.jobs
