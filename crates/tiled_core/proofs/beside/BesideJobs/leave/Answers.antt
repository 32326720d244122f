-- What the tactics leave open of `leave`.
use Rattle.std.proofs.Common.{arith}
use Rattle.tile_work.proofs.RenewingTiles.{touching_are_tiles}
use Rattle.tiled_core.proofs.beside.BesideJobs.leave.Goals as goal

pub leave_one-requires : goal.leave_one-requires
leave_one-requires c =
    omega (
      arith,
      touching_are_tiles c.args.tiling.now c.args.tile c.touching-touching.result c.as_slice-tiles.result.now
          c.as_slice-tiles.ensures.tiles c.touching-touching.ensures.members c.loop-other.other-index
          c.loop-other-test.true,
      c.requires.count,
      c.loop-other.invariant,
    )
