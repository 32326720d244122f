use Rattle.std.proofs.Common.{◌/◌}
use Rattle.marker_tiles.specs.Blocks.{block_at}
use Rattle.marker_tiles.proofs.BlockLevels.{zero_everywhere}
use Rattle.marker_tiles.proofs.blocks.Blocks.of.Goals as goal

pub returns-clause-nothing : goal.returns-clause-nothing
returns-clause-nothing c p = zero_everywhere 4096 (block_at (p.x / c.div_ceil.result) (p.y / c.div_ceil.result))
