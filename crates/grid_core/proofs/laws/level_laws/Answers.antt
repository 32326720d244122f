use Rattle.grid_core.proofs.Reach.{reaches_zero, reaches_lower, reaches_within_mask}
use Rattle.grid_core.proofs.laws.level_laws.Goals as goal

pub returns : goal.returns
returns c = record {
  reaches_level_zero = reaches_zero;
  reaches_lower_levels = reaches_lower;
  reach_is_within_mask = reaches_within_mask;
}
