-- What the tactics leave open of `over_parts`.
use Rattle.std.proofs.Common.{rules}
use Rattle.tiled_core.proofs.replica.converting.over_parts.Goals as goal

pub invariant_of-tiled : goal.invariant_of-tiled
invariant_of-tiled c = record {
  stored = search rules;
  tiling = search rules;
  beside = search rules;
  room = search rules;
  mask_rims = search rules;
  limits_room = search rules;
  states = c.none.ensures c.args.parts.state;
}
