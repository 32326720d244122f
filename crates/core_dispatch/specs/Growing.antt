-- How a core goes on.
use Rattle.std.specs.Prelude.{◌≡◌}
use Rattle.stroke_lattice.specs.State.{IsBelow}
use Rattle.core_rules.specs.Work.{Core}

-- the strokes only joined, on the same mask with the same neighbours
pub record GrowsOn (before after : Core) : Type 0 where
  pub mask : after.mask ≡ before.mask
  pub conn : after.conn ≡ before.conn
  pub state : IsBelow before.state after.state

-- strokes and image are as they were, on the same mask with the same neighbours
pub record ShowsSame (before after : Core) : Type 0 where
  pub mask : after.mask ≡ before.mask
  pub conn : after.conn ≡ before.conn
  pub state : after.state ≡ before.state
  pub image : after.image ≡ before.image
