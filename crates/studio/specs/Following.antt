-- How a core goes on from the shot that was shown last.
use Rattle.std.specs.Prelude.{◌≡◌, Bool, IsTrue}
use Rattle.stroke_lattice.specs.State.{IsBelow}
use Rattle.core_rules.specs.Work.{Core}
use Rattle.studio.specs.Shots.{Shot}

-- the core is on the shot's mask, its strokes are those of the shot and maybe more, and where it is said that strokes
-- or image are those of the shot, they are
pub record Follows (last : Shot) (core : Core) (has_state has_image : Bool) : Type 0 where
  pub mask : last.mask ≡ core.mask
  pub conn : last.conn ≡ core.conn
  pub state : IsBelow last.state core.state
  pub same_state : IsTrue has_state → last.state ≡ core.state
  pub same_image : IsTrue has_image → last.image ≡ core.image
