use Rattle.marker_tiles.proofs.Keeping.{kept_is_in_order}
use Rattle.marker_tiles.proofs.mask_and_marker.Markers.apply.Goals as goal

pub invariant_of-self : goal.invariant_of-self
invariant_of-self c =
    let held = c.self.inside in
    kept_is_in_order held.mask c.renew.new.marker held.tiling c.args.state.now c.self.invariant.mask_sized
    c.renew.ensures.size c.renew.ensures.marks c.self.invariant.width c.self.invariant.height
