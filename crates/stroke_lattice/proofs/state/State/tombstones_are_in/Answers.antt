use Rattle.std.proofs.Common.{refl}
use Rattle.stroke_lattice.specs.State.{HasTombstone}
use Rattle.stroke_lattice.proofs.Walking.{tombstone_step}
use Rattle.stroke_lattice.proofs.state.State.tombstones_are_in.Goals as goal

pub loop-tag-preserved : goal.loop-tag-preserved
loop-tag-preserved c =
    tombstone_step (HasTombstone c.args.other.now) (HasTombstone c.args.other.now) c.args.self.now c.in-Some.tag.now
    c.loop-tag.tag-iterator c.next.new.self c.in-Some.ensures.steps c.loop-tag.invariant
    (λ t has. has) (c.if-not-has_tombstone.ensures.0 refl)
