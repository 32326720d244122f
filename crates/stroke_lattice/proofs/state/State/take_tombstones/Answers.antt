use Rattle.std.proofs.Common.{◌≡◌, refl, ap, subst, sym, ◌∙◌}
use Rattle.stroke_lattice.specs.{State.State, State.HasTombstone, Growth.IsBetween}
use Rattle.stroke_lattice.proofs.Walking.{TombstonesLeft, tombstone_step, tombstone_here}
use Rattle.stroke_lattice.proofs.Growing.{with_tombstone, more_tombstones, tombstone_of_new, grows_by_tombstone}
use Rattle.stroke_lattice.proofs.state.State.take_tombstones.Goals as goal

pub loop-tag-preserved-in-Continue-1 : goal.loop-tag-preserved-in-Continue-1
loop-tag-preserved-in-Continue-1 c =
    let s = c.loop-tag.self in
    let delta = c.args.delta.now in
    let tag = c.in-Some.tag.now in
    let after = with_tombstone s tag in
    let is : c.bury.new.self ≡ after = c.in_ok-bury.ensures.ok in
    let given = tombstone_here (HasTombstone s) delta tag c.next.new.self
    (subst (TombstonesLeft (HasTombstone s) delta) c.in-Some.ensures.steps c.loop-tag.invariant.left) in
    record {
      left = subst (λ (q : State). TombstonesLeft (HasTombstone q) delta c.next.new.self) (sym is) (
          tombstone_step (HasTombstone s) (HasTombstone after) delta tag c.loop-tag.tag-iterator c.next.new.self
          c.in-Some.ensures.steps c.loop-tag.invariant.left (more_tombstones s tag) (tombstone_of_new s tag));
      between = subst (IsBetween c.args.self.now delta) (sym is)
          (grows_by_tombstone c.args.self.now delta s tag c.loop-tag.invariant.between given);
      strokes = ap (λ (q : State). q.strokes) is ∙ c.loop-tag.invariant.strokes;
    }

pub loop-tag-preserved : goal.loop-tag-preserved
loop-tag-preserved c = record {
  left = tombstone_step (HasTombstone c.loop-tag.self) (HasTombstone c.loop-tag.self) c.args.delta.now
      c.in-Some.tag.now c.loop-tag.tag-iterator c.next.new.self c.in-Some.ensures.steps c.loop-tag.invariant.left
      (λ t has. has) (c.if-not-has_tombstone.ensures.0 refl);
  between = c.loop-tag.invariant.between;
  strokes = c.loop-tag.invariant.strokes;
}
