use Rattle.std.proofs.Common.{◌≡◌, true, false, refl}
use Rattle.stroke_lattice.specs.{State.HasTombstone, Growth.IsNewTombstone}
use Rattle.stroke_lattice.proofs.Picking.{tombstone_tags, picks_begin, picks, leaves, all_picked}
use Rattle.stroke_lattice.proofs.state.State.new_tombstones.Goals as goal

pub loop-tag-init : goal.loop-tag-init
loop-tag-init c =
    picks_begin (IsNewTombstone c.args.self.now c.args.delta.now) (HasTombstone c.args.delta.now)
    c.new-tags.result.items
    c.tombstones-tag-items.result c.into_iter-tag-iterator.result c.new-tags.ensures.items
    c.into_iter-tag-iterator.ensures.into_iter_gives
    (tombstone_tags c.args.delta.now c.tombstones-tag-items.result c.tombstones-tag-items.ensures.tombstones)
    (λ tag p. p.0)

pub loop-tag-preserved-in-Continue-1 : goal.loop-tag-preserved-in-Continue-1
loop-tag-preserved-in-Continue-1 c =
    picks (IsNewTombstone c.args.self.now c.args.delta.now) (HasTombstone c.args.delta.now) c.loop-tag.tags.items
    c.push.new.self.items
    c.in-Some.tag.now c.loop-tag.tag-iterator c.next.new.self c.in-Some.ensures.steps
    c.in_ok-push.ensures.items c.loop-tag.invariant
    (λ given. (given, λ held. let no : false ≡ true = c.if-not-has_tombstone.ensures.1 held in absurd cc))

pub loop-tag-preserved : goal.loop-tag-preserved
loop-tag-preserved c =
    leaves (IsNewTombstone c.args.self.now c.args.delta.now) (HasTombstone c.args.delta.now) c.loop-tag.tags.items
    c.in-Some.tag.now c.loop-tag.tag-iterator c.next.new.self c.in-Some.ensures.steps
    c.loop-tag.invariant (λ new. new.1 (c.if-not-has_tombstone.ensures.0 refl))

pub returns : goal.returns
returns c =
    all_picked (IsNewTombstone c.args.self.now c.args.delta.now) (HasTombstone c.args.delta.now) c.loop-tag.tags.items
    c.loop-tag.tag-iterator c.in-None.ensures.steps.0 c.loop-tag.invariant
