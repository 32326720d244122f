use Rattle.std.proofs.Common.{◌≡◌, true, false, refl, ap}
use Rattle.std.specs.Map.{keys_of}
use Rattle.stroke_lattice.specs.{State.HasSomeStroke, Growth.IsBirth}
use Rattle.stroke_lattice.proofs.Picking.{stroke_tags, picks_begin, picks, leaves, all_picked}
use Rattle.stroke_lattice.proofs.state.State.births.Goals as goal

pub loop-tag-init : goal.loop-tag-init
loop-tag-init c =
    picks_begin (IsBirth c.args.self.now c.args.delta.now) (HasSomeStroke c.args.delta.now) c.new-tags.result.items
    (keys_of c.strokes-tag-items.result) (keys_of c.into_iter-tag-iterator.result) c.new-tags.ensures.items
    (ap keys_of c.into_iter-tag-iterator.ensures.into_iter_gives)
    (stroke_tags c.args.delta.now c.strokes-tag-items.result c.strokes-tag-items.ensures.strokes) (λ tag p. p.0)

pub loop-tag-preserved-in-Continue-1 : goal.loop-tag-preserved-in-Continue-1
loop-tag-preserved-in-Continue-1 c =
    picks (IsBirth c.args.self.now c.args.delta.now) (HasSomeStroke c.args.delta.now) c.loop-tag.tags.items
    c.push.new.self.items
    c.in-Some.tag.now (keys_of c.loop-tag.tag-iterator) (keys_of c.next.new.self) (ap keys_of c.in-Some.ensures.steps)
    c.in_ok-push.ensures.items c.loop-tag.invariant
    (λ some. (some, c.if-is_vacant.ensures.0 refl))

pub loop-tag-preserved : goal.loop-tag-preserved
loop-tag-preserved c =
    leaves (IsBirth c.args.self.now c.args.delta.now) (HasSomeStroke c.args.delta.now) c.loop-tag.tags.items
    c.in-Some.tag.now (keys_of c.loop-tag.tag-iterator) (keys_of c.next.new.self) (ap keys_of c.in-Some.ensures.steps)
    c.loop-tag.invariant (λ birth. let no : false ≡ true = c.if-is_vacant.ensures.1 birth.1 in absurd cc)

pub returns : goal.returns
returns c =
    all_picked (IsBirth c.args.self.now c.args.delta.now) (HasSomeStroke c.args.delta.now) c.loop-tag.tags.items
    (keys_of c.loop-tag.tag-iterator) (ap keys_of c.in-None.ensures.steps.0) c.loop-tag.invariant
