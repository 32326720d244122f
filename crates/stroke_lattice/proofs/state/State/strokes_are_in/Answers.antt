use Rattle.std.proofs.Common.{◌≡◌, true, false, refl, subst}
use Rattle.stroke_lattice.specs.State.{HasStroke}
use Rattle.stroke_lattice.proofs.Walking.{StrokesLeft, strokes_begin, stroke_step, stroke_here}
use Rattle.stroke_lattice.proofs.state.State.strokes_are_in.Goals as goal

pub loop-tag-init : goal.loop-tag-init
loop-tag-init c = strokes_begin (HasStroke c.args.other.now) c.args.self.now c.strokes-tag-items.result
    c.into_iter-tag-iterator.result c.into_iter-tag-iterator.ensures.into_iter_gives
    c.strokes-tag-items.ensures.strokes

pub returns-then-not-has_same : goal.returns-then-not-has_same
returns-then-not-has_same c = (
  λ yes. let no : false ≡ true = yes in absurd cc,
  λ all. c.if-not-has_same.ensures.1 (all c.in-Some.tag.now c.in-Some.stroke.now (
      stroke_here (HasStroke c.args.other.now) c.args.self.now (c.in-Some.tag.now, c.in-Some.stroke.now)
      c.next.new.self
      (subst (StrokesLeft (HasStroke c.args.other.now) c.args.self.now) c.in-Some.ensures.steps
      c.loop-tag.invariant))),
)

pub loop-tag-preserved : goal.loop-tag-preserved
loop-tag-preserved c =
    stroke_step (HasStroke c.args.other.now) (HasStroke c.args.other.now) c.args.self.now c.in-Some.tag.now
    c.in-Some.stroke.now c.loop-tag.tag-iterator c.next.new.self c.in-Some.ensures.steps c.loop-tag.invariant
    (λ t x has. has) (c.if-not-has_same.ensures.0 refl)
