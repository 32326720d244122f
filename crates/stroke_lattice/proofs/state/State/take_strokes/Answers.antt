use Rattle.std.proofs.Common.{◌≡◌, true, false, refl, ap, subst, sym, ◌∙◌}
use Rattle.stroke_lattice.specs.{State.State, State.HasSomeStroke, Growth.IsBetween}
use Rattle.stroke_lattice.proofs.Walking.{StrokesLeft, strokes_begin, stroke_step, stroke_here}
use Rattle.stroke_lattice.proofs.Growing.{between_at_first, with_stroke, above_without, stroke_of_new, grows_by_stroke}
use Rattle.stroke_lattice.proofs.state.State.take_strokes.Goals as goal

pub loop-tag-init : goal.loop-tag-init
loop-tag-init c = record {
  left = strokes_begin (λ t x. HasSomeStroke c.args.self.now t) c.args.delta.now c.strokes-tag-items.result
      c.into_iter-tag-iterator.result c.into_iter-tag-iterator.ensures.into_iter_gives
      c.strokes-tag-items.ensures.strokes;
  between = between_at_first c.args.self.now c.args.delta.now;
}

pub loop-tag-preserved-in_ok-insert : goal.loop-tag-preserved-in_ok-insert
loop-tag-preserved-in_ok-insert c =
    let s = c.loop-tag.self in
    let delta = c.args.delta.now in
    let tag = c.in-Some.tag.now in
    let seed = c.in-Some.stroke.now in
    let after = with_stroke s tag seed in
    let is : c.insert.new.self ≡ after = c.in_ok-insert.ensures.ok ∙ ap (with_stroke s tag) c.in_ok-copy.ensures in
    let new : HasSomeStroke s tag → ⊥ = λ some. let no : false ≡ true = c.if-not-has_stroke.ensures.1 some in cc in
    let given = stroke_here (λ t x. HasSomeStroke s t) delta (tag, seed) c.next.new.self
    (subst (StrokesLeft (λ t x. HasSomeStroke s t) delta) c.in-Some.ensures.steps c.loop-tag.invariant.left) in
    record {
      left = subst (λ (q : State). StrokesLeft (λ t x. HasSomeStroke q t) delta c.next.new.self) (sym is) (
          stroke_step (λ t x. HasSomeStroke s t) (λ t x. HasSomeStroke after t) delta tag seed
          c.loop-tag.tag-iterator c.next.new.self c.in-Some.ensures.steps c.loop-tag.invariant.left
          (λ t x some. (some.0, (above_without s tag seed new).strokes t some.0 some.1))
          (seed, stroke_of_new s tag seed));
      between = subst (IsBetween c.args.self.now delta) (sym is)
          (grows_by_stroke c.args.self.now delta s tag seed c.loop-tag.invariant.between given new);
    }

pub loop-tag-preserved : goal.loop-tag-preserved
loop-tag-preserved c = record {
  left = stroke_step (λ t x. HasSomeStroke c.loop-tag.self t) (λ t x. HasSomeStroke c.loop-tag.self t)
      c.args.delta.now c.in-Some.tag.now c.in-Some.stroke.now c.loop-tag.tag-iterator c.next.new.self
      c.in-Some.ensures.steps
      c.loop-tag.invariant.left (λ t x some. some) (c.if-not-has_stroke.ensures.0 refl);
  between = c.loop-tag.invariant.between;
}
