use Rattle.std.proofs.Common.{◌≡◌, true, false, refl}
use Rattle.stroke_lattice.proofs.Walking.{strokes_begin, stroke_step}
use Rattle.stroke_lattice.proofs.Comparing.{HasNoOther, least_clash}
use Rattle.stroke_lattice.proofs.state.State.clash.Goals as goal

pub loop-tag-init : goal.loop-tag-init
loop-tag-init c = strokes_begin (HasNoOther c.args.self.now) c.args.delta.now c.strokes-tag-items.result
    c.into_iter-tag-iterator.result c.into_iter-tag-iterator.ensures.into_iter_gives
    c.strokes-tag-items.ensures.strokes

pub returns-then-has_other : goal.returns-then-has_other
returns-then-has_other c =
    least_clash c.args.self.now c.args.delta.now c.in-Some.tag.now c.in-Some.stroke.now c.loop-tag.tag-iterator
    c.next.new.self c.in-Some.ensures.steps c.loop-tag.invariant (c.if-has_other.ensures.0 refl)

pub loop-tag-preserved : goal.loop-tag-preserved
loop-tag-preserved c =
    stroke_step (HasNoOther c.args.self.now) (HasNoOther c.args.self.now) c.args.delta.now c.in-Some.tag.now
    c.in-Some.stroke.now c.loop-tag.tag-iterator c.next.new.self c.in-Some.ensures.steps c.loop-tag.invariant
    (λ t x none. none) (λ other. let no : false ≡ true = c.if-has_other.ensures.1 other in absurd cc)
