use Rattle.std.proofs.Common.{◌≡◌, ℕ, ◌-◌, List, Some, ap, sym, subst, arith}
use Rattle.std.proofs.lemmas.Result.{err_from_is_err_and}
use Rattle.stroke_core.specs.Seed.{Seed}
use Rattle.stroke_lattice.specs.State.{State, HasSomeStroke}
use Rattle.spd_codec.specs.declared.version.Version.{Version}
use Rattle.spd_codec.specs.Reading.{Read, onto, strokes_at, stroke_at, with_stroke}
use Rattle.spd_codec.proofs.Loops.{goes_on, ends_or_memory, is_done}
use Rattle.spd_codec.proofs.NewTags.{AreNewAbove, stroke_above, strokes_new}
use Rattle.spd_codec.proofs.reader.Reader.strokes.Goals as goal

abbrev all : State → Version → ℕ → List ℕ → Read State
all state version count text = onto with_stroke state (strokes_at version count text)

pub returns-in_err-tag : goal.returns-in_err-tag
returns-in_err-tag c =
    let p = err_from_is_err_and c.from_residual.result c.from_residual.ensures.1 in
    rw (p.1, p.2) (ends_or_memory with_stroke (λ entry. entry.0) (stroke_at c.args.version) c.loop.state c.args.count
    c.loop.counter c.loop.last c.loop.self.rest.now c.in_err-tag.field-0.0
    (all c.args.state.now c.args.version c.args.count c.args.self.now.rest.now) c.loop-test.true c.in_err-tag.ensures
    c.loop.invariant.read)

pub loop-init : goal.loop-init
loop-init c =
    let none : c.args.count - 0 ≡ c.args.count = omega arith in
    record {
      read = ap (λ (n : ℕ). all c.args.state.now c.args.version n c.args.self.now.rest.now) none;
      new = λ tag above some. c.requires tag some;
    }

pub insert-requires : goal.insert-requires
insert-requires c = λ some. c.loop.invariant.new c.in_ok-tag.tag
    (stroke_above c.args.version c.loop.last c.loop.self.rest.now
    ((c.in_ok-tag.tag, c.in_ok-tag.stroke), c.stroke.new.self.rest.now) c.in_ok-tag.ensures) some

pub loop-preserved : goal.loop-preserved
loop-preserved c =
    let entry : ℕ × Seed = (c.in_ok-tag.tag, c.in_ok-tag.stroke) in
    let above = stroke_above c.args.version c.loop.last c.loop.self.rest.now (entry, c.stroke.new.self.rest.now)
    c.in_ok-tag.ensures in
    record {
      read = rw c.in_ok-insert.ensures.ok (goes_on with_stroke (λ entry. entry.0) (stroke_at c.args.version)
          c.loop.state c.args.count c.loop.counter c.loop.last c.loop.self.rest.now entry c.stroke.new.self.rest.now
          (all c.args.state.now c.args.version c.args.count c.args.self.now.rest.now)
          c.loop-test.true c.in_ok-tag.ensures c.loop.invariant.read);
      new = subst (λ (s : State). AreNewAbove (HasSomeStroke s) (Some c.in_ok-tag.tag)) (sym c.in_ok-insert.ensures.ok)
          (strokes_new c.loop.state c.in_ok-tag.tag c.in_ok-tag.stroke c.loop.last above c.loop.invariant.new);
    }

pub returns : goal.returns
returns c =
    is_done with_stroke (λ entry. entry.0) (stroke_at c.args.version) c.loop.state c.args.count c.loop.counter
    c.loop.last c.loop.self.rest.now (all c.args.state.now c.args.version c.args.count c.args.self.now.rest.now)
    c.loop-test.false c.loop.invariant.read
