use Rattle.std.proofs.Common.{◌≡◌, ℕ, ◌-◌, List, Some, ap, sym, subst, arith, inr}
use Rattle.std.proofs.lemmas.Result.{err_from_is_err_and}
use Rattle.stroke_lattice.specs.State.{State, HasTombstone}
use Rattle.spd_codec.specs.Reading.{Read, onto, tombstones_at, tag_at, with_tombstone}
use Rattle.spd_codec.proofs.Loops.{goes_on, ends, is_done}
use Rattle.spd_codec.proofs.NewTags.{AreNewAbove, tag_above, tombstones_new}
use Rattle.spd_codec.proofs.reader.Reader.tombstones.Goals as goal

abbrev all : State → ℕ → List ℕ → Read State
all state count text = onto with_tombstone state (tombstones_at count text)

pub returns-in_err-tag : goal.returns-in_err-tag
returns-in_err-tag c =
    let p = err_from_is_err_and c.from_residual.result c.from_residual.ensures.1 in
    rw (p.1, p.2) (inr (ends with_tombstone (λ tag. tag) tag_at c.loop.state c.args.count c.loop.counter c.loop.last
    c.loop.self.rest.now c.in_err-tag.field-0.0 (all c.args.state.now c.args.count c.args.self.now.rest.now)
    c.loop-test.true c.in_err-tag.ensures c.loop.invariant.read))

pub loop-init : goal.loop-init
loop-init c =
    let none : c.args.count - 0 ≡ c.args.count = omega arith in
    record {
      read = ap (λ (n : ℕ). all c.args.state.now n c.args.self.now.rest.now) none;
      new = λ tag above has. c.requires tag has;
    }

pub bury-requires : goal.bury-requires
bury-requires c = λ has. c.loop.invariant.new c.in_ok-tag.tag
    (tag_above c.loop.last c.loop.self.rest.now (c.in_ok-tag.tag, c.tag.new.self.rest.now) c.in_ok-tag.ensures) has

pub loop-preserved : goal.loop-preserved
loop-preserved c =
    let tag = c.in_ok-tag.tag in
    let above = tag_above c.loop.last c.loop.self.rest.now (tag, c.tag.new.self.rest.now) c.in_ok-tag.ensures in
    record {
      read = rw c.in_ok-bury.ensures.ok (goes_on with_tombstone (λ tag. tag) tag_at c.loop.state c.args.count
          c.loop.counter c.loop.last c.loop.self.rest.now tag c.tag.new.self.rest.now
          (all c.args.state.now c.args.count c.args.self.now.rest.now)
          c.loop-test.true c.in_ok-tag.ensures c.loop.invariant.read);
      new = subst (λ (s : State). AreNewAbove (HasTombstone s) (Some c.in_ok-tag.tag)) (sym c.in_ok-bury.ensures.ok)
          (tombstones_new c.loop.state tag c.loop.last above c.loop.invariant.new);
    }

pub returns : goal.returns
returns c =
    is_done with_tombstone (λ tag. tag) tag_at c.loop.state c.args.count c.loop.counter c.loop.last
    c.loop.self.rest.now (all c.args.state.now c.args.count c.args.self.now.rest.now) c.loop-test.false
    c.loop.invariant.read
