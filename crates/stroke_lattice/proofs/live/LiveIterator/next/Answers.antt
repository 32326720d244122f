use Rattle.std.proofs.Common.{length, not, sym, ap, ◌∙◌, arith, filter}
use Rattle.stroke_lattice.proofs.{Lists.filter_first, Walking.lives}
use Rattle.stroke_lattice.proofs.live.LiveIterator.next.Goals as goal

pub returns-then-not-contains-clause-steps : goal.returns-then-not-contains-clause-steps
returns-then-not-contains-clause-steps c =
    let live = lives c.loop-tag.self-inside.tombstones.now.keys in
    sym c.loop-tag.invariant ∙ ap (filter live) c.in-Some.ensures.steps
    ∙ filter_first live (c.in-Some.tag.now, c.in-Some.stroke.now) c.next.new.self
    (ap not (sym c.if-not-contains.ensures))

pub returns-then-not-contains-clause-goes : goal.returns-then-not-contains-clause-goes
returns-then-not-contains-clause-goes c =
    let steps = returns-then-not-contains-clause-steps c in
    record { on = λ _. (tt, tt, omega (arith, ap length steps)); keeps = tt; rests = λ _. tt }
