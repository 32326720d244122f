use Rattle.std.proofs.Common.{◌≡◌, ◌<◌, length, arith}
use Rattle.core_dispatch.specs.Pens.{end_number}
use Rattle.core_dispatch.proofs.Ends.{is_place, none_before, none_at_all}
use Rattle.core_dispatch.proofs.dispatcher.closing.place_of.Goals as goal

pub returns-then-number : goal.returns-then-number
returns-then-number c =
    let within : c.loop-place.place < length c.args.ends.now.items =
    omega (arith, c.loop-place-test.true, c.len-place-end.ensures) in
    let is : c.args.number ≡ end_number c.index.result.now = omega (arith, c.if-number.true, c.number.ensures) in
    is_place c.args.ends.now.items c.loop-place.place c.args.number c.index.result.now within c.index.ensures is

pub loop-place-preserved : goal.loop-place-preserved
loop-place-preserved c =
    let within : c.loop-place.place < length c.args.ends.now.items =
    omega (arith, c.loop-place-test.true, c.len-place-end.ensures) in
    none_before c.args.ends.now.items c.loop-place.place c.args.number c.index.result.now within c.index.ensures
    (λ is. c.if-number.false (omega (arith, is, c.number.ensures))) c.loop-place.invariant

pub returns : goal.returns
returns c =
    none_at_all c.args.ends.now.items c.args.number c.loop-place.place
    (omega (arith, c.loop-place-test.false, c.len-place-end.ensures)) c.loop-place.invariant
