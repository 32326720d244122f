use Rattle.std.proofs.Common.{arith}
use Rattle.std.proofs.{lemmas.Bool.le-ltb, lemmas.Bool.ltb-false}
use Rattle.live_board.proofs.Comparing.{flag_more, flag_told, none_above}
use Rattle.live_board.proofs.blocks.is_nowhere_above.Goals as goal

pub loop-place-init : goal.loop-place-init
loop-place-init c = none_above c.args.from c.args.ones.now c.args.others.now

pub loop-place-preserved : goal.loop-place-preserved
loop-place-preserved c =
    flag_more c.args.from c.loop-place.place c.args.ones.now c.args.others.now c.loop-place.is_above _
    c.loop-place.auto.place c.loop-place.invariant (ltb-false _ _, le-ltb _ _)

pub returns : goal.returns
returns c =
    flag_told c.args.from c.args.to c.loop-place.place c.args.ones.now c.args.others.now c.loop-place.is_above
    (omega (arith, c.loop-place-test.false, c.loop-place.auto.place-end, c.requires.0)) c.loop-place.invariant
