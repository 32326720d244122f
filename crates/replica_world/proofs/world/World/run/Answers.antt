use Rattle.std.proofs.Common.{arith}
use Rattle.replica_world.proofs.Events.{all_run, none_run, one_more_run, run_stops}
use Rattle.replica_world.proofs.world.World.run.Goals as goal

pub loop-i-init : goal.loop-i-init
loop-i-init c =
    let list = c.in-Ok.ensures in
    let empty = list.empty.1 in
    let room = list.room in (
      none_run c.args.self.now c.args.events.now c.in-Ok.refusals.items list.empty.0,
      omega (arith, empty),
      omega (arith, room),
    )

pub run_one-requires : goal.run_one-requires
run_one-requires c =
    let few = c.loop-i.invariant.1 in
    let room = c.loop-i.invariant.2 in
    omega (arith, few, room)

pub returns-in-Err-run_one-clause-stopped : goal.returns-in-Err-run_one-clause-stopped
returns-in-Err-run_one-clause-stopped c =
    let failed = c.in-Err-run_one in
    let kept = c.keep_steps-in-Err-run_one in
    run_stops c.args.self.now c.loop-i.self c.run_one.new.self kept.new.self c.args.events.now c.loop-i.i
    c.index-events-i.result failed.why c.loop-i.refusals.items c.loop-i.invariant.0 (omega arith)
    c.index-events-i.is failed.ensures.err.0 failed.ensures.err.1 kept.ensures

pub loop-i-preserved : goal.loop-i-preserved
loop-i-preserved c =
    let few = c.loop-i.invariant.1 in
    let room = c.loop-i.invariant.2 in
    let more = c.run_one.ensures.one_more in
    let places = c.run_one.ensures.room in (
      one_more_run c.args.self.now c.loop-i.self c.run_one.new.self c.args.events.now c.loop-i.i
          c.index-events-i.result c.loop-i.refusals.items c.run_one.new.refusals.items c.loop-i.invariant.0
          (omega arith) c.index-events-i.is c.in_default.ensures.next,
      omega (arith, few, more),
      omega (arith, room, places),
    )

pub returns-clause-ran : goal.returns-clause-ran
returns-clause-ran c = all_run c.args.self.now c.loop-i.self c.keep_steps-2.new.self c.args.events.now c.loop-i.i
    c.loop-i.refusals.items c.loop-i.invariant.0 c.loop-i-test.false c.keep_steps-2.ensures
