use Rattle.std.proofs.Common.{◌<◌, arith, length}
use Rattle.core_dispatch.proofs.Pushing.{IsNextBelow, next_below, none_pushed, one_more_pushed}
use Rattle.core_dispatch.proofs.Pushing.{pushed_to_end}
use Rattle.core_dispatch.proofs.dispatcher.Dispatcher.push_jobs.Goals.{In-Some}
use Rattle.core_dispatch.proofs.dispatcher.Dispatcher.push_jobs.Goals as goal

pub loop-tile-init : goal.loop-tile-init
loop-tile-init c = none_pushed c.args.self.now

-- the tile that is next
is_next : (c : In-Some) → IsNextBelow c.in-Some.tile c.args.self.now c.loop-tile.pushed c.next_tile.new.self
is_next c =
    next_below c.loop-tile.from c.in-Some.tile c.args.self.now c.loop-tile.self c.next_tile.new.self c.loop-tile.pushed
    c.loop-tile.invariant c.in-Some.ensures

pub overflow_add-from : goal.overflow_add-from
overflow_add-from c =
    let next = is_next (goal.at.overflow_add-from c).In-Some in
    let tiles : c.in-Some.tile < length c.next_tile.new.self.books.core.tiles = next.least.0.1.is_tile in
    omega (arith, tiles, next.so_far.kept, c.tiles.type_inv, c.tiles.ensures)

pub loop-tile-smaller : goal.loop-tile-smaller
loop-tile-smaller c =
    let next = is_next (goal.at.loop-tile-smaller c).In-Some in
    let more =
    one_more_pushed next.from c.in-Some.tile c.args.self.now c.next_tile.new.self c.push_job-pushing.new.self
    c.loop-tile.pushed c.and-pushed.result c.push_job-pushing.result next.so_far next.least c.push_job-pushing.ensures
    c.and-pushed.ensures.jobs c.and-pushed.ensures.memory in
    let tiles : c.in-Some.tile < length c.next_tile.new.self.books.core.tiles = next.least.0.1.is_tile in
    omega (arith, tiles, more.kept, next.so_far.kept, c.loop-tile.invariant.kept)

pub loop-tile-preserved : goal.loop-tile-preserved
loop-tile-preserved c =
    let next = is_next (goal.at.loop-tile-preserved c).In-Some in
    one_more_pushed next.from c.in-Some.tile c.args.self.now c.next_tile.new.self c.push_job-pushing.new.self
    c.loop-tile.pushed c.and-pushed.result c.push_job-pushing.result next.so_far next.least c.push_job-pushing.ensures
    c.and-pushed.ensures.jobs c.and-pushed.ensures.memory

pub returns : goal.returns
returns c =
    pushed_to_end c.loop-tile.from c.args.self.now c.loop-tile.self c.next_tile.new.self c.loop-tile.pushed
    c.loop-tile.invariant c.in_default.ensures
