-- What the tactics leave open of `tell`.
use Rattle.std.proofs.Common.{◌≡◌, ◌<◌, Bool, List, get_or, set, refl, sym, ap, ◌∙◌, arith}
use Rattle.tile_work.specs.{declared.work_table.row.TileRow.TileRow, Along.IsTold, WorkTable.is_some_hint}
use Rattle.tile_work.proofs.{Along.told_now, WorkTableHints.count_before, WorkTableHints.in_waiting_bits}
use Rattle.tile_work.proofs.WorkTableHints.{read_again}
use Rattle.tile_work.proofs.WorkTables.{there_is_some_hint}
use Rattle.tile_work.proofs.work_table.along.tell.Goals.{After-push_along}
use Rattle.tile_work.proofs.work_table.along.tell.Goals as goal

pub push_along-requires-clause-hints : goal.push_along-requires-clause-hints
push_along-requires-clause-hints c =
    let rows = c.args.rows.now in
    let tile = c.args.beyond.tile in
    let row = get_or rows tile c.index-rows-beyond.result in
    let there = count_before rows tile row row c.requires.within
    (read_again rows tile c.index-rows-beyond.result c.requires.within) (λ (r : TileRow). r.inbox.room) in
    let some : 0 < c.args.beyond.count = omega arith in
    let room = c.requires.room.hints some in
    omega (arith, there, room)

pub push_along-requires-clause-runs : goal.push_along-requires-clause-runs
push_along-requires-clause-runs c =
    let rows = c.args.rows.now in
    let tile = c.args.beyond.tile in
    let row = get_or rows tile c.index-rows-beyond.result in
    let there = count_before rows tile row row c.requires.within
    (read_again rows tile c.index-rows-beyond.result c.requires.within) (λ (r : TileRow). r.inbox.runs) in
    let some : 0 < c.args.beyond.count = omega arith in
    let room = c.requires.room.runs some in
    omega (arith, there, room)

pub remove-requires : goal.remove-requires
remove-requires c =
    in_waiting_bits c.args.waiting.now c.args.rows.now c.args.beyond.tile c.requires.waiting c.requires.within

pub insert-requires : goal.insert-requires
insert-requires c =
    in_waiting_bits c.args.waiting.now c.args.rows.now c.args.beyond.tile c.requires.waiting c.requires.within

-- the row has the hints, and the set says whether some wait there
told : (c : After-push_along) (waits : List Bool)
    → waits ≡ set c.args.waiting.now c.args.beyond.tile (is_some_hint c.push_along.new.self.inbox.hints)
    → IsTold c.args.from c.args.generation c.args.side.now c.args.beyond c.args.rows.now
    (set c.args.rows.now c.args.beyond.tile c.push_along.new.self) waits
told c waits waits_are =
    let rows = c.args.rows.now in
    let tile = c.args.beyond.tile in
    let row = get_or rows tile c.index-rows-beyond.result in
    let some : 0 < c.args.beyond.count = omega arith in
    told_now rows tile row c.push_along.new.self c.requires.within
    (read_again rows tile c.index-rows-beyond.result c.requires.within) c.push_along.ensures.row c.args.from
    c.args.generation c.args.side.now c.args.beyond c.args.waiting.now waits refl some c.push_along.ensures.came
    c.requires.waiting waits_are

pub returns-then-push_along : goal.returns-then-push_along
returns-then-push_along c =
    let none = c.push_along.ensures.empty.0 c.if-push_along.true in
    told (goal.at.returns-then-push_along c).After-push_along c.remove.new.self
    (c.remove.ensures ∙ ap (λ hs. set c.args.waiting.now c.args.beyond.tile (is_some_hint hs)) (sym none))

pub returns-else-push_along : goal.returns-else-push_along
returns-else-push_along c =
    let some = there_is_some_hint c.push_along.new.self.inbox.hints
    (λ none.
    let yes = c.push_along.ensures.empty.1 none in
    let no = c.if-push_along.false in
    absurd cc) in
    told (goal.at.returns-else-push_along c).After-push_along c.insert.new.self
    (c.insert.ensures ∙ ap (set c.args.waiting.now c.args.beyond.tile) (sym some))
