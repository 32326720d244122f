-- What the tactics leave open of `deliver_one`.
use Rattle.std.proofs.Common.{List, Bool, ◌≡◌, get_or, set, true, sym, ◌∙◌, arith}
use Rattle.tile_work.specs.WorkTable.{IsDelivered, room_of}
use Rattle.tile_work.proofs.WorkTableHints.{count_before, count_left, in_waiting_bits, read_again, row_received}
use Rattle.tile_work.proofs.WorkTableHints.{still_waiting, waiting_received}
use Rattle.tile_work.proofs.work_table.delivery.deliver_one.Goals.{After-push_hint}
use Rattle.tile_work.proofs.work_table.delivery.deliver_one.Goals as goal

pub push_hint-requires : goal.push_hint-requires
push_hint-requires c =
    let rows = c.args.rows.now in
    let tile = c.args.tile in
    let row = get_or rows tile c.index-rows-tile.result in
    let there = count_before rows tile row row c.requires.tile
    (read_again rows tile c.index-rows-tile.result c.requires.tile) room_of in
    omega (arith, there, c.requires.room)

pub contains-requires : goal.contains-requires
contains-requires c =
    in_waiting_bits c.args.waiting.now c.args.rows.now c.args.tile c.requires.waiting c.requires.tile

pub insert-requires : goal.insert-requires
insert-requires c =
    in_waiting_bits c.args.waiting.now c.args.rows.now c.args.tile c.requires.waiting c.requires.tile

-- the hint is in its row, and the set is as if the tile were put in
delivered : (c : After-push_hint) (waits : List Bool) → waits ≡ set c.args.waiting.now c.args.tile true
    → IsDelivered c.args.tile c.args.hint c.args.rows.now
    (set c.args.rows.now c.args.tile c.push_hint.new.self) waits
delivered c waits waits_are =
    let rows = c.args.rows.now in
    let tile = c.args.tile in
    let row = get_or rows tile c.index-rows-tile.result in
    let is = read_again rows tile c.index-rows-tile.result c.requires.tile in
    record {
      works =
          row_received rows tile row c.push_hint.new.self c.args.hint c.requires.tile is c.push_hint.ensures.row
          c.push_hint.ensures.hints;
      room = count_left rows tile row c.push_hint.new.self c.requires.tile is room_of 1 c.push_hint.ensures.room;
      waiting =
          waiting_received rows tile row c.push_hint.new.self c.args.hint c.requires.tile is c.push_hint.ensures.row
          c.push_hint.ensures.hints c.args.waiting.now waits c.requires.waiting waits_are;
    }

pub returns-then-not-contains : goal.returns-then-not-contains
returns-then-not-contains c =
    delivered (goal.at.returns-then-not-contains c).After-push_hint c.insert.new.self c.insert.ensures

pub returns-else-not-contains : goal.returns-else-not-contains
returns-else-not-contains c =
    delivered (goal.at.returns-else-not-contains c).After-push_hint c.args.waiting.now
    (still_waiting c.args.waiting.now c.args.tile (sym c.contains.ensures ∙ c.if-not-contains.false))
