-- What the tactics leave open of `make_room`.
use Rattle.std.proofs.Common.{◌≡◌, ◌<◌, ◌≤◌, get_or, length, sym, ap, ◌∙◌, below_more, arith, slice_index}
use Rattle.tile_work.specs.{declared.work_table.row.TileRow.TileRow, WorkTable.as_work, WorkTable.room_of}
use Rattle.tile_work.proofs.WorkTableHints.{read_again, works_stay, count_there, count_kept, ok_part}
use Rattle.tile_work.proofs.work_table.delivery.make_room.Goals as goal

pub loop-place-preserved : goal.loop-place-preserved
loop-place-preserved c =
    let rows = c.loop-place.rows in
    let t = slice_index c.args.tiles.now c.loop-place.place in
    let row = get_or rows t c.index-rows-tile.result in
    let new : TileRow = record row { inbox = c.reserve.new.self } in
    let in_tiles = c.loop-place-test.true in
    let at = c.requires.tiles c.loop-place.place 0 in_tiles in
    let count = c.loop-place.auto.rows in
    let within : t < length rows = omega (arith, at, count) in
    let is = read_again rows t c.index-rows-tile.result within in
    let same : as_work new ≡ as_work row = ap (λ hs. record (as_work row) { inbox = hs }) c.reserve.ensures.hints in
    let grown : room_of row ≤ room_of new = omega (arith, c.reserve.ensures.room_grown, c.reserve.ensures.runs_grown) in
    record {
      works = works_stay rows t row new within is same ∙ c.loop-place.invariant.works;
      room =
          below_more _ _
          (λ k h.
          let before = c.loop-place.invariant.room k h in
          let kept = count_kept rows t row new within is room_of grown (slice_index c.args.tiles.now k) in
          omega (arith, before, kept))
          (let there = count_there rows t row new within is room_of in
          let no_error = sym c.is_err.ensures.value ∙ c.if-is_err.false in
          let hints = ok_part c.reserve.result _ no_error c.reserve.ensures.room in
          let runs = ok_part c.reserve.result _ no_error c.reserve.ensures.runs in
          omega (arith, there, hints, runs));
    }

pub returns-then-is_err-clause-works : goal.returns-then-is_err-clause-works
returns-then-is_err-clause-works c =
    let rows = c.loop-place.rows in
    let t = slice_index c.args.tiles.now c.loop-place.place in
    let row = get_or rows t c.index-rows-tile.result in
    let new : TileRow = record row { inbox = c.reserve.new.self } in
    let at = c.requires.tiles c.loop-place.place 0 c.loop-place-test.true in
    let count = c.loop-place.auto.rows in
    let within : t < length rows = omega (arith, at, count) in
    works_stay rows t row new within (read_again rows t c.index-rows-tile.result within)
    (ap (λ hs. record (as_work row) { inbox = hs }) c.reserve.ensures.hints)
    ∙ c.loop-place.invariant.works
