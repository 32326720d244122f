-- What the tactics leave open of `make_room_at`.
use Rattle.std.proofs.Common.{◌≡◌, get_or, set, sym, ap, ◌∙◌, arith}
use Rattle.tile_work.specs.declared.work_table.row.TileRow.{TileRow}
use Rattle.tile_work.specs.{Along.HaveGrown, WorkTable.as_work, WorkTable.works_of}
use Rattle.tile_work.proofs.WorkTableHints.{read_again, works_stay, count_there, count_kept, ok_part}
use Rattle.tile_work.proofs.work_table.along.make_room_at.Goals.{After-reserve}
use Rattle.tile_work.proofs.work_table.along.make_room_at.Goals as goal

-- the row of the tile beyond, with the inbox that it has then
abbrev row_of : After-reserve → TileRow
row_of c = get_or c.args.rows.now c.args.beyond.tile c.index-rows-beyond.result

abbrev new_row : After-reserve → TileRow
new_row c = record (row_of c) { inbox = c.reserve.new.self }

works_same : (c : After-reserve)
    → works_of (set c.args.rows.now c.args.beyond.tile (new_row c)) ≡ works_of c.args.rows.now
works_same c =
    works_stay c.args.rows.now c.args.beyond.tile (row_of c) (new_row c) c.requires
    (read_again c.args.rows.now c.args.beyond.tile c.index-rows-beyond.result c.requires)
    (ap (λ hs. record (as_work (row_of c)) { inbox = hs }) c.reserve.ensures.hints)

grown : (c : After-reserve) → HaveGrown c.args.rows.now (set c.args.rows.now c.args.beyond.tile (new_row c))
grown c =
    let rows = c.args.rows.now in
    let tile = c.args.beyond.tile in
    let is = read_again rows tile c.index-rows-beyond.result c.requires in
    record {
      hints = count_kept rows tile (row_of c) (new_row c) c.requires is (λ (r : TileRow). r.inbox.room)
          c.reserve.ensures.room_grown;
      runs = count_kept rows tile (row_of c) (new_row c) c.requires is (λ (r : TileRow). r.inbox.runs)
          c.reserve.ensures.runs_grown;
    }

pub returns-then-is_err-clause-works : goal.returns-then-is_err-clause-works
returns-then-is_err-clause-works c = works_same (goal.at.returns-then-is_err-clause-works c).After-reserve

pub returns-then-is_err-clause-grown : goal.returns-then-is_err-clause-grown
returns-then-is_err-clause-grown c = grown (goal.at.returns-then-is_err-clause-grown c).After-reserve

pub returns-clause-works : goal.returns-clause-works
returns-clause-works c = works_same (goal.at.returns-clause-works c).After-reserve

pub returns-clause-room : goal.returns-clause-room
returns-clause-room c =
    let here = (goal.at.returns-clause-room c).After-reserve in
    let rows = c.args.rows.now in
    let tile = c.args.beyond.tile in
    let is = read_again rows tile c.index-rows-beyond.result c.requires in
    let no_error = sym c.is_err.ensures.value ∙ c.if-is_err.false in
    let hints = ok_part c.reserve.result _ no_error c.reserve.ensures.room in
    let runs = ok_part c.reserve.result _ no_error c.reserve.ensures.runs in
    let hints_there = count_there rows tile (row_of here) (new_row here) c.requires is (λ (r : TileRow).
    r.inbox.room) in
    let runs_there = count_there rows tile (row_of here) (new_row here) c.requires is (λ (r : TileRow).
    r.inbox.runs) in
    record {
      hints = λ some. omega (arith, hints, hints_there);
      runs = λ some. omega (arith, runs, runs_there);
    }

pub returns-clause-grown : goal.returns-clause-grown
returns-clause-grown c = grown (goal.at.returns-clause-grown c).After-reserve
