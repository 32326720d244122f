-- What the tactics leave open of `receive`.
use Rattle.std.proofs.Common.{List, ◌≡◌, ◌<◌, ◌≤◌, All, length, subst, sym, ◌∙◌, ap, slice_index}
use Rattle.std.proofs.{lemmas.List.length-map, lemmas.Result.err_from_is_err_and}
use Rattle.grid_core.specs.Tiles.{Tiles, count_of}
use Rattle.tile_work.specs.{Beside.AreCounted, declared.work_table.row.TileRow.TileRow}
use Rattle.tile_work.specs.WorkTable.{as_work, works_of, rooms_of, waiting_bits, IsToTouching, AreReceived, AreInStep}
use Rattle.border_queues.specs.TileWork.{hints_at, TileWork}
use Rattle.tile_work.proofs.{Coming.room_for_all, WorkTableHints.received_in_step, WorkTableHints.written_back}
use Rattle.tile_work.proofs.work_table.WorkTable.receive.Goals.{After-new-beside, After-count_hints-coming}
use Rattle.tile_work.proofs.work_table.WorkTable.receive.Goals.{After-deref_mut-2}
use Rattle.tile_work.proofs.work_table.WorkTable.receive.Goals as goal

-- the hints go to tiles that touch the one that was taken along
to_touching : (c : After-new-beside)
    → All (IsToTouching c.new-beside.result.tiling c.new-beside.result.tile) c.args.hints.now
to_touching c =
    subst (λ (tiles : Tiles). All (IsToTouching tiles c.new-beside.result.tile) c.args.hints.now)
    (sym c.new-beside.ensures.tiling)
    (subst (λ t. All (IsToTouching c.args.tiling.now t) c.args.hints.now) (sym c.new-beside.ensures.tile)
    c.requires.touching)

pub count_hints-coming-requires-clause-touching : goal.count_hints-coming-requires-clause-touching
count_hints-coming-requires-clause-touching c =
    to_touching (goal.at.count_hints-coming-requires-clause-touching c).After-new-beside

-- what was counted, in the tiling that was passed
counted : (c : After-count_hints-coming) → AreCounted c.args.tiling.now c.args.hints.now c.count_hints-coming.result
counted c =
    subst (λ (tiles : Tiles). AreCounted tiles c.args.hints.now c.count_hints-coming.result)
    c.new-beside.ensures.tiling c.count_hints-coming.ensures

pub make_room-requires-clause-few : goal.make_room-requires-clause-few
make_room-requires-clause-few c = (counted (goal.at.make_room-requires-clause-few c).After-count_hints-coming).places

pub make_room-requires-clause-tiles : goal.make_room-requires-clause-tiles
make_room-requires-clause-tiles c =
    let count : length c.deref_mut.result.now ≡ count_of c.args.tiling.now =
    ap length c.deref_mut.ensures.value ∙ sym (length-map c.self.inside.rows.items as_work) ∙ ap length c.self.view_is
    ∙ c.requires.tiles in
    subst (λ n. All (λ t. t < n) c.count_hints-coming.result.tiles) (sym count)
    (counted (goal.at.make_room-requires-clause-tiles c).After-count_hints-coming).within

-- where there was no room, the rows come back with the work that they had
pub invariant_of-self : goal.invariant_of-self
invariant_of-self c =
    let works : works_of c.make_room.new.rows ≡ works_of c.self.inside.rows.items =
    c.make_room.ensures.works ∙ ap works_of c.deref_mut.ensures.value in
    subst (λ (rs : List TileRow). AreInStep (works_of rs) c.self.inside.dirty c.self.inside.out c.self.inside.waiting)
    (sym (written_back c.make_room.new.rows _ c.self.inside.rows.len
    (c.make_room.auto.rows ∙ c.deref_mut.ensures.len)))
    (subst (λ (ws : List TileWork). AreInStep ws c.self.inside.dirty c.self.inside.out c.self.inside.waiting)
    (sym works) c.self.invariant)

pub returns-in_err-make_room-clause-ok : goal.returns-in_err-make_room-clause-ok
returns-in_err-make_room-clause-ok c =
    let p = err_from_is_err_and c.from_residual.result c.from_residual.ensures.1 in
    rw p.1 tt

pub returns-in_err-make_room-clause-err : goal.returns-in_err-make_room-clause-err
returns-in_err-make_room-clause-err c =
    let p = err_from_is_err_and c.from_residual.result c.from_residual.ensures.1 in
    rw p.1
    (ap works_of (written_back c.make_room.new.rows _ c.self.inside.rows.len
    (c.make_room.auto.rows ∙ c.deref_mut.ensures.len))
    ∙ c.make_room.ensures.works ∙ ap works_of c.deref_mut.ensures.value ∙ c.self.view_is)

-- the rows with room for the hints, which hold the work that they had
rows_with_room : (c : After-deref_mut-2) → c.deref_mut-2.result.now ≡ c.make_room.new.rows
rows_with_room c =
    c.deref_mut-2.ensures.value
    ∙ written_back c.make_room.new.rows _ c.self.inside.rows.len (c.make_room.auto.rows ∙ c.deref_mut.ensures.len)

works_with_room : (c : After-deref_mut-2) → works_of c.deref_mut-2.result.now ≡ works_of c.self.inside.rows.items
works_with_room c =
    ap works_of (rows_with_room c) ∙ c.make_room.ensures.works ∙ ap works_of c.deref_mut.ensures.value

count_with_room : (c : After-deref_mut-2) → length c.deref_mut-2.result.now ≡ count_of c.args.tiling.now
count_with_room c =
    sym (length-map c.deref_mut-2.result.now as_work) ∙ ap length (works_with_room c) ∙ ap length c.self.view_is
    ∙ c.requires.tiles

pub deliver-requires-clause-tiles : goal.deliver-requires-clause-tiles
deliver-requires-clause-tiles c =
    count_with_room (goal.at.deliver-requires-clause-tiles c).After-deref_mut-2
    ∙ ap count_of (sym c.new-beside.ensures.tiling)

pub deliver-requires-clause-touching : goal.deliver-requires-clause-touching
deliver-requires-clause-touching c = to_touching (goal.at.deliver-requires-clause-touching c).After-new-beside

pub deliver-requires-clause-room : goal.deliver-requires-clause-room
deliver-requires-clause-room c = λ t within.
    let here = (goal.at.deliver-requires-clause-room c).After-deref_mut-2 in
    subst (λ (rs : List TileRow). length (hints_at c.new-beside.result.tiling t c.args.hints.now)
    ≤ slice_index (rooms_of rs) t) (sym (rows_with_room here))
    (room_for_all c.count_hints-coming.ensures (rooms_of c.make_room.new.rows) c.in_ok-make_room.ensures.room t)

pub deliver-requires-clause-waiting : goal.deliver-requires-clause-waiting
deliver-requires-clause-waiting c =
    c.self.invariant.waiting_in_step
    ∙ ap waiting_bits (sym (works_with_room (goal.at.deliver-requires-clause-waiting c).After-deref_mut-2))

-- the hints came to the rows that the table had
came : (c : After-deref_mut-2) (rows : List TileRow)
    → AreReceived c.new-beside.result.tiling c.args.hints.now (works_of c.deref_mut-2.result.now) (works_of rows)
    → AreReceived c.args.tiling.now c.args.hints.now (works_of c.self.inside.rows.items) (works_of rows)
came c rows received =
    subst (λ (ws : List TileWork). AreReceived c.args.tiling.now c.args.hints.now ws (works_of rows))
    (works_with_room c)
    (subst (λ (tiles : Tiles). AreReceived tiles c.args.hints.now (works_of c.deref_mut-2.result.now) (works_of rows))
    c.new-beside.ensures.tiling received)

pub invariant_of-self-2 : goal.invariant_of-self-2
invariant_of-self-2 c =
    let here = (goal.at.invariant_of-self-2 c).After-deref_mut-2 in
    let step = received_in_step (came here c.deliver.new.rows c.deliver.ensures.works) c.self.inside.dirty
    c.self.inside.out c.self.inside.waiting c.deliver.new.waiting c.self.invariant c.deliver.ensures.waiting in
    subst (λ (rs : List TileRow). AreInStep (works_of rs) c.self.inside.dirty c.self.inside.out c.deliver.new.waiting)
    (sym (written_back c.deliver.new.rows _ c.self.inside.rows.len (c.deliver.auto.rows ∙ c.deref_mut-2.ensures.len)))
    step

pub returns-clause-ok : goal.returns-clause-ok
returns-clause-ok c =
    let here = (goal.at.returns-clause-ok c).After-deref_mut-2 in
    subst (λ (rs : List TileRow). AreReceived c.args.tiling.now c.args.hints.now c.args.self.now (works_of rs))
    (sym (written_back c.deliver.new.rows _ c.self.inside.rows.len (c.deliver.auto.rows ∙ c.deref_mut-2.ensures.len)))
    (subst (λ (ws : List TileWork). AreReceived c.args.tiling.now c.args.hints.now ws (works_of c.deliver.new.rows))
    c.self.view_is (came here c.deliver.new.rows c.deliver.ensures.works))
