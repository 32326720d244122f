-- What the tactics leave open of `receive_along`.
use Rattle.std.proofs.Common.{List, ◌≡◌, ◌++◌, ℕ, length, take, drop, subst, sym, ◌∙◌, ap}
use Rattle.std.proofs.{lemmas.List.length-map, lemmas.Result.err_from_is_err_and}
use Rattle.grid_core.specs.declared.conn.Conn.TheVariants.{Four}
use Rattle.grid_core.specs.Tiles.{count_of}
use Rattle.border_queues.specs.{OpenEdges.open_edges, OpenEdges.sender_by, TileWork.TileWork}
use Rattle.tile_work.specs.{declared.work_table.row.TileRow.TileRow, Along.AreWithin}
use Rattle.tile_work.specs.{Along.HaveRoomBeyond, WorkTable.as_work, WorkTable.waiting_bits}
use Rattle.tile_work.specs.WorkTable.{works_of, AreReceived, AreInStep}
use Rattle.tile_work.proofs.{Along.inboxes_in_step, WorkTableHints.written_back}
use Rattle.tile_work.proofs.BeyondSides.{all_apart, all_can_tell, all_within, are_telling, pairs_of, received_all}
use Rattle.tile_work.proofs.work_table.WorkTable.receive_along.Goals.{After-deref_mut-2}
use Rattle.tile_work.proofs.work_table.WorkTable.receive_along.Goals as goal

-- the rows with room for the hints, which hold the work that they had
rows_with_room : (c : After-deref_mut-2) → c.deref_mut-2.result.now ≡ c.make_room_beyond.new.rows
rows_with_room c =
    c.deref_mut-2.ensures.value
    ∙ written_back c.make_room_beyond.new.rows _ c.self.inside.rows.len
    (c.make_room_beyond.auto.rows ∙ c.deref_mut.ensures.len)

works_with_room : (c : After-deref_mut-2) → works_of c.deref_mut-2.result.now ≡ works_of c.self.inside.rows.items
works_with_room c =
    ap works_of (rows_with_room c) ∙ c.make_room_beyond.ensures.works ∙ ap works_of c.deref_mut.ensures.value

pub make_room_beyond-requires : goal.make_room_beyond-requires
make_room_beyond-requires c =
    let count : length c.deref_mut.result.now ≡ count_of c.args.tiling.now =
    ap length c.deref_mut.ensures.value ∙ sym (length-map c.self.inside.rows.items as_work) ∙ ap length c.self.view_is
    ∙ c.requires.tiles in
    subst (λ n. AreWithin n c.beyond_sides-beyond.result) (sym count)
    (all_within c.beyond_sides-beyond.ensures.beyond)

pub returns-in_err-make_room_beyond-clause-ok : goal.returns-in_err-make_room_beyond-clause-ok
returns-in_err-make_room_beyond-clause-ok c = λ image mask are_sides.
    let p = err_from_is_err_and c.from_residual.result c.from_residual.ensures.1 in
    rw p.1 tt

pub returns-in_err-make_room_beyond-clause-err : goal.returns-in_err-make_room_beyond-clause-err
returns-in_err-make_room_beyond-clause-err c =
    let p = err_from_is_err_and c.from_residual.result c.from_residual.ensures.1 in
    rw p.1
    (ap works_of (written_back c.make_room_beyond.new.rows _ c.self.inside.rows.len
    (c.make_room_beyond.auto.rows ∙ c.deref_mut.ensures.len))
    ∙ c.make_room_beyond.ensures.works ∙ ap works_of c.deref_mut.ensures.value ∙ c.self.view_is)

-- where there was no room, the rows come back with the work that they had
pub invariant_of-self : goal.invariant_of-self
invariant_of-self c =
    let works : works_of c.make_room_beyond.new.rows ≡ works_of c.self.inside.rows.items =
    c.make_room_beyond.ensures.works ∙ ap works_of c.deref_mut.ensures.value in
    subst (λ (rs : List TileRow). AreInStep (works_of rs) c.self.inside.dirty c.self.inside.out c.self.inside.waiting)
    (sym (written_back c.make_room_beyond.new.rows _ c.self.inside.rows.len
    (c.make_room_beyond.auto.rows ∙ c.deref_mut.ensures.len)))
    (subst (λ (ws : List TileWork). AreInStep ws c.self.inside.dirty c.self.inside.out c.self.inside.waiting)
    (sym works) c.self.invariant)

pub deliver_beyond-requires-clause-within : goal.deliver_beyond-requires-clause-within
deliver_beyond-requires-clause-within c =
    let here = (goal.at.deliver_beyond-requires-clause-within c).After-deref_mut-2 in
    let count : length c.deref_mut-2.result.now ≡ count_of c.args.tiling.now =
    sym (length-map c.deref_mut-2.result.now as_work) ∙ ap length (works_with_room here) ∙ ap length c.self.view_is
    ∙ c.requires.tiles in
    subst (λ n. AreWithin n c.beyond_sides-beyond.result) (sym count)
    (all_within c.beyond_sides-beyond.ensures.beyond)

pub deliver_beyond-requires-clause-sides : goal.deliver_beyond-requires-clause-sides
deliver_beyond-requires-clause-sides c =
    all_can_tell c.args.tiling.now c.args.from c.args.sides.now c.beyond_sides-beyond.result
    c.beyond_sides-beyond.ensures.tiled c.requires.from c.beyond_sides-beyond.ensures.beyond c.requires.sides

pub deliver_beyond-requires-clause-apart : goal.deliver_beyond-requires-clause-apart
deliver_beyond-requires-clause-apart c =
    all_apart c.args.tiling.now c.args.from c.args.sides.now c.beyond_sides-beyond.result
    c.beyond_sides-beyond.ensures.tiled c.requires.from c.beyond_sides-beyond.ensures.beyond

pub deliver_beyond-requires-clause-room : goal.deliver_beyond-requires-clause-room
deliver_beyond-requires-clause-room c =
    let here = (goal.at.deliver_beyond-requires-clause-room c).After-deref_mut-2 in
    subst (λ (rs : List TileRow). HaveRoomBeyond rs c.beyond_sides-beyond.result) (sym (rows_with_room here))
    c.in_ok-make_room_beyond.ensures.room

pub deliver_beyond-requires-clause-waiting : goal.deliver_beyond-requires-clause-waiting
deliver_beyond-requires-clause-waiting c =
    let here = (goal.at.deliver_beyond-requires-clause-waiting c).After-deref_mut-2 in
    c.self.invariant.waiting_in_step ∙ ap waiting_bits (sym (works_with_room here))

pub invariant_of-self-2 : goal.invariant_of-self-2
invariant_of-self-2 c =
    let here = (goal.at.invariant_of-self-2 c).After-deref_mut-2 in
    let old : AreInStep (works_of c.deref_mut-2.result.now) c.self.inside.dirty c.self.inside.out
    c.self.inside.waiting =
    subst (λ (ws : List TileWork). AreInStep ws c.self.inside.dirty c.self.inside.out c.self.inside.waiting)
    (sym (works_with_room here)) c.self.invariant in
    subst (λ (rs : List TileRow). AreInStep (works_of rs) c.self.inside.dirty c.self.inside.out
    c.deliver_beyond.new.waiting)
    (sym (written_back c.deliver_beyond.new.rows _ c.self.inside.rows.len
    (c.deliver_beyond.auto.rows ∙ c.deref_mut-2.ensures.len)))
    (inboxes_in_step c.deliver_beyond.ensures.others c.self.inside.dirty c.self.inside.out c.self.inside.waiting
    c.deliver_beyond.new.waiting old c.deliver_beyond.ensures.waiting)

pub returns-clause-ok : goal.returns-clause-ok
returns-clause-ok c = λ image mask are_sides.
    let here = (goal.at.returns-clause-ok c).After-deref_mut-2 in
    let tiles = c.args.tiling.now in
    let generation = c.generation-generation.result in
    let telling = are_telling tiles c.args.from c.args.sides.now c.beyond_sides-beyond.result
    c.beyond_sides-beyond.ensures.tiled c.requires.from c.beyond_sides-beyond.ensures.beyond image mask generation
    are_sides in
    let came = c.deliver_beyond.ensures.came (sender_by tiles Four mask image c.args.from generation)
    (pairs_of tiles c.args.from) telling in
    let all : AreReceived tiles (open_edges (sender_by tiles Four mask image c.args.from generation))
    (works_of c.deref_mut-2.result.now) (works_of c.deliver_beyond.new.rows) =
    received_all tiles c.args.from c.args.sides.now c.beyond_sides-beyond.result c.beyond_sides-beyond.ensures.tiled
    c.requires.from c.beyond_sides-beyond.ensures.beyond image mask generation are_sides
    (works_of c.deref_mut-2.result.now) (works_of c.deliver_beyond.new.rows) came in
    subst (λ (n : ℕ). AreReceived tiles (open_edges (sender_by tiles Four mask image c.args.from n)) c.args.self.now
    (works_of (take c.self.inside.rows.len (c.deliver_beyond.new.rows ++ drop (length c.deliver_beyond.new.rows)
    (take c.self.inside.rows.len (c.make_room_beyond.new.rows
    ++ drop (length c.make_room_beyond.new.rows) c.self.inside.rows.items))))))
    c.generation-generation.ensures.value
    (subst (λ (rs : List TileRow). AreReceived tiles
    (open_edges (sender_by tiles Four mask image c.args.from generation)) c.args.self.now (works_of rs))
    (sym (written_back c.deliver_beyond.new.rows _ c.self.inside.rows.len
    (c.deliver_beyond.auto.rows ∙ c.deref_mut-2.ensures.len)))
    (subst (λ (ws : List TileWork). AreReceived tiles
    (open_edges (sender_by tiles Four mask image c.args.from generation)) ws (works_of c.deliver_beyond.new.rows))
    (works_with_room here ∙ c.self.view_is) all))
