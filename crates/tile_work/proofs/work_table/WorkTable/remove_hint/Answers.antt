-- What the tactics leave open of `remove_hint`.
use Rattle.std.proofs.Common.{ℕ, List, Bool, true, set, sym, ◌∙◌, ap, subst, length, ◌<◌, ◌≡◌, ◌≤◌, is_some, remove}
use Rattle.tile_generations.specs.Generations.{max_generation}
use Rattle.border_queues.specs.TileWork.{TileWork, work_of}
use Rattle.tile_work.specs.declared.work_table.row.TileRow.{TileRow}
use Rattle.tile_work.specs.WorkTable.{AreInStep, works_of, is_some_hint}
use Rattle.tile_work.proofs.WorkTables.{IsRowAt, row_bounded, row_changed, row_with_inbox, dirty_stays, out_stays}
use Rattle.tile_work.proofs.WorkTables.{in_waiting, waiting_stays, stays_in_step, is_some_hint_at}
use Rattle.tile_work.proofs.WorkTables.{there_is_some_hint, work_is}
use Rattle.tile_work.proofs.work_table.WorkTable.remove_hint.Goals.{After-remove_hint}
use Rattle.tile_work.proofs.work_table.WorkTable.remove_hint.Goals as goal

row_at : (c : After-remove_hint) → IsRowAt c.self.inside c.args.self.now c.args.tile c.index_mut.result.now
row_at c = record {
  view_is = c.self.view_is;
  in_table = c.requires.tile;
  row_is = c.index_mut.ensures.value;
  in_step = c.self.invariant;
}

-- the table keeps its sets of dirty tiles and of jobs that are out
in_step : (c : After-remove_hint) (waiting : List Bool)
    → waiting ≡ set c.self.inside.waiting c.args.tile (is_some_hint c.remove_hint.new.self.inbox.hints)
    → AreInStep (works_of (set c.self.inside.rows.items c.args.tile c.remove_hint.new.self)) c.self.inside.dirty
    c.self.inside.out waiting
in_step c waiting waiting_is =
    let at = row_at c in
    let new = c.remove_hint.new.self in
    let row = c.remove_hint.ensures.row in
    stays_in_step at new
    (subst (λ (n : ℕ). n ≤ max_generation) (sym (ap (λ (r : TileRow). r.generation) row)) (row_bounded at)) _ _ _
    (dirty_stays at ∙ ap (λ (r : TileRow). set c.self.inside.dirty c.args.tile r.dirty) (sym row))
    (out_stays at ∙ ap (λ (r : TileRow). set c.self.inside.out c.args.tile (is_some r.out)) (sym row)) waiting_is

hint_removed : (c : After-remove_hint) → works_of (set c.self.inside.rows.items c.args.tile c.remove_hint.new.self)
    ≡ set c.args.self.now c.args.tile
    (record (work_of c.args.self.now c.args.tile) {
      inbox = remove (work_of c.args.self.now c.args.tile).inbox c.args.place;
    })
hint_removed c =
    row_changed (row_at c) (λ w. record w { inbox = remove w.inbox c.args.place }) _
    (row_with_inbox c.index_mut.result.now c.remove_hint.new.self _ c.remove_hint.ensures.row
    c.remove_hint.ensures.hints)

pub remove-requires : goal.remove-requires
remove-requires c = in_waiting c.self.invariant c.self.view_is c.requires.tile

-- the hint was there
had_hint : (c : After-remove_hint) → is_some_hint c.index_mut.result.now.inbox.hints ≡ true
had_hint c =
    is_some_hint_at _ c.args.place
    (subst (λ (w : TileWork). c.args.place < length w.inbox) (sym (work_is (row_at c))) c.requires.place)

pub invariant_of-self : goal.invariant_of-self
invariant_of-self c =
    let none = c.remove_hint.ensures.empty.0 c.if-remove_hint.true in
    in_step (goal.at.invariant_of-self c).After-remove_hint c.remove.new.self
    (c.remove.ensures ∙ ap (λ hs. set c.self.inside.waiting c.args.tile (is_some_hint hs)) (sym none))

pub invariant_of-self-else-remove_hint : goal.invariant_of-self-else-remove_hint
invariant_of-self-else-remove_hint c =
    let here = (goal.at.invariant_of-self-else-remove_hint c).After-remove_hint in
    let some : is_some_hint c.remove_hint.new.self.inbox.hints ≡ true =
    there_is_some_hint _
    (λ none.
    let yes = c.remove_hint.ensures.empty.1 none in
    let no = c.if-remove_hint.false in
    absurd cc) in
    in_step here c.self.inside.waiting
    (waiting_stays (row_at here) ∙ ap (set c.self.inside.waiting c.args.tile) (had_hint here ∙ sym some))

pub returns-then-remove_hint : goal.returns-then-remove_hint
returns-then-remove_hint c = hint_removed (goal.at.returns-then-remove_hint c).After-remove_hint

pub returns-else-remove_hint : goal.returns-else-remove_hint
returns-else-remove_hint c = hint_removed (goal.at.returns-else-remove_hint c).After-remove_hint
