-- What the tactics leave open of `cut`.
use Rattle.std.proofs.Common.{◌≡◌, ℕ, ◌<◌, ◌≤◌, List, length, slice_range, sym, ap, subst, ◌∙◌}
use Rattle.std.proofs.lemmas.List.{length-map}
use Rattle.border_queues.specs.TileWork.{TileWork, work_of}
use Rattle.tile_generations.specs.Generations.{max_generation}
use Rattle.tile_work.specs.declared.work_table.row.TileRow.{TileRow}
use Rattle.tile_work.specs.Cutting.{AreOnlyMarked}
use Rattle.tile_work.specs.WorkTable.{as_work, works_of, dirty_bits, AreInStep}
use Rattle.tile_work.proofs.CuttingWork.{works_of_part, marked_part, bounded_part, marked_in_step}
use Rattle.tile_work.proofs.work_table.WorkTable.cut.Goals as goal

pub marked_rows-requires : goal.marked_rows-requires
marked_rows-requires c =
    let rows : List TileRow = slice_range c.deref.result.now c.args.first c.args.end in
    let works : List TileWork = slice_range c.args.self.now c.args.first c.args.end in
    let same : works_of rows ≡ works =
    works_of_part c.deref.result.now c.args.self.now c.args.first c.args.end
    (ap works_of c.deref.ensures.value ∙ c.self.view_is) in
    let count : length works ≡ length rows = sym (ap length same) ∙ length-map rows as_work in
    subst (λ n. AreOnlyMarked (works_of rows) 0 n) count
    (subst (λ (ws : List TileWork). AreOnlyMarked ws 0 (length works)) (sym same)
    (marked_part c.args.self.now c.args.first c.args.end c.requires.order c.requires.within c.requires.marks))

pub returns : goal.returns
returns c =
    c.in_ok-copies.ensures
    ∙ works_of_part c.deref.result.now c.args.self.now c.args.first c.args.end
    (ap works_of c.deref.ensures.value ∙ c.self.view_is)

pub invariant_of-result : goal.invariant_of-result
invariant_of-result c =
    let now = c.args.self.now in
    let first = c.args.first in
    let end = c.args.end in
    let rows : List TileRow = slice_range c.deref.result.now first end in
    let works : List TileWork = slice_range now first end in
    let same : works_of rows ≡ works =
    works_of_part c.deref.result.now now first end (ap works_of c.deref.ensures.value ∙ c.self.view_is) in
    let count : length rows ≡ length works = sym (length-map rows as_work) ∙ ap length same in
    let bounded = subst (λ (ws : List TileWork). (t : ℕ) → t < length ws
    → (work_of ws t).generation ≤ max_generation) c.self.view_is c.self.invariant.bounded in
    let step : AreInStep works c.in_ok-dirty.dirty c.in_ok-out.out c.in_ok-out.waiting =
    marked_in_step works (length rows) count
    (marked_part now first end c.requires.order c.requires.within c.requires.marks)
    (bounded_part now first end c.requires.order c.requires.within bounded) _ _ _
    (c.in_ok-dirty.ensures ∙ ap dirty_bits same) c.in_ok-out.ensures.0 c.in_ok-out.ensures.1 in
    subst (λ (ws : List TileWork). AreInStep ws c.in_ok-dirty.dirty c.in_ok-out.out
    c.in_ok-out.waiting) (sym (c.in_ok-copies.ensures ∙ same)) step
