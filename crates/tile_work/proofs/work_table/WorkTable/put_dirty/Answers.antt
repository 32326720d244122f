-- What the tactics leave open of `put_dirty`.
use Rattle.std.proofs.Common.{◌<◌, List, length, sym, ap, ◌∙◌, arith}
use Rattle.std.proofs.lemmas.List.{take_all}
use Rattle.border_queues.specs.TileWork.{TileWork}
use Rattle.tile_work.specs.Cutting.{with_part}
use Rattle.tile_work.proofs.{Parts.with_no_part, Parts.next_within, CuttingWork.one_more_put}
use Rattle.tile_work.proofs.work_table.WorkTable.put_dirty.Goals.{then-is_dirty, else-is_dirty}
use Rattle.tile_work.proofs.work_table.WorkTable.put_dirty.Goals as goal

pub overflow_add-tile : goal.overflow_add-tile
overflow_add-tile c = omega (arith, c.requires.within)

pub loop-place-init : goal.loop-place-init
loop-place-init c = sym (with_no_part c.args.self.now c.args.first)

pub loop-place-preserved : goal.loop-place-preserved
loop-place-preserved c =
    let here : c.loop-place.place < length c.args.band.now =
    omega (arith, c.loop-place-test.true, c.len-place-end.ensures) in
    let put = one_more_put c.args.self.now c.args.band.now c.loop-place.self c.args.first c.loop-place.place
    c.requires.within here c.requires.marks c.requires.band c.requires.generations c.loop-place.invariant in
    elim c.if-is_dirty.branch [
      | then-is_dirty w ↦
          w.self-is ∙ w.mark_dirty.ensures ∙ put _ (sym w.if-is_dirty.true ∙ c.is_dirty.ensures)
      | else-is_dirty w ↦
          w.self-is ∙ w.mark_clean.ensures ∙ put _ (sym w.if-is_dirty.false ∙ c.is_dirty.ensures)
    ]

pub mark_dirty-requires : goal.mark_dirty-requires
mark_dirty-requires c =
    next_within c.args.self.now c.args.band.now c.loop-place.self c.args.first c.loop-place.place c.requires.within
    (omega (arith, c.loop-place-test.true, c.len-place-end.ensures)) c.loop-place.invariant

pub mark_clean-requires : goal.mark_clean-requires
mark_clean-requires c =
    next_within c.args.self.now c.args.band.now c.loop-place.self c.args.first c.loop-place.place c.requires.within
    (omega (arith, c.loop-place-test.true, c.len-place-end.ensures)) c.loop-place.invariant

pub returns : goal.returns
returns c =
    c.loop-place.invariant
    ∙ ap (λ (part : List TileWork). with_part c.args.first part c.args.self.now)
    (take_all c.loop-place.place c.args.band.now (omega (arith, c.loop-place-test.false, c.len-place-end.ensures)))
