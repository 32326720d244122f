-- What the tactics leave open of `reset_marked`.
use Rattle.std.proofs.Common.{◌≡◌, refl, sym, subst, ◌∙◌, arith}
use Rattle.tile_work.specs.TileSet.{Has}
use Rattle.border_queues.specs.TileWork.{work_of}
use Rattle.tile_work.proofs.RenewingBounds.{none_within, resets_also, resets_of_some}
use Rattle.tile_work.proofs.RenewingResets.{IsMarkedBefore, all_before, last_or_before, reset_none, reset_alike}
use Rattle.tile_work.proofs.RenewingResets.{reset_behind_copies, reset_more, same_generation}
use Rattle.tile_work.proofs.renewing.reset.reset_marked.Goals as goal

pub copy_marked-requires-clause-size : goal.copy_marked-requires-clause-size
copy_marked-requires-clause-size c = record {
  width = c.requires.parts.image_is.width ∙ sym c.requires.parts.marker_is.width;
  height = c.requires.parts.image_is.height ∙ sym c.requires.parts.marker_is.height;
  filled = c.width.ensures.sized.filled;
}

pub loop-tile-init : goal.loop-tile-init
loop-tile-init c = (
  refl,
  reset_none c.args.tiling.now (IsMarkedBefore c.args.marks.now 0) c.args.marker.now c.copy_marked.new.image
      c.args.work.now (λ t marked. omega (arith, marked.1)),
  none_within (λ t marked. omega (arith, marked.1)),
)

pub reset_tile-requires-clause-unspent : goal.reset_tile-requires-clause-unspent
reset_tile-requires-clause-unspent c =
    let tile = c.in-Some.tile in
    let marks = c.args.marks.now in
    let first = c.in-Some.ensures in
    let same : (work_of c.loop-tile.work tile).generation ≡ (work_of c.args.work.now tile).generation =
    same_generation c.args.tiling.now (IsMarkedBefore marks c.loop-tile.from) c.args.marker.now
    c.copy_marked.new.image c.copy_marked.new.image c.args.work.now c.loop-tile.work tile c.loop-tile.invariant.1
    (omega (arith, first.has.0, c.requires.parts.count, c.requires.marks))
    (λ marked. omega (arith, marked.1, first.from)) in
    omega (arith, same, c.requires.unspent tile first.has)

pub loop-tile-preserved : goal.loop-tile-preserved
loop-tile-preserved c = (
  c.reset_tile.ensures.reset.count ∙ c.loop-tile.invariant.0,
  reset_more c.args.tiling.now c.args.marks.now c.loop-tile.from c.in-Some.tile c.args.marker.now
      c.copy_marked.new.image c.args.work.now c.loop-tile.work c.reset_tile.new.work c.loop-tile.invariant.0
      c.in-Some.ensures c.loop-tile.invariant.1 c.reset_tile.ensures.reset
      (λ p in_tile. c.copy_marked.ensures.within p in_tile.inside
      (subst (Has c.args.marks.now) (sym in_tile.tile) c.in-Some.ensures.has)),
  resets_also c.loop-tile.invariant.2 c.reset_tile.ensures.bounds
      (λ t marked. last_or_before c.args.marks.now c.loop-tile.from c.in-Some.tile t c.in-Some.ensures marked),
)

pub returns-clause-reset : goal.returns-clause-reset
returns-clause-reset c = record {
  size = c.copy_marked.ensures.size;
  count = c.loop-tile.invariant.0;
  each =
      let marks = c.args.marks.now in
      let from = c.loop-tile.from in
      let tiling = c.args.tiling.now in
      let image = c.copy_marked.new.image in
      reset_behind_copies tiling (Has marks) c.args.marker.now c.args.image.now image c.args.work.now
      c.loop-tile.work c.copy_marked.ensures
      (reset_alike tiling (IsMarkedBefore marks from) (Has marks) c.args.marker.now image image c.args.work.now
      c.loop-tile.work (λ t. (λ marked. marked.0, λ has. (has, all_before marks from t c.in_default.ensures has)))
      c.loop-tile.invariant.1);
}

pub returns-clause-bounds : goal.returns-clause-bounds
returns-clause-bounds c =
    resets_of_some c.loop-tile.invariant.2
    (λ t has. (has, all_before c.args.marks.now c.loop-tile.from t c.in_default.ensures has))
