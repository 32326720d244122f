use Rattle.std.proofs.Common.{◌∙◌, ◌<◌, List, get_or, take, sym, ap, subst, arith}
use Rattle.std.proofs.lemmas.List.Elements.{Contains-get_or}
use Rattle.grid_core.specs.{Tiles.count_of, declared.conn.Conn.TheVariants.Four}
use Rattle.grid_core.specs.{declared.bounds.Bounds.Bounds, Bounds.AreEmpty, Bounds.bounds_of, Bounds.intersection}
use Rattle.border_queues.specs.declared.hint.Hint.{Hint}
use Rattle.reset_core.specs.Telling.{ImageAndWork, AreHandedOver, both_on, hints_in, image_on}
use Rattle.reset_core.proofs.Bounding.{follow_same, follow_twice}
use Rattle.reset_core.proofs.TellingHands.{handed_next, none_handed, still_of_tiles}
use Rattle.reset_core.proofs.TellingNear.{none_near}
use Rattle.reset_core.proofs.replica.in_place.hand_over_in.Goals as goal

abbrev none : Hint
none = record { from = 0; from_generation = 0; to_pixel = record { x = 0; y = 0 }; value = 0 }

pub returns-then-is_empty-clause-handed : goal.returns-then-is_empty-clause-handed
returns-then-is_empty-clause-handed c =
    let a = c.args in
    let tiles = a.tiling.now in
    let parts = c.requires.tile.parts in
    let s : ImageAndWork = both_on tiles a.image.now a.work.now in
    let meet =
    c.intersection.ensures
    ∙ ap (λ (own : Bounds). intersection own a.near) (c.of.ensures ∙ ap bounds_of c.rect-rect.ensures.value) in
    let empty = subst AreEmpty meet (c.is_empty.ensures.0 c.if-is_empty.true) in
    let within : a.tile < count_of tiles = omega (arith, parts.count, c.requires.tile.within) in
    let none = none_near tiles a.hints.now a.near a.tile parts.tiled within c.requires.inside c.requires.near empty in
    subst (λ (hs : List Hint). AreHandedOver tiles hs s s) (sym none) (none_handed tiles s)

pub returns-then-is_empty-clause-bounds : goal.returns-then-is_empty-clause-bounds
returns-then-is_empty-clause-bounds c =
    λ conn. follow_same c.args.tiling.now conn (image_on c.args.tiling.now c.args.image.now) c.args.bounds.now

pub hand_over-requires-clause-inside : goal.hand_over-requires-clause-inside
hand_over-requires-clause-inside c =
    let i = c.loop-hint.hint-index in
    c.requires.inside (get_or c.args.hints.now i none) (Contains-get_or c.args.hints.now i none c.loop-hint-test.true)

pub loop-hint-init : goal.loop-hint-init
loop-hint-init c = record {
  handed = none_handed c.args.tiling.now (both_on c.args.tiling.now c.args.image.now c.args.work.now);
  bounds = λ conn. follow_same c.args.tiling.now conn (image_on c.args.tiling.now c.args.image.now) c.args.bounds.now;
}

pub loop-hint-preserved : goal.loop-hint-preserved
loop-hint-preserved c = record {
  handed =
      handed_next c.args.tiling.now c.args.hints.now c.args.tile c.loop-hint.hint-index none
      (both_on c.args.tiling.now c.args.image.now c.args.work.now)
      (both_on c.args.tiling.now c.loop-hint.image c.loop-hint.work)
      (both_on c.args.tiling.now c.hand_over.new.image c.hand_over.new.work) c.loop-hint-test.true
      c.loop-hint.invariant.handed c.hand_over.ensures.handed;
  bounds = λ conn.
      follow_twice c.args.tiling.now conn (image_on c.args.tiling.now c.args.image.now)
      (image_on c.args.tiling.now c.loop-hint.image) (image_on c.args.tiling.now c.hand_over.new.image)
      c.args.bounds.now
      c.loop-hint.bounds c.hand_over.new.bounds c.requires.tile.parts.tiled c.requires.bounds
      (c.loop-hint.invariant.bounds conn) (c.hand_over.ensures.bounds conn);
}

pub hand_over-requires-clause-rect : goal.hand_over-requires-clause-rect
hand_over-requires-clause-rect c =
    let i = c.loop-hint.hint-index in
    let hint = get_or c.args.hints.now i none in
    let inside = c.requires.inside hint (Contains-get_or c.args.hints.now i none c.loop-hint-test.true) in
    let within : c.args.tile < count_of c.args.tiling.now =
    omega (arith, c.requires.tile.parts.count, c.requires.tile.within) in
    let law = c.each_pixel_in_one_tile.ensures c.args.tiling.now hint.to_pixel c.requires.tile.parts.tiled inside in
    rw c.rect-rect.ensures.value (law.1 c.args.tile within)

pub hand_over-requires-clause-tile : goal.hand_over-requires-clause-tile
hand_over-requires-clause-tile c =
    let within = c.requires.tile.within in
    record {
      parts =
          still_of_tiles c.args.tiling.now
          (hints_in c.args.tiling.now (take c.loop-hint.hint-index c.args.hints.now) c.args.tile)
          c.args.image.now c.args.work.now c.loop-hint.image c.loop-hint.work c.loop-hint.invariant.handed
          c.requires.tile.parts;
      within = omega (arith, c.loop-hint.invariant.handed.count, within);
    }

pub hand_over-requires-clause-bounds : goal.hand_over-requires-clause-bounds
hand_over-requires-clause-bounds c = (c.loop-hint.invariant.bounds Four).widened.count ∙ c.requires.bounds
