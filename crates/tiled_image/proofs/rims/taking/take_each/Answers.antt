-- What the tactics leave open of `take_each`.
use Rattle.std.proofs.Common.{◌≡◌, ◌+◌, ◌-◌, ◌*◌, ◌<◌, ◌≤◌, ℕ, List, length, ap, subst, sym, ◌∙◌, arith}
use Rattle.std.proofs.lemmas.{Bool.both_ways, Nat.mul-le}
use borrow.Rule.Slice.PartMut.{put_mid}
use Rattle.row_scans.proofs.Replacing.{IsReplaced}
use Rattle.tile_work.specs.TileSet.{Has}
use Rattle.tiled_image.specs.OwnRims.{ArePartTaken}
use Rattle.tiled_image.proofs.CopiedStrips.{part_long, part_replaced}
use Rattle.tiled_image.proofs.OwnRims.{HoldsBefore, all_part_taken, by_fours, none_more_taken, none_part_taken}
use Rattle.tiled_image.proofs.OwnRims.{one_more_taken, part_small}
use Rattle.tiled_image.proofs.rims.taking.take_each.Goals.{else-contains, then-contains}
use Rattle.tiled_image.proofs.rims.taking.take_each.Goals as goal

pub loop-n-init : goal.loop-n-init
loop-n-init c =
    none_part_taken (Has c.args.tiles.now) c.args.tiling.now c.args.image.now c.args.first c.args.count
    c.args.values.now

-- there is room for the rim of one tile more
room_within : (n count side room total : ℕ) → n < count → room ≡ side → total ≡ count * 4 * side
    → n * (4 * room) + 4 * room ≤ total
room_within n count side room total below room_is total_is =
    let rows : (n + 1) * (4 * side) ≤ count * (4 * side) =
    mul-le (n + 1) (4 * side) count (4 * side) (omega (arith, below)) (omega arith) in
    let last : n * (4 * room) + 4 * room ≡ n * (4 * side) + 4 * side = ap (λ k. n * (4 * k) + 4 * k) room_is in
    omega (arith, rows, last, total_is)

pub offset_bounds-values-start : goal.offset_bounds-values-start
offset_bounds-values-start c =
    let a = c.args in
    omega (
      arith,
      room_within c.loop-n.n a.count a.tiling.now.side c.side.result (length c.loop-n.values) c.loop-n-test.true
          c.side.ensures.value (c.loop-n.auto.values ∙ c.requires.room_is),
      c.loop-n.auto.values,
      c.requires.room_is,
      part_small a.tiling.now a.first a.count c.side.ensures.tiled c.requires.within,
    )

pub loop-n-preserved : goal.loop-n-preserved
loop-n-preserved c =
    let a = c.args in
    let n = c.loop-n.n in
    let mid = c.loop-n.values in
    let start = n * (4 * c.side.result) in
    let room = 4 * c.side.result in
    let fits : start + room ≤ length mid =
    room_within n a.count a.tiling.now.side c.side.result (length mid) c.loop-n-test.true c.side.ensures.value
    (c.loop-n.auto.values ∙ c.requires.room_is) in
    elim c.if-contains.branch [
      | then-contains w ↦
          let own = w.take_own.new.own in
          let new = put_mid start (start + room - start) mid own in
          let long : length own ≡ room = w.take_own.auto.own ∙ part_long mid start room fits in
          let start_is : start ≡ n * 4 * a.tiling.now.side =
          ap (λ k. n * (4 * k)) c.side.ensures.value ∙ by_fours n a.tiling.now.side in
          subst (λ (values : List ℕ). ArePartTaken (HoldsBefore (Has a.tiles.now) (a.first + (n + 1))) a.tiling.now
          a.image.now a.first a.count a.values.now values) (sym w.values-is)
          (one_more_taken (Has a.tiles.now) a.tiling.now a.image.now a.first n a.count a.values.now mid
          c.loop-n.invariant own new (
            omega (arith, c.requires.all, c.requires.within, c.loop-n-test.true),
            sym c.contains.ensures ∙ w.if-contains.true,
          )
          (subst (λ k. IsReplaced k own mid new) start_is (part_replaced start room own mid long fits))
          (long ∙ ap (λ k. 4 * k) c.side.ensures.value) c.side.ensures.tiled c.requires.within w.take_own.ensures)
      | else-contains w ↦
          subst (λ (values : List ℕ). ArePartTaken (HoldsBefore (Has a.tiles.now) (a.first + (n + 1))) a.tiling.now
          a.image.now a.first a.count a.values.now values) (sym w.values-is)
          (none_more_taken (Has a.tiles.now) a.tiling.now a.image.now a.first n a.count a.values.now mid
          c.loop-n.invariant
          (λ has. both_ways c.contains.result w.if-contains.false (c.contains.ensures ∙ has.1)))
    ]

pub returns : goal.returns
returns c =
    let a = c.args in
    let is : c.loop-n.n ≡ a.count = omega (arith, c.loop-n.auto.n-end, c.loop-n-test.false) in
    all_part_taken (Has a.tiles.now) a.tiling.now a.image.now a.first a.count a.values.now c.loop-n.values
    (subst (λ n. ArePartTaken (HoldsBefore (Has a.tiles.now) (a.first + n)) a.tiling.now a.image.now a.first a.count
    a.values.now c.loop-n.values) is c.loop-n.invariant)
