-- What the tactics leave open of `count_hints`.
use Rattle.std.proofs.Common.{◌≡◌, length, arith, subst}
use Rattle.tile_work.proofs.Coming.{IsCounting, is_near, none_counted, count_at_most, counting_goes_on, all_counted}
use Rattle.tile_work.proofs.work_table.delivery.count_hints.Goals as goal

pub loop-hint-init : goal.loop-hint-init
loop-hint-init c =
    none_counted c.args.beside.now.tiling c.args.beside.now.tile c.args.hints.now c.requires.beside.within

pub place_of-place-requires-clause-near : goal.place_of-place-requires-clause-near
place_of-place-requires-clause-near c = is_near (c.requires.touching c.loop-hint.hint-index _ c.loop-hint-test.true)

pub tile_of-requires-clause-near : goal.tile_of-requires-clause-near
tile_of-requires-clause-near c = is_near (c.requires.touching c.loop-hint.hint-index _ c.loop-hint-test.true)

pub overflow_add-counts : goal.overflow_add-counts
overflow_add-counts c =
    let most = count_at_most c.loop-hint.invariant c.place_of-place.result c.place_of-place.ensures.within in
    omega (arith, most)

pub loop-hint-preserved : goal.loop-hint-preserved
loop-hint-preserved c =
    counting_goes_on c.loop-hint.invariant _ c.loop-hint-test.true
    (c.requires.touching c.loop-hint.hint-index _ c.loop-hint-test.true) c.place_of-place.result c.tile_of.result
    c.place_of-place.ensures.within c.tile_of.ensures.value c.place_of-place.ensures.value c.tile_of.ensures.within

pub returns : goal.returns
returns c =
    let all : c.loop-hint.hint-index ≡ length c.args.hints.now = omega arith in
    all_counted
    (subst (λ i. IsCounting c.args.beside.now.tiling c.args.beside.now.tile c.args.hints.now i c.loop-hint.tiles
    c.loop-hint.counts) all c.loop-hint.invariant) c.requires.touching
