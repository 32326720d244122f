-- What the tactics leave open of `deliver`.
use Rattle.std.proofs.Common.{◌<◌, ◌∙◌, subst, sym}
use Rattle.std.proofs.lemmas.List.{take_all}
use Rattle.tile_work.specs.WorkTable.{works_of, AreReceived}
use Rattle.tile_work.proofs.Coming.{is_near}
use Rattle.tile_work.proofs.WorkTableHints.{delivery_starts, delivery_goes_on, room_for_next}
use Rattle.tile_work.proofs.work_table.delivery.deliver.Goals as goal

pub loop-hint-init : goal.loop-hint-init
loop-hint-init c =
    delivery_starts c.args.beside.now.tiling c.args.hints.now c.args.rows.now c.args.waiting.now c.requires.room
    c.requires.waiting

pub tile_of-requires-clause-near : goal.tile_of-requires-clause-near
tile_of-requires-clause-near c = is_near (c.requires.touching c.loop-hint.hint-index _ c.loop-hint-test.true)

pub deliver_one-requires-clause-tile : goal.deliver_one-requires-clause-tile
deliver_one-requires-clause-tile c =
    subst (λ n. c.tile_of.result < n) (sym (c.loop-hint.auto.rows ∙ c.requires.tiles)) c.tile_of.ensures.within

pub deliver_one-requires-clause-room : goal.deliver_one-requires-clause-room
deliver_one-requires-clause-room c =
    room_for_next _ c.tile_of.result c.loop-hint-test.true c.tile_of.ensures.value c.loop-hint.invariant
    (subst (λ n. c.tile_of.result < n) (sym (c.loop-hint.auto.rows ∙ c.requires.tiles)) c.tile_of.ensures.within)

pub deliver_one-requires-clause-waiting : goal.deliver_one-requires-clause-waiting
deliver_one-requires-clause-waiting c = c.loop-hint.invariant.in_step

pub loop-hint-preserved : goal.loop-hint-preserved
loop-hint-preserved c =
    delivery_goes_on _ c.tile_of.result c.loop-hint-test.true c.tile_of.ensures.value c.loop-hint.invariant
    c.deliver_one.ensures

pub returns-clause-works : goal.returns-clause-works
returns-clause-works c =
    subst (λ hints. AreReceived c.args.beside.now.tiling hints (works_of c.args.rows.now) (works_of c.loop-hint.rows))
    (take_all c.loop-hint.hint-index c.args.hints.now c.loop-hint-test.false) c.loop-hint.invariant.came

pub returns-clause-waiting : goal.returns-clause-waiting
returns-clause-waiting c = c.loop-hint.invariant.in_step
