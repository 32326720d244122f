-- What the tactics leave open of `join_around`.
use Rattle.std.proofs.Common.{◌≡◌, ◌<◌, List, length, ap, subst, sym, ◌∙◌, arith}
use Rattle.std.proofs.lemmas.Result.{err_from_is_err_and}
use Rattle.std.specs.Arc.{arc_value}
use Rattle.grid_core.specs.{Raster.Raster, Tiles.Tiles, Tiles.count_of}
use Rattle.border_queues.specs.declared.hint.Hint.{Hint}
use Rattle.tile_generations.specs.{declared.ticket.Ticket.Ticket, Jobs.Swept, Rims.IsRimOf, Rims.Rim}
use Rattle.core_rules.specs.{Invariant.IsSound, Sweeps.IsKnown, Sweeps.tile_rect, Work.Core, Work.IsTile}
use Rattle.core_rules.specs.Work as work
use Rattle.reset_core.specs.Sweeping.{AreHintsOnceJoined}
use Rattle.reset_core.proofs.Sweeping.{tiling_is}
use Rattle.std.proofs.lemmas.Grind.{common_steps}
use Rattle.tiled_image.specs.{Raising.IsBelowInside, Raising.RaisesAs, Shown.value_in, Sides.HasSides}
use Rattle.tiled_image.proofs.Sides.{rim_sides}
use Rattle.tiled_core.specs.Stored.{parts_of}
use Rattle.tiled_core.proofs.JoinedTiles.{tile_is_joined, tile_is_stored}
use Rattle.tiled_core.proofs.StoredCore.{is_kept_tile, of_kept_at}
use Rattle.tiled_core.proofs.replica.TiledCore.join_around.Goals as goal
use Rattle.tiled_core.proofs.replica.TiledCore.join_around.Goals.{After-as_slice}

-- ---- hints

-- the hints, by the image that raises the tile, of a core that lent its inbox
told_once : (core lent : Core) (swept : Swept) (part : Raster) (rim : Rim) (told : List Hint) → lent ≡ core
    → ((r : Raster) → IsRimOf r rim → RaisesAs (tile_rect lent swept.job.ticket.tile) lent.image swept.pixels r
    → AreHintsOnceJoined lent swept told)
    → IsRimOf part rim → RaisesAs (tile_rect core swept.job.ticket.tile) core.image swept.pixels part
    → AreHintsOnceJoined core swept told
told_once core lent swept part rim told same once is_rim raises =
    subst (λ (k : Core). RaisesAs (tile_rect k swept.job.ticket.tile) k.image swept.pixels part
    → AreHintsOnceJoined k swept told) same (once part is_rim) raises

pub hints_once_joined-requires-clause-known : goal.hints_once_joined-requires-clause-known
hints_once_joined-requires-clause-known c =
    subst (λ (k : Core). IsKnown k c.args.swept.now.job) (sym c.empty_inbox-inbox.ensures.same)
    c.requires.joinable.known

pub hints_once_joined-requires-clause-rim : goal.hints_once_joined-requires-clause-rim
hints_once_joined-requires-clause-rim c =
    subst (λ (k : Core). HasSides (tile_rect k c.args.swept.now.job.ticket.tile) c.args.rim.now)
    (sym c.empty_inbox-inbox.ensures.same)
    (rim_sides (tile_rect c.args.self.now c.args.swept.now.job.ticket.tile) (arc_value c.args.part) c.args.rim.now
    c.requires.raising.of_part c.requires.raising.raises.width c.requires.raising.raises.height)

pub hints_once_joined-requires-clause-empty : goal.hints_once_joined-requires-clause-empty
hints_once_joined-requires-clause-empty c = c.empty_inbox-inbox.ensures.empty

pub returns-in_err-hints-clause-joined : goal.returns-in_err-hints-clause-joined
returns-in_err-hints-clause-joined c =
    let p = err_from_is_err_and c.from_residual.result c.from_residual.ensures.1 in
    rw p.1 tt

pub returns-in_err-hints-clause-err : goal.returns-in_err-hints-clause-err
returns-in_err-hints-clause-err c =
    let p = err_from_is_err_and c.from_residual.result c.from_residual.ensures.1 in
    rw p.1 (c.hints_once_joined.ensures.same ∙ c.empty_inbox-inbox.ensures.same)

-- they are those once the swept tile is joined
told : (c : After-as_slice) → AreHintsOnceJoined c.args.self.now c.args.swept.now c.as_slice.result.now
told c =
    subst (AreHintsOnceJoined c.args.self.now c.args.swept.now) (sym c.as_slice.ensures)
    (told_once c.args.self.now c.empty_inbox-inbox.new.self c.args.swept.now (arc_value c.args.part) c.args.rim.now
    c.in_ok-hints.hints.hints c.empty_inbox-inbox.ensures.same c.in_ok-hints.ensures.told c.requires.raising.of_part
    c.requires.raising.raises)

pub receive-requires-clause-touching : goal.receive-requires-clause-touching
receive-requires-clause-touching c =
    let view = c.self.view_is ∙ c.hints_once_joined.ensures.same ∙ c.empty_inbox-inbox.ensures.same in
    let tile_is = ap (λ (k : Ticket). k.tile) c.ticket-tile.ensures in
    let tiling = c.tiling-tiling.ensures in
    let tiles =
    tiling_is (parts_of c.self.inside) c.args.self.now c.tiling-tiling.result view tiling.value tiling.width
    tiling.height in
    rw (tile_is, tiles) (told c).touching

pub receive-requires-clause-from : goal.receive-requires-clause-from
receive-requires-clause-from c =
    let parts = parts_of c.self.inside in
    let core = c.args.self.now in
    let view = c.self.view_is ∙ c.hints_once_joined.ensures.same ∙ c.empty_inbox-inbox.ensures.same in
    let tile_is = ap (λ (k : Ticket). k.tile) c.ticket-tile.ensures in
    let tiling = c.tiling-tiling.ensures in
    let tiles = tiling_is parts core c.tiling-tiling.result view tiling.value tiling.width tiling.height in
    let sound = subst IsSound view c.self.invariant.stored.sound in
    let within : c.args.swept.now.job.ticket.tile < count_of (work.tiling core) =
    omega (arith, c.requires.joinable.known.is_tile, sound.shape.tiles) in
    subst (λ (ts : Tiles). c.ticket-tile.result.tile < count_of ts) (sym tiles)
    (subst (λ n. n < count_of (work.tiling core)) (sym tile_is) within)

pub receive-requires-clause-tiles : goal.receive-requires-clause-tiles
receive-requires-clause-tiles c = grind (arith, common_steps)

-- where there was no room for the hints, the core stays as it was
pub invariant_of-self : goal.invariant_of-self
invariant_of-self c = rw c.in_err-receive.ensures.err c.self.invariant

pub returns-in_err-receive-clause-joined : goal.returns-in_err-receive-clause-joined
returns-in_err-receive-clause-joined c =
    let p = err_from_is_err_and c.from_residual-in_err-receive.result c.from_residual-in_err-receive.ensures.1 in
    rw p.1 tt

pub returns-in_err-receive-clause-err : goal.returns-in_err-receive-clause-err
returns-in_err-receive-clause-err c =
    let p = err_from_is_err_and c.from_residual-in_err-receive.result c.from_residual-in_err-receive.ensures.1 in
    rw (p.1, c.in_err-receive.ensures.err)
    (c.self.view_is ∙ c.hints_once_joined.ensures.same ∙ c.empty_inbox-inbox.ensures.same)

-- ---- what is put in

pub raise-requires-clause-tile : goal.raise-requires-clause-tile
raise-requires-clause-tile c =
    let core = c.args.self.now in
    let view = c.self.view_is ∙ c.hints_once_joined.ensures.same ∙ c.empty_inbox-inbox.ensures.same in
    let tile_is = ap (λ (k : Ticket). k.tile) c.ticket-tile.ensures in
    is_kept_tile c.self.inside core view c.self.invariant c.ticket-tile.result.tile
    (subst (IsTile core) (sym tile_is) c.requires.joinable.known.is_tile)

pub raise-requires-clause-width : goal.raise-requires-clause-width
raise-requires-clause-width c =
    let view = c.self.view_is ∙ c.hints_once_joined.ensures.same ∙ c.empty_inbox-inbox.ensures.same in
    let part = arc_value c.args.part in
    of_kept_at c.self.inside c.args.self.now view c.self.invariant (λ rect whole. part.width ≡ rect.w)
    c.args.swept.now.job.ticket.tile c.ticket-tile.result.tile (ap (λ (k : Ticket). k.tile) c.ticket-tile.ensures)
    c.requires.raising.raises.width

pub raise-requires-clause-height : goal.raise-requires-clause-height
raise-requires-clause-height c =
    let view = c.self.view_is ∙ c.hints_once_joined.ensures.same ∙ c.empty_inbox-inbox.ensures.same in
    let part = arc_value c.args.part in
    of_kept_at c.self.inside c.args.self.now view c.self.invariant (λ rect whole. part.height ≡ rect.h)
    c.args.swept.now.job.ticket.tile c.ticket-tile.result.tile (ap (λ (k : Ticket). k.tile) c.ticket-tile.ensures)
    c.requires.raising.raises.height

pub raise-requires-clause-inside : goal.raise-requires-clause-inside
raise-requires-clause-inside c =
    let view = c.self.view_is ∙ c.hints_once_joined.ensures.same ∙ c.empty_inbox-inbox.ensures.same in
    let part = arc_value c.args.part in
    of_kept_at c.self.inside c.args.self.now view c.self.invariant
    (λ rect whole. IsBelowInside rect whole (value_in rect part)) c.args.swept.now.job.ticket.tile
    c.ticket-tile.result.tile (ap (λ (k : Ticket). k.tile) c.ticket-tile.ensures) c.requires.raising.inside

pub set-requires : goal.set-requires
set-requires c =
    let view = c.self.view_is ∙ c.hints_once_joined.ensures.same ∙ c.empty_inbox-inbox.ensures.same in
    omega (
      arith,
      c.requires.joinable.known.is_tile,
      ap (λ (k : Ticket). k.tile) c.ticket-tile.ensures,
      ap (λ (k : Core). length k.tiles) view,
      c.self.invariant.stored.sound.shape.tiles,
      c.self.invariant.stored.bounded.count,
    )

pub end_job-requires : goal.end_job-requires
end_job-requires c =
    let view = c.self.view_is ∙ c.hints_once_joined.ensures.same ∙ c.empty_inbox-inbox.ensures.same in
    omega (
      arith,
      c.requires.joinable.known.is_tile,
      ap (λ (k : Ticket). k.tile) c.ticket-tile.ensures,
      ap (λ (k : Core). length k.tiles) view,
      c.in_ok-receive.ensures.ok.count,
    )

-- ---- what is joined

pub invariant_of-self-2 : goal.invariant_of-self-2
invariant_of-self-2 c =
    let tiled = c.self.inside in
    let core = c.args.self.now in
    let view = c.self.view_is ∙ c.hints_once_joined.ensures.same ∙ c.empty_inbox-inbox.ensures.same in
    let tile_is = ap (λ (k : Ticket). k.tile) c.ticket-tile.ensures in
    let tiling = c.tiling-tiling.ensures in
    let tiles = tiling_is (parts_of tiled) core c.tiling-tiling.result view tiling.value tiling.width tiling.height in
    rw c.set.ensures (record {
      stored =
          tile_is_stored tiled core c.args.swept.now c.tiling-tiling.result c.ticket-tile.result.tile
          (arc_value c.args.part) c.raise.new.self.image c.args.rim.now c.args.above c.receive.new.self
          c.keep_inbox.new.self c.as_slice.result.now view c.self.invariant tiles tile_is c.requires.joinable
          c.requires.raising c.raise.ensures.joined (told (goal.at.invariant_of-self-2 c).After-as_slice)
          c.in_ok-receive.ensures.ok (c.keep_inbox.ensures ∙ c.end_job.ensures) c.give_back_keeps_sound.ensures
          c.edges_are_open.ensures;
      tiling = c.raise.ensures.tiling ∙ c.self.invariant.tiling;
      beside = c.leave.ensures ∙ c.self.invariant.beside;
      room = c.self.invariant.room;
      mask_rims = c.self.invariant.mask_rims;
      limits_room = c.self.invariant.limits_room;
      states = c.self.invariant.states;
    })

pub returns-clause-joined : goal.returns-clause-joined
returns-clause-joined c =
    let tiled = c.self.inside in
    let core = c.args.self.now in
    let view = c.self.view_is ∙ c.hints_once_joined.ensures.same ∙ c.empty_inbox-inbox.ensures.same in
    let tile_is = ap (λ (k : Ticket). k.tile) c.ticket-tile.ensures in
    let tiling = c.tiling-tiling.ensures in
    let tiles = tiling_is (parts_of tiled) core c.tiling-tiling.result view tiling.value tiling.width tiling.height in
    tile_is_joined tiled core c.args.swept.now c.tiling-tiling.result c.ticket-tile.result.tile
    (arc_value c.args.part) c.raise.new.self.image c.args.rim.now c.args.above c.receive.new.self
    c.keep_inbox.new.self c.as_slice.result.now view c.self.invariant tiles tile_is c.requires.joinable
    c.requires.raising c.raise.ensures.joined (told (goal.at.returns-clause-joined c).After-as_slice)
    c.in_ok-receive.ensures.ok (c.keep_inbox.ensures ∙ c.end_job.ensures)
