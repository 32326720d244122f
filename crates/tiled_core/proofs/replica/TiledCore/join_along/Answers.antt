-- What the tactics leave open of `join_along`.
use Rattle.std.proofs.Common.{◌≡◌, List, length, ap, subst, sym, ◌∙◌, arith}
use Rattle.std.proofs.lemmas.Result.{err_from_is_err_and}
use Rattle.std.specs.Arc.{arc_value}
use Rattle.grid_core.specs.Tiles.{count_of}
use Rattle.border_queues.specs.declared.hint.Hint.{Hint}
use Rattle.tile_generations.specs.declared.ticket.Ticket.{Ticket}
use Rattle.tile_work.specs.WorkTable.{AreReceived}
use Rattle.core_rules.specs.{Sweeps.tile_rect, Work.Core, Work.IsTile}
use Rattle.reset_core.specs.Sweeping.{AreHintsOnceJoined}
use Rattle.tiled_image.specs.{Raising.IsBelowInside, Rims.room_of, Shown.value_in, Sides.HasSides}
use Rattle.tiled_image.proofs.Sides.{rim_sides}
use Rattle.tiled_core.proofs.JoinedTiles.{tile_is_joined, tile_is_stored}
use Rattle.tiled_core.proofs.StoredCore.{is_kept_tile, kept_sound, kept_tiling, of_kept_at}
use Rattle.tiled_core.proofs.ToldEdges.{told_along}
use Rattle.tiled_core.proofs.replica.TiledCore.join_along.Goals as goal
use Rattle.tiled_core.proofs.replica.TiledCore.join_along.Goals.{After-tiling-tiling}

-- ---- hints

pub tell_along-requires-clause-tile : goal.tell_along-requires-clause-tile
tell_along-requires-clause-tile c =
    is_kept_tile c.self.inside c.args.self.now c.self.view_is c.self.invariant c.ticket-tile.result.tile
    (subst (IsTile c.args.self.now) (sym (ap (λ (k : Ticket). k.tile) c.ticket-tile.ensures))
    c.requires.joinable.known.is_tile)

pub tell_along-requires-clause-limits : goal.tell_along-requires-clause-limits
tell_along-requires-clause-limits c =
    c.self.invariant.mask_rims.count ∙ ap room_of (sym c.self.invariant.tiling)

pub tell_along-requires-clause-rim : goal.tell_along-requires-clause-rim
tell_along-requires-clause-rim c =
    let raises = c.requires.raising.raises in
    of_kept_at c.self.inside c.args.self.now c.self.view_is c.self.invariant
    (λ rect whole. HasSides rect c.args.rim.now) c.args.swept.now.job.ticket.tile c.ticket-tile.result.tile
    (ap (λ (k : Ticket). k.tile) c.ticket-tile.ensures)
    (rim_sides (tile_rect c.args.self.now c.args.swept.now.job.ticket.tile) (arc_value c.args.part) c.args.rim.now
    c.requires.raising.of_part raises.width raises.height)

pub tell_along-requires-clause-works : goal.tell_along-requires-clause-works
tell_along-requires-clause-works c =
    let core = c.args.self.now in
    ap (λ (k : Core). length k.tiles) c.self.view_is
    ∙ (kept_sound c.self.inside core c.self.view_is c.self.invariant).shape.tiles
    ∙ ap count_of (sym (kept_tiling c.self.inside core c.self.view_is c.self.invariant))

-- where there was no room for the hints, the core stays as it was
pub invariant_of-self : goal.invariant_of-self
invariant_of-self c = rw c.in_err-tell_along.ensures.err c.self.invariant

pub returns-in_err-tell_along-clause-joined : goal.returns-in_err-tell_along-clause-joined
returns-in_err-tell_along-clause-joined c =
    let p = err_from_is_err_and c.from_residual.result c.from_residual.ensures.1 in
    rw p.1 tt

pub returns-in_err-tell_along-clause-err : goal.returns-in_err-tell_along-clause-err
returns-in_err-tell_along-clause-err c =
    let p = err_from_is_err_and c.from_residual.result c.from_residual.ensures.1 in
    rw (p.1, c.in_err-tell_along.ensures.err) c.self.view_is

-- the hints, and that they were told
told : (c : After-tiling-tiling) → (hints : List Hint) × AreHintsOnceJoined c.args.self.now c.args.swept.now hints
    × AreReceived c.self.inside.image.tiling hints c.self.inside.work c.tell_along.new.work
told c =
    told_along c.self.inside c.args.self.now c.args.swept.now c.ticket-tile.result.tile c.self.view_is
    c.self.invariant (ap (λ (k : Ticket). k.tile) c.ticket-tile.ensures) c.requires.joinable.known.is_tile
    c.requires.four c.edges_are_open.ensures c.same_image_same_edges.ensures (arc_value c.args.part) c.args.rim.now
    c.tell_along.new.work c.requires.raising.of_part c.requires.raising.raises c.in_ok-tell_along.ensures.ok

-- ---- what is put in

pub raise-requires-clause-tile : goal.raise-requires-clause-tile
raise-requires-clause-tile c =
    is_kept_tile c.self.inside c.args.self.now c.self.view_is c.self.invariant c.ticket-tile.result.tile
    (subst (IsTile c.args.self.now) (sym (ap (λ (k : Ticket). k.tile) c.ticket-tile.ensures))
    c.requires.joinable.known.is_tile)

pub raise-requires-clause-width : goal.raise-requires-clause-width
raise-requires-clause-width c =
    let part = arc_value c.args.part in
    of_kept_at c.self.inside c.args.self.now c.self.view_is c.self.invariant (λ rect whole. part.width ≡ rect.w)
    c.args.swept.now.job.ticket.tile c.ticket-tile.result.tile (ap (λ (k : Ticket). k.tile) c.ticket-tile.ensures)
    c.requires.raising.raises.width

pub raise-requires-clause-height : goal.raise-requires-clause-height
raise-requires-clause-height c =
    let part = arc_value c.args.part in
    of_kept_at c.self.inside c.args.self.now c.self.view_is c.self.invariant (λ rect whole. part.height ≡ rect.h)
    c.args.swept.now.job.ticket.tile c.ticket-tile.result.tile (ap (λ (k : Ticket). k.tile) c.ticket-tile.ensures)
    c.requires.raising.raises.height

pub raise-requires-clause-inside : goal.raise-requires-clause-inside
raise-requires-clause-inside c =
    let part = arc_value c.args.part in
    of_kept_at c.self.inside c.args.self.now c.self.view_is c.self.invariant
    (λ rect whole. IsBelowInside rect whole (value_in rect part)) c.args.swept.now.job.ticket.tile
    c.ticket-tile.result.tile (ap (λ (k : Ticket). k.tile) c.ticket-tile.ensures) c.requires.raising.inside

pub set-requires : goal.set-requires
set-requires c =
    omega (
      arith,
      c.requires.joinable.known.is_tile,
      ap (λ (k : Ticket). k.tile) c.ticket-tile.ensures,
      ap (λ (k : Core). length k.tiles) c.self.view_is,
      c.self.invariant.stored.sound.shape.tiles,
      c.self.invariant.stored.bounded.count,
    )

pub end_job-requires : goal.end_job-requires
end_job-requires c =
    omega (
      arith,
      c.requires.joinable.known.is_tile,
      ap (λ (k : Ticket). k.tile) c.ticket-tile.ensures,
      ap (λ (k : Core). length k.tiles) c.self.view_is,
      (told (goal.at.end_job-requires c).After-tiling-tiling).2.count,
    )

-- ---- what is joined

pub invariant_of-self-2 : goal.invariant_of-self-2
invariant_of-self-2 c =
    let tiled = c.self.inside in
    let core = c.args.self.now in
    let (hints, once, received) = told (goal.at.invariant_of-self-2 c).After-tiling-tiling in
    rw c.set.ensures (record {
      stored =
          tile_is_stored tiled core c.args.swept.now tiled.image.tiling c.ticket-tile.result.tile
          (arc_value c.args.part) c.raise.new.self.image c.args.rim.now c.args.above c.tell_along.new.work
          c.end_job.new.self hints c.self.view_is c.self.invariant
          (kept_tiling tiled core c.self.view_is c.self.invariant) (ap (λ (k : Ticket). k.tile) c.ticket-tile.ensures)
          c.requires.joinable c.requires.raising c.raise.ensures.joined once received c.end_job.ensures
          c.give_back_keeps_sound.ensures c.edges_are_open.ensures;
      tiling = c.raise.ensures.tiling ∙ c.self.invariant.tiling;
      beside = c.leave.ensures ∙ c.self.invariant.beside;
      room = c.self.invariant.room;
      mask_rims = c.self.invariant.mask_rims;
      limits_room = c.self.invariant.limits_room;
      states = c.self.invariant.states;
    })

pub returns-clause-joined : goal.returns-clause-joined
returns-clause-joined c =
    let tiled = c.self.inside in
    let core = c.args.self.now in
    let (hints, once, received) = told (goal.at.returns-clause-joined c).After-tiling-tiling in
    tile_is_joined tiled core c.args.swept.now tiled.image.tiling c.ticket-tile.result.tile (arc_value c.args.part)
    c.raise.new.self.image c.args.rim.now c.args.above c.tell_along.new.work c.end_job.new.self hints c.self.view_is
    c.self.invariant (kept_tiling tiled core c.self.view_is c.self.invariant)
    (ap (λ (k : Ticket). k.tile) c.ticket-tile.ensures) c.requires.joinable c.requires.raising
    c.raise.ensures.joined once received c.end_job.ensures
