-- What the tactics leave open of `join`.
use Rattle.std.proofs.Common.{◌<◌, length, ap, subst, sym, ◌∙◌, arith}
use Rattle.std.proofs.lemmas.Result.{err_from_is_err_and}
use Rattle.grid_core.specs.Tiles.{Tiles, count_of}
use Rattle.tile_generations.specs.declared.ticket.Ticket.{Ticket}
use Rattle.core_rules.specs.{Invariant.IsSound, Sweeps.IsKnown, Sweeps.IsUnchanged, Work.Core}
use Rattle.reset_core.specs.Sweeping.{AreHintsOnceJoined}
use Rattle.reset_core.proofs.Sweeping.{tiling_is, stored_below, swept_is_piece, parts_joined, joined_is_stored}
use Rattle.core_rules.specs.Work as work
use Rattle.std.proofs.lemmas.Grind.{common_steps}
use Rattle.reset_core.proofs.replica.Core.join.Goals as goal

pub hints_once_joined-requires-clause-known : goal.hints_once_joined-requires-clause-known
hints_once_joined-requires-clause-known c =
    subst (λ (k : Core). IsKnown k c.args.swept.now.job) (sym c.empty_inbox-inbox.ensures.same)
    c.requires.joinable.known

pub hints_once_joined-requires-clause-unchanged : goal.hints_once_joined-requires-clause-unchanged
hints_once_joined-requires-clause-unchanged c is_unchanged =
    subst (λ (k : Core). IsUnchanged k c.args.swept.now.job) (sym c.empty_inbox-inbox.ensures.same)
    (c.requires.unchanged is_unchanged)

pub hints_once_joined-requires-clause-empty : goal.hints_once_joined-requires-clause-empty
hints_once_joined-requires-clause-empty c = c.empty_inbox-inbox.ensures.empty

pub returns-in_err-hints-clause-joined : goal.returns-in_err-hints-clause-joined
returns-in_err-hints-clause-joined c =
    let p = err_from_is_err_and c.from_residual.result c.from_residual.ensures.1 in
    rw p.1 tt

pub returns-in_err-hints-clause-err : goal.returns-in_err-hints-clause-err
returns-in_err-hints-clause-err c =
    let p = err_from_is_err_and c.from_residual.result c.from_residual.ensures.1 in
    rw p.1 c.empty_inbox-inbox.ensures.same

pub receive-requires-clause-touching : goal.receive-requires-clause-touching
receive-requires-clause-touching c =
    let parts = c.self.inside in
    let core = c.args.self.now in
    let swept = c.args.swept.now in
    let view = c.self.view_is ∙ c.empty_inbox-inbox.ensures.same in
    let told =
    subst (λ (k : Core). AreHintsOnceJoined k swept c.in_ok-hints.hints.hints) c.empty_inbox-inbox.ensures.same
    c.in_ok-hints.ensures in
    let tile_is = ap (λ (k : Ticket). k.tile) c.ticket-tile.ensures in
    let tiling = c.tiling-tiling.ensures in
    let tiles = tiling_is parts core c.tiling-tiling.result view tiling.value tiling.width tiling.height in
    rw (c.as_slice.ensures, tile_is, tiles) told.touching

pub receive-requires-clause-from : goal.receive-requires-clause-from
receive-requires-clause-from c =
    let parts = c.self.inside in
    let core = c.args.self.now in
    let view = c.self.view_is ∙ c.empty_inbox-inbox.ensures.same in
    let tile_is = ap (λ (k : Ticket). k.tile) c.ticket-tile.ensures in
    let tiling = c.tiling-tiling.ensures in
    let tiles = tiling_is parts core c.tiling-tiling.result view tiling.value tiling.width tiling.height in
    let sound = subst IsSound view c.self.invariant.sound in
    let within : c.args.swept.now.job.ticket.tile < count_of (work.tiling core) =
    omega (arith, c.requires.joinable.known.is_tile, sound.shape.tiles) in
    subst (λ (ts : Tiles). c.ticket-tile.result.tile < count_of ts) (sym tiles)
    (subst (λ n. n < count_of (work.tiling core)) (sym tile_is) within)

-- where there was no room for the hints, the core stays as it was
pub invariant_of-self : goal.invariant_of-self
invariant_of-self c = rw c.in_err-receive.ensures.err c.self.invariant

pub returns-in_err-receive-clause-joined : goal.returns-in_err-receive-clause-joined
returns-in_err-receive-clause-joined c =
    let p = err_from_is_err_and c.from_residual-in_err-receive.result c.from_residual-in_err-receive.ensures.1 in
    rw p.1 tt

pub returns-in_err-receive-clause-err : goal.returns-in_err-receive-clause-err
returns-in_err-receive-clause-err c =
    let p = err_from_is_err_and c.from_residual-in_err-receive.result c.from_residual-in_err-receive.ensures.1 in
    rw (p.1, c.in_err-receive.ensures.err) (c.self.view_is ∙ c.empty_inbox-inbox.ensures.same)

pub bounds_above-above-requires-clause-above : goal.bounds_above-above-requires-clause-above
bounds_above-above-requires-clause-above c is_unchanged =
    let tile_is = ap (λ (k : Ticket). k.tile) c.ticket-tile.ensures in
    stored_below c.self.inside c.args.self.now c.args.swept.now c.ticket-tile.result.tile c.rect-rect.result
    c.pixels-pixels.result.now (c.self.view_is ∙ c.empty_inbox-inbox.ensures.same) tile_is c.rect-rect.ensures.rect
    c.pixels-pixels.ensures.value c.pixels-pixels.ensures.swept c.requires.joinable.known
    (c.requires.unchanged is_unchanged)

pub raise_part-requires-clause-above : goal.raise_part-requires-clause-above
raise_part-requires-clause-above c is_unchanged =
    let tile_is = ap (λ (k : Ticket). k.tile) c.ticket-tile.ensures in
    stored_below c.self.inside c.args.self.now c.args.swept.now c.ticket-tile.result.tile c.rect-rect.result
    c.pixels-pixels.result.now (c.self.view_is ∙ c.empty_inbox-inbox.ensures.same) tile_is c.rect-rect.ensures.rect
    c.pixels-pixels.ensures.value c.pixels-pixels.ensures.swept c.requires.joinable.known
    (c.requires.unchanged is_unchanged)

pub invariant_of-self-2 : goal.invariant_of-self-2
invariant_of-self-2 c =
    let parts = c.self.inside in
    let core = c.args.self.now in
    let swept = c.args.swept.now in
    let view = c.self.view_is ∙ c.empty_inbox-inbox.ensures.same in
    let told =
    subst (λ (k : Core). AreHintsOnceJoined k swept c.in_ok-hints.hints.hints) c.empty_inbox-inbox.ensures.same
    c.in_ok-hints.ensures in
    let tile_is = ap (λ (k : Ticket). k.tile) c.ticket-tile.ensures in
    let tiling = c.tiling-tiling.ensures in
    let tiles = tiling_is parts core c.tiling-tiling.result view tiling.value tiling.width tiling.height in
    rw c.set.ensures (joined_is_stored parts core swept c.tiling-tiling.result c.ticket-tile.result.tile
    c.rect-rect.result c.pixels-pixels.result.now c.raise_part.new.whole c.receive.new.self c.keep_inbox.new.self
    c.in_ok-hints.hints.hints c.as_slice.result.now view tiles tile_is c.rect-rect.ensures.rect
    c.pixels-pixels.ensures.value c.raise_part.ensures told.touching c.as_slice.ensures c.in_ok-receive.ensures.ok
    (c.keep_inbox.ensures ∙ c.end_job.ensures) told.hints c.requires.joinable.known.is_tile
    c.give_back_keeps_sound.ensures c.edges_are_open.ensures c.bounds_above-above.result c.bounds_above-above.ensures
    c.self.invariant c.pixels-pixels.ensures.swept c.requires.joinable.known c.requires.joinable.out
    c.requires.joinable.base)

pub returns-clause-joined : goal.returns-clause-joined
returns-clause-joined c =
    let parts = c.self.inside in
    let core = c.args.self.now in
    let swept = c.args.swept.now in
    let view = c.self.view_is ∙ c.empty_inbox-inbox.ensures.same in
    let told =
    subst (λ (k : Core). AreHintsOnceJoined k swept c.in_ok-hints.hints.hints) c.empty_inbox-inbox.ensures.same
    c.in_ok-hints.ensures in
    let tile_is = ap (λ (k : Ticket). k.tile) c.ticket-tile.ensures in
    let tiling = c.tiling-tiling.ensures in
    let tiles = tiling_is parts core c.tiling-tiling.result view tiling.value tiling.width tiling.height in
    parts_joined parts core swept c.tiling-tiling.result c.ticket-tile.result.tile c.rect-rect.result
    c.pixels-pixels.result.now c.raise_part.new.whole c.receive.new.self c.keep_inbox.new.self
    c.in_ok-hints.hints.hints c.as_slice.result.now view tiles tile_is c.rect-rect.ensures.rect
    c.pixels-pixels.ensures.value c.raise_part.ensures told.touching c.as_slice.ensures c.in_ok-receive.ensures.ok
    (c.keep_inbox.ensures ∙ c.end_job.ensures) told.hints c.requires.joinable.known.is_tile

pub receive-requires-clause-tiles : goal.receive-requires-clause-tiles
receive-requires-clause-tiles c = grind (arith, common_steps)

pub bounds_above-above-requires-clause-piece : goal.bounds_above-above-requires-clause-piece
bounds_above-above-requires-clause-piece c =
    let tile_is = ap (λ (k : Ticket). k.tile) c.ticket-tile.ensures in
    swept_is_piece c.self.inside c.args.self.now c.args.swept.now c.ticket-tile.result.tile c.rect-rect.result
    c.pixels-pixels.result.now (c.self.view_is ∙ c.empty_inbox-inbox.ensures.same) tile_is c.rect-rect.ensures.rect
    c.pixels-pixels.ensures.value c.rect-rect.ensures.image c.pixels-pixels.ensures.swept c.requires.joinable.known

pub raise_part-requires-clause-piece : goal.raise_part-requires-clause-piece
raise_part-requires-clause-piece c =
    let tile_is = ap (λ (k : Ticket). k.tile) c.ticket-tile.ensures in
    swept_is_piece c.self.inside c.args.self.now c.args.swept.now c.ticket-tile.result.tile c.rect-rect.result
    c.pixels-pixels.result.now (c.self.view_is ∙ c.empty_inbox-inbox.ensures.same) tile_is c.rect-rect.ensures.rect
    c.pixels-pixels.ensures.value c.rect-rect.ensures.image c.pixels-pixels.ensures.swept c.requires.joinable.known

pub set-requires : goal.set-requires
set-requires c =
    let view = c.self.view_is ∙ c.empty_inbox-inbox.ensures.same in
    omega (
      arith,
      c.requires.joinable.known.is_tile,
      ap (λ (k : Ticket). k.tile) c.ticket-tile.ensures,
      ap (λ (k : Core). length k.tiles) view,
      c.self.invariant.sound.shape.tiles,
      c.self.invariant.bounded.count,
    )

pub rect-rect-requires : goal.rect-rect-requires
rect-rect-requires c = grind (arith, common_steps)

pub end_job-requires : goal.end_job-requires
end_job-requires c =
    let view = c.self.view_is ∙ c.empty_inbox-inbox.ensures.same in
    omega (
      arith,
      c.requires.joinable.known.is_tile,
      ap (λ (k : Ticket). k.tile) c.ticket-tile.ensures,
      ap (λ (k : Core). length k.tiles) view,
      c.in_ok-receive.ensures.ok.count,
    )
