-- What the tactics leave open of `hints_by`.
use Rattle.std.proofs.Common.{◌∙◌, ◌<◌, ap, subst, arith}
use Rattle.grid_core.specs.{Tiles.count_of, Raster.value_at}
use Rattle.border_queues.specs.OpenEdges.{with_tile}
use Rattle.tile_generations.specs.declared.ticket.Ticket.{Ticket}
use Rattle.core_rules.specs.{Invariant.IsSound, Sweeps.sender_of}
use Rattle.reset_core.proofs.Sweeping.{told_are_edges, hints_once_joined, edges_touch}
use Rattle.core_rules.specs.Work as work
use Rattle.std.proofs.lemmas.Grind.{common_steps}
use Rattle.reset_core.proofs.replica.Core.hints_by.Goals as goal

pub returns-in-Ok : goal.returns-in-Ok
returns-in-Ok c =
    let parts = c.self.inside in
    let core = c.args.self.now in
    let tile = c.ticket-tile.result.tile in
    let t = c.args.swept.now.job.ticket.tile in
    let raised = c.args.raised.now in
    let tile_is = ap (λ (k : Ticket). k.tile) c.ticket-tile.ensures in
    let tiling = c.tiling-tiling.ensures in
    let told =
    told_are_edges parts core c.tiling-tiling.result c.self.view_is tiling.value tiling.width tiling.height t tile
    c.generation-generation.result c.mask-mask.result.now raised c.args.inbox.hints c.open_edges.new.out.hints
    c.mask-mask.ensures.value tile_is c.generation-generation.ensures.value c.requires.empty c.in-Ok.ensures.hints in
    let sound = subst IsSound c.self.view_is c.self.invariant.sound in
    let within : t < count_of (work.tiling core) = omega (arith, c.requires.known.is_tile, sound.shape.tiles) in
    record {
      hints = λ after joined. told
          ∙ hints_once_joined core after t c.args.swept.now.pixels raised sound c.requires.known.is_tile
          c.requires.raised joined c.same_image_same_edges.ensures;
      touching =
          rw told (edges_touch c.edges_are_open.ensures
          (record (sender_of core t) { image = with_tile (work.tiling core) t (value_at raised) (work.image_at core) })
          sound.shape.tiled within);
    }

pub open_edges-requires-clause-size : goal.open_edges-requires-clause-size
open_edges-requires-clause-size c = grind (arith, common_steps)

pub open_edges-requires-clause-parts : goal.open_edges-requires-clause-parts
open_edges-requires-clause-parts c = grind (arith, common_steps)
