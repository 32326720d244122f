-- What the tactics leave open of `hints_once_joined`.
use Rattle.std.proofs.Common.{◌≡◌, ◌+◌, ◌*◌, ◌≤◌, ◌<◌, ◌∙◌, ap, arith, length, refl, subst, sym, vec_len}
use Rattle.std.proofs.lemmas.List.{with_items_is}
use Rattle.grid_core.specs.{declared.rect.Rect.Rect, Raster.IsImageSize, Raster.value_at}
use Rattle.grid_core.specs.Tiles.{Tiles, IsTiled, count_of, rect_of}
use Rattle.border_queues.specs.{Around.HasAroundSize, Around.IsRingOf, Around.around_of, OpenEdges.with_tile}
use Rattle.tile_generations.specs.declared.ticket.Ticket.{Ticket}
use Rattle.core_rules.specs.{Sweeps.tile_rect, Work.IsTile}
use Rattle.core_rules.specs.Work as work
use Rattle.reset_core.proofs.Sweeping.{tiling_is}
use Rattle.tiled_image.specs.{Rims.AreRimsOf, Ring.HasRimmedRing, Shown.value_in, Sides.HasSides}
use Rattle.tiled_image.specs.{Raising.greater_of, Sides.HasValues}
use Rattle.tiled_image.proofs.Sides.{rim_values}
use Rattle.tiled_core.specs.Patches.{patch_of}
use Rattle.tiled_core.specs.Stored.{parts_of}
use Rattle.tiled_core.proofs.JoinedTiles.{raised_of, ring_is_raised}
use Rattle.tiled_core.proofs.Rings.{around_within, look_is_rimmed, look_is_ring, rect_is_sized}
use Rattle.tiled_core.proofs.StoredCore.{is_kept_tile, kept_image, kept_rect, kept_sound}
use Rattle.tiled_core.proofs.ToldEdges.{edges_once_joined}
use Rattle.tiled_core.proofs.replica.TiledCore.hints_once_joined.Goals as goal

-- ---- the tile

pub around_of-around-requires : goal.around_of-around-requires
around_of-around-requires c =
    let tiling = c.tiling-tiling.ensures in
    let is_tile =
    subst (IsTile c.args.self.now) (sym (ap (λ (k : Ticket). k.tile) c.ticket-tile.ensures)) c.requires.known.is_tile in
    subst (λ (ts : Tiles). c.ticket-tile.result.tile < count_of ts) (c.self.invariant.tiling ∙ sym tiling.value)
    (is_kept_tile c.self.inside c.args.self.now c.self.view_is c.self.invariant c.ticket-tile.result.tile is_tile)

pub fill_raised_ring-requires-clause-tile : goal.fill_raised_ring-requires-clause-tile
fill_raised_ring-requires-clause-tile c =
    let is_tile =
    subst (IsTile c.args.self.now) (sym (ap (λ (k : Ticket). k.tile) c.ticket-tile.ensures)) c.requires.known.is_tile in
    is_kept_tile c.self.inside c.args.self.now c.self.view_is c.self.invariant c.ticket-tile.result.tile is_tile

-- ---- the cells around it

pub fill_raised_ring-requires-clause-rim : goal.fill_raised_ring-requires-clause-rim
fill_raised_ring-requires-clause-rim c =
    let core = c.args.self.now in
    let tile_is = ap (λ (k : Ticket). k.tile) c.ticket-tile.ensures in
    subst (λ (r : Rect). HasSides r c.args.rim.now)
    (ap (tile_rect core) (sym tile_is)
    ∙ sym (kept_rect c.self.inside core c.self.view_is c.self.invariant c.ticket-tile.result.tile)) c.requires.rim

pub fill_raised_ring-requires-clause-room : goal.fill_raised_ring-requires-clause-room
fill_raised_ring-requires-clause-room c =
    let tiles = c.self.inside.image.tiling in
    let around = around_of tiles c.ticket-tile.result.tile in
    let room : length c.deref_mut.result.now ≡ (tiles.side + 2) * (tiles.side + 2) =
    c.deref_mut.ensures.len ∙ c.self.invariant.room
    ∙ ap (λ (ts : Tiles). (ts.side + 2) * (ts.side + 2)) (sym c.self.invariant.tiling) in
    subst (λ n. around.w * around.h ≤ n) (sym room) (around_within tiles c.ticket-tile.result.tile)

pub fill_ring-requires-clause-room : goal.fill_ring-requires-clause-room
fill_ring-requires-clause-room c =
    let tiles = c.tiling-tiling.result in
    let around = around_of tiles c.ticket-tile.result.tile in
    let room : length c.deref_mut-2.result.now ≡ (tiles.side + 2) * (tiles.side + 2) =
    c.deref_mut-2.ensures.len ∙ c.self.invariant.limits_room
    ∙ ap (λ (ts : Tiles). (ts.side + 2) * (ts.side + 2)) (sym c.tiling-tiling.ensures.value) in
    subst (λ n. around.w * around.h ≤ n) (sym room) (around_within tiles c.ticket-tile.result.tile)

-- ring and limits were changed alone
pub invariant_of-self : goal.invariant_of-self
invariant_of-self c = record {
  stored = c.self.invariant.stored;
  tiling = c.self.invariant.tiling;
  beside = c.self.invariant.beside;
  room = c.self.invariant.room;
  mask_rims = c.self.invariant.mask_rims;
  limits_room = c.self.invariant.limits_room;
  states = c.self.invariant.states;
}

pub patch-ring-requires-clause-size : goal.patch-ring-requires-clause-size
patch-ring-requires-clause-size c =
    let tiling = c.tiling-tiling.ensures in
    let core = c.args.self.now in
    let tiles =
    tiling_is (parts_of c.self.inside) core c.tiling-tiling.result c.self.view_is tiling.value tiling.width
    tiling.height in
    let sound = kept_sound c.self.inside core c.self.view_is c.self.invariant in
    let size = subst (λ (ts : Tiles). IsImageSize ts.width ts.height) (sym tiles) sound.shape.tiled.size in
    rect_is_sized c.tiling-tiling.result.width c.tiling-tiling.result.height c.around_of-around.result size
    c.around_of-around.ensures.fits

pub patch-ring-requires-clause-room : goal.patch-ring-requires-clause-room
patch-ring-requires-clause-room c =
    let tiles = c.tiling-tiling.result in
    let tile = c.ticket-tile.result.tile in
    let cells = c.fill_raised_ring.new.cells in
    let long : length cells ≡ vec_len c.self.inside.ring = omega (arith, c.deref_mut.ensures.len) in
    let cells_are = c.deref.ensures.value ∙ with_items_is c.self.inside.ring cells long in
    let room : length c.deref.result.now ≡ (tiles.side + 2) * (tiles.side + 2) =
    ap length cells_are ∙ long ∙ c.self.invariant.room
    ∙ ap (λ (ts : Tiles). (ts.side + 2) * (ts.side + 2)) (sym c.tiling-tiling.ensures.value) in
    let around = c.around_of-around.result in
    subst (λ n. around.w * around.h ≤ n) (sym room)
    (subst (λ (r : Rect). r.w * r.h ≤ (tiles.side + 2) * (tiles.side + 2)) (sym c.around_of-around.ensures.value)
    (around_within tiles tile))

pub patch-limits-requires-clause-size : goal.patch-limits-requires-clause-size
patch-limits-requires-clause-size c =
    let tiling = c.tiling-tiling.ensures in
    let core = c.args.self.now in
    let tiles =
    tiling_is (parts_of c.self.inside) core c.tiling-tiling.result c.self.view_is tiling.value tiling.width
    tiling.height in
    let sound = kept_sound c.self.inside core c.self.view_is c.self.invariant in
    let size = subst (λ (ts : Tiles). IsImageSize ts.width ts.height) (sym tiles) sound.shape.tiled.size in
    rect_is_sized c.tiling-tiling.result.width c.tiling-tiling.result.height c.around_of-around.result size
    c.around_of-around.ensures.fits

pub patch-limits-requires-clause-room : goal.patch-limits-requires-clause-room
patch-limits-requires-clause-room c =
    let tiles = c.tiling-tiling.result in
    let tile = c.ticket-tile.result.tile in
    let cells = c.fill_ring.new.cells in
    let long : length cells ≡ vec_len c.self.inside.limits = omega (arith, c.deref_mut-2.ensures.len) in
    let cells_are = c.deref-2.ensures.value ∙ with_items_is c.self.inside.limits cells long in
    let room : length c.deref-2.result.now ≡ (tiles.side + 2) * (tiles.side + 2) =
    ap length cells_are ∙ long ∙ c.self.invariant.limits_room
    ∙ ap (λ (ts : Tiles). (ts.side + 2) * (ts.side + 2)) (sym c.tiling-tiling.ensures.value) in
    let around = c.around_of-around.result in
    subst (λ n. around.w * around.h ≤ n) (sym room)
    (subst (λ (r : Rect). r.w * r.h ≤ (tiles.side + 2) * (tiles.side + 2)) (sym c.around_of-around.ensures.value)
    (around_within tiles tile))

-- ---- what is told

pub open_edges_around-requires-clause-tile : goal.open_edges_around-requires-clause-tile
open_edges_around-requires-clause-tile c =
    let tiling = c.tiling-tiling.ensures in
    let is_tile =
    subst (IsTile c.args.self.now) (sym (ap (λ (k : Ticket). k.tile) c.ticket-tile.ensures)) c.requires.known.is_tile in
    subst (λ (ts : Tiles). c.ticket-tile.result.tile < count_of ts) (c.self.invariant.tiling ∙ sym tiling.value)
    (is_kept_tile c.self.inside c.args.self.now c.self.view_is c.self.invariant c.ticket-tile.result.tile is_tile)

pub open_edges_around-requires-clause-patch : goal.open_edges_around-requires-clause-patch
open_edges_around-requires-clause-patch c =
    subst (HasAroundSize c.tiling-tiling.result c.ticket-tile.result.tile) (sym c.patch-ring.ensures)
    (subst (λ (r : Rect). HasAroundSize c.tiling-tiling.result c.ticket-tile.result.tile
    (patch_of r c.deref.result.now)) (sym c.around_of-around.ensures.value) (record { width = refl; height = refl }))

pub open_edges_around-requires-clause-limits : goal.open_edges_around-requires-clause-limits
open_edges_around-requires-clause-limits c =
    let tiles = c.tiling-tiling.result in
    let tile = c.ticket-tile.result.tile in
    let mask = c.self.inside.markers.mask in
    let cells = c.fill_ring.new.cells in
    let long : length cells ≡ vec_len c.self.inside.limits = omega (arith, c.deref_mut-2.ensures.len) in
    let has =
    c.fill_ring.ensures mask (subst (λ (ts : Tiles). AreRimsOf ts mask c.self.inside.mask_rims)
    (sym c.tiling-tiling.ensures.value) c.self.invariant.mask_rims) in
    (look_is_ring tiles tile mask c.patch-limits.result c.around_of-around.result c.deref-2.result.now cells
    c.around_of-around.ensures.value (c.deref-2.ensures.value ∙ with_items_is c.self.inside.limits cells long)
    c.patch-limits.ensures has).size

pub returns-clause-told : goal.returns-clause-told
returns-clause-told c part is_rim raises =
    let parts = parts_of c.self.inside in
    let core = c.args.self.now in
    let pixels = c.args.swept.now.pixels in
    let tiles = c.tiling-tiling.result in
    let tile = c.ticket-tile.result.tile in
    let t = c.args.swept.now.job.ticket.tile in
    let tile_is = ap (λ (k : Ticket). k.tile) c.ticket-tile.ensures in
    let tiling = c.tiling-tiling.ensures in
    let cells = c.fill_raised_ring.new.cells in
    let long : length cells ≡ vec_len c.self.inside.ring = omega (arith, c.deref_mut.ensures.len) in
    let cells_are = c.deref.ensures.value ∙ with_items_is c.self.inside.ring cells long in
    let sound = kept_sound c.self.inside core c.self.view_is c.self.invariant in
    let within : t < count_of (work.tiling core) = omega (arith, c.requires.known.is_tile, sound.shape.tiles) in
    let core_tiles = tiling_is parts core tiles c.self.view_is tiling.value tiling.width tiling.height in
    let tiled : IsTiled tiles = subst IsTiled (sym core_tiles) sound.shape.tiled in
    let tile_within : tile < count_of tiles =
    subst (λ (ts : Tiles). tile < count_of ts) (sym core_tiles)
    (subst (λ n. n < count_of (work.tiling core)) (sym tile_is) within) in
    let rect_is : tile_rect core t ≡ rect_of tiles tile =
    ap (tile_rect core) (sym tile_is) ∙ ap (λ (ts : Tiles). rect_of ts tile) (sym core_tiles) in
    let raised = raised_of (tile_rect core t) core.image pixels in
    let value = value_in (rect_of tiles tile) part in
    let values : HasValues (rect_of tiles tile) value c.args.rim.now =
    rim_values (rect_of tiles tile) part c.args.rim.now is_rim (raises.width ∙ ap (λ (r : Rect). r.w) rect_is)
    (raises.height ∙ ap (λ (r : Rect). r.h) rect_is) in
    let has_part =
    subst (λ (ts : Tiles). HasValues (rect_of ts tile) value c.args.rim.now
    → HasRimmedRing ts tile parts.image (greater_of parts.image value) cells)
    (c.self.invariant.tiling ∙ sym tiling.value) (c.fill_raised_ring.ensures value) values in
    let has =
    ring_is_raised tiles tile tiled tile_within (tile_rect core t) core.image parts.image pixels part cells rect_is
    (sym (kept_image c.self.inside core c.self.view_is c.self.invariant)) raises has_part in
    let ring =
    look_is_rimmed tiles tile tiled tile_within parts.image raised c.patch-ring.result c.around_of-around.result
    c.deref.result.now cells c.around_of-around.ensures.value cells_are c.patch-ring.ensures has in
    let limit_cells = c.fill_ring.new.cells in
    let limits_long : length limit_cells ≡ vec_len c.self.inside.limits = omega (arith, c.deref_mut-2.ensures.len) in
    let mask = c.self.inside.markers.mask in
    let limits : IsRingOf tiles tile (value_at mask) c.patch-limits.result =
    look_is_ring tiles tile mask c.patch-limits.result c.around_of-around.result c.deref-2.result.now limit_cells
    c.around_of-around.ensures.value (c.deref-2.ensures.value ∙ with_items_is c.self.inside.limits limit_cells
    limits_long) c.patch-limits.ensures
    (c.fill_ring.ensures mask (subst (λ (ts : Tiles). AreRimsOf ts mask c.self.inside.mask_rims) (sym tiling.value)
    c.self.invariant.mask_rims)) in
    edges_once_joined c.self.inside core c.args.swept.now tile c.self.view_is c.self.invariant tile_is
    c.requires.known.is_tile c.edges_are_open.ensures c.same_image_same_edges.ensures tiles
    c.generation-generation.result c.args.inbox.hints c.open_edges_around.new.out.hints tiling.value
    c.generation-generation.ensures.value c.requires.empty
    (c.in-Ok.ensures (with_tile tiles tile (value_at raised) (value_at parts.image)) (value_at mask) ring limits).hints
