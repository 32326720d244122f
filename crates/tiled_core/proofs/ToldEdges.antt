-- The hints of a tile's open edges, as they are once the tile is raised.
use Rattle.std.proofs.Common.{◌≡◌, ℕ, ◌<◌, ◌∙◌, List, [], ◌++◌, ap, arith, refl, subst, sym}
use Rattle.grid_core.specs.declared.conn.{Conn.Conn, Conn.TheVariants.Four}
use Rattle.grid_core.specs.{declared.pixel.Pixel.Pixel, Raster.Raster, Raster.value_at}
use Rattle.grid_core.specs.Tiles.{Tiles, IsTiled, count_of, rect_of}
use Rattle.border_queues.specs.{declared.hint.Hint.Hint, Laws.EdgesAreOpen, Laws.SameImageSameEdges}
use Rattle.border_queues.specs.{OpenEdges.open_edges, OpenEdges.sender_by, OpenEdges.with_tile}
use Rattle.border_queues.specs.TileWork.{TileWork, work_of}
use Rattle.tile_generations.specs.{Jobs.Swept, Rims.IsRimOf, Rims.Rim}
use Rattle.tile_work.specs.WorkTable.{AreReceived}
use Rattle.core_rules.specs.{Sweeps.sender_of, Sweeps.tile_rect, Work.Core, Work.IsTile}
use Rattle.core_rules.specs.Work as work
use Rattle.reset_core.specs.Sweeping.{AreHintsOnceJoined}
use Rattle.reset_core.proofs.Sweeping.{edges_touch, hints_once_joined, told_are_edges}
use Rattle.tiled_image.specs.{Beyond.IsRaisedOnRim, Beyond.IsSameBeyond, Raising.RaisesAs, Rims.AreRimsOf}
use Rattle.tiled_image.specs.{Shown.value_in, Sides.HasValues}
use Rattle.tiled_image.proofs.{Sides.rim_values, Strips.strip_in_tile}
use Rattle.tiled_core.specs.declared.replica.TiledCore.TheInside.{Inside as TiledParts}
use Rattle.tiled_core.specs.Stored.{core_of, parts_of, IsStored}
use Rattle.tiled_core.proofs.JoinedTiles.{raised_of, raised_of_is, rim_is_raised}
use Rattle.tiled_core.proofs.Rings.{off_tile, on_tile}
use Rattle.tiled_core.proofs.StoredCore.{is_kept_tile, kept_image, kept_rect, kept_sound, kept_tiling, of_kept_at}

module _ (tiled : TiledParts) (core : Core) (swept : Swept) (tile : ℕ) (view : core_of tiled ≡ core)
    (stored : IsStored tiled) (tile_is : tile ≡ swept.job.ticket.tile)
    (is_tile : IsTile core swept.job.ticket.tile) where
  -- the tile of the swept one, raised to what the sweep gave
  abbrev raised : Raster
  raised = raised_of (tile_rect core swept.job.ticket.tile) core.image swept.pixels

  -- hints of the open edges of an image that has it are those once the swept tile is joined
  pub edges_once_joined : EdgesAreOpen → SameImageSameEdges → (tiles : Tiles) (generation : ℕ)
      (before told : List Hint) → tiles ≡ tiled.markers.tiling → generation ≡ (work_of tiled.work tile).generation
      → before ≡ [] → told ≡ before ++ open_edges (sender_by tiles tiled.conn (value_at tiled.markers.mask)
      (with_tile tiles tile (value_at raised) (value_at tiled.image.image)) tile generation)
      → AreHintsOnceJoined core swept told
  edges_once_joined edges_open same_edges tiles generation before told tiles_are generation_is none told_is =
      let t = swept.job.ticket.tile in
      let sound = kept_sound tiled core view stored in
      let masks = stored.stored.masks in
      let edges =
      told_are_edges (parts_of tiled) core tiles view tiles_are (sym masks.width) (sym masks.height) t tile generation
      tiled.markers.mask raised before told refl tile_is generation_is none told_is in
      record {
        hints = λ after joined. edges
            ∙ hints_once_joined core after t swept.pixels raised sound is_tile
            (raised_of_is (tile_rect core t) core.image swept.pixels) joined same_edges;
        touching =
            rw edges (edges_touch edges_open
            (record (sender_of core t) {
              image = with_tile (work.tiling core) t (value_at raised) (work.image_at core);
            })
            sound.shape.tiled (omega (arith, is_tile, sound.shape.tiles)));
      }

  -- ---- with four neighbours

  -- the image with the raised tile
  abbrev image_once : Pixel → ℕ
  image_once = with_tile tiled.image.tiling tile (value_at raised) (value_at tiled.image.image)

  -- what was told, by the rim of a part that raises the tile, are the hints of its open edges
  pub told_along : core.conn ≡ Four → EdgesAreOpen → SameImageSameEdges → (part : Raster) (rim : Rim)
      (told : List TileWork) → IsRimOf part rim
      → RaisesAs (tile_rect core swept.job.ticket.tile) core.image swept.pixels part
      → ((mask : Raster) (value image : Pixel → ℕ) → AreRimsOf tiled.image.tiling mask tiled.mask_rims
      → HasValues (rect_of tiled.image.tiling tile) value rim
      → IsRaisedOnRim tiled.image.tiling tile tiled.image.image value image
      → IsSameBeyond tiled.image.tiling tile tiled.image.image image
      → AreReceived tiled.image.tiling (open_edges (sender_by tiled.image.tiling Four (value_at mask) image tile
      (work_of tiled.work tile).generation)) tiled.work told)
      → (hints : List Hint) × AreHintsOnceJoined core swept hints
      × AreReceived tiled.image.tiling hints tiled.work told
  told_along four edges_open same_edges part rim told is_rim raises receive =
      let t = swept.job.ticket.tile in
      let tiles = tiled.image.tiling in
      let own = rect_of tiles tile in
      let whole = tiled.image.image in
      let mask = tiled.markers.mask in
      let generation = (work_of tiled.work tile).generation in
      let edges : Conn → List Hint = λ conn.
      open_edges (sender_by tiles conn (value_at mask) image_once tile generation) in
      let kept : RaisesAs own whole swept.pixels part =
      of_kept_at tiled core view stored (λ rect image. RaisesAs rect image swept.pixels part) t tile tile_is raises in
      let is_tiled : IsTiled tiles =
      subst IsTiled (sym (kept_tiling tiled core view stored)) (kept_sound tiled core view stored).shape.tiled in
      let within : tile < count_of tiles =
      is_kept_tile tiled core view stored tile (subst (IsTile core) (sym tile_is) is_tile) in
      let rect_is : tile_rect core t ≡ own =
      ap (tile_rect core) (sym tile_is) ∙ sym (kept_rect tiled core view stored tile) in
      let on_rim : IsRaisedOnRim tiles tile whole (value_in own part) image_once = λ edge p inside.
      on_tile tiles tile is_tiled within whole raised p (strip_in_tile tiles tile is_tiled within edge p inside)
      ∙ sym (rim_is_raised tiles tile is_tiled within (tile_rect core t) core.image whole swept.pixels part rect_is
      (sym (kept_image tiled core view stored)) raises edge p inside) in
      let once =
      edges_once_joined edges_open same_edges tiles generation [] (edges Four) stored.tiling refl refl
      (ap edges (sym (ap (λ (k : Core). k.conn) view ∙ four))) in
      let received =
      receive mask (value_in own part) image_once
      (subst (λ (ts : Tiles). AreRimsOf ts mask tiled.mask_rims) (sym stored.tiling) stored.mask_rims)
      (rim_values own part rim is_rim kept.width kept.height) on_rim
      (off_tile tiles tile is_tiled within whole raised) in
      (edges Four, once, received)
