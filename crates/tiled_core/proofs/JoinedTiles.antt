-- Parts that raise a tile as a piece does, and images into which they are joined.
use Rattle.std.proofs.Common.{◌≡◌, ℕ, ◌<◌, ◌≤◌, ◌⊎◌, List, ap, arith, inl, inr, max, refl, subst, sym, ◌∙◌}
use Rattle.std.proofs.Common.{slice_index_or, slice_set}
use Rattle.grid_core.specs.declared.bounds.Bounds.{Bounds}
use Rattle.grid_core.specs.{declared.pixel.Pixel.Pixel, declared.rect.Rect.Rect, Rects.IsInRect, Rects.in_image}
use Rattle.grid_core.specs.Raster.{Raster, IsFilled, value_at}
use Rattle.grid_core.specs.Tiles.{Tiles, IsTiled, count_of, rect_of}
use Rattle.border_queues.specs.{declared.hint.Hint.Hint, Laws.EdgesAreOpen, TileWork.TileWork, TileWork.idle}
use Rattle.core_rules.specs.{Image.IsJoinedWith, Laws.GiveBackKeepsSound, Work.Core, Work.tiling}
use Rattle.core_rules.specs.Sweeps.{IsJoined, IsKnown, IsUnchanged, tile_rect}
use Rattle.core_rules.proofs.Joining.{base_at_most}
use Rattle.reset_core.specs.{Answers.IsJoinable, Parts.AreBoundsAbove, Parts.IsBelowPiece, Parts.IsRaisedPart}
use Rattle.reset_core.specs.Sweeping.{AreHintsOnceJoined}
use Rattle.reset_core.specs.Replica as replica
use Rattle.reset_core.proofs.Sweeping.{come_back, joined_is_stored, parts_joined, swept_is_above}
use Rattle.tile_generations.specs.{Jobs.IsSwept, Jobs.Swept, Rims.Rim}
use Rattle.tile_work.specs.WorkTable.{AreReceived}
use Rattle.tiled_image.specs.Raising.{IsBelowInside, IsBelowRim, RaisesAs, greater_of}
use Rattle.tiled_image.specs.{declared.rims.Edge.Edge, Rims.strip_of, Ring.HasRimmedRing}
use Rattle.tiled_image.specs.{Shown.place_in, Shown.value_in, TiledImage.raster_of}
use Rattle.tiled_image.proofs.Places.{image_of_place, place_inside}
use Rattle.tiled_image.proofs.Rasters.{raster_of-filled, value_at-raster_of}
use Rattle.tiled_image.proofs.Strips.{strip_in_tile}
use Rattle.tiled_core.specs.declared.replica.TiledCore.TheInside.{Inside as TiledParts}
use Rattle.tiled_core.specs.{Joining.IsRaising, Stored.core_of, Stored.parts_of, Stored.IsStored}
use Rattle.tiled_core.proofs.StoredCore.{kept_rect, of_kept_at}

-- ---- parts that raise a tile

-- the piece itself does
pub raises_itself : (rect : Rect) (image piece : Raster) → piece.width ≡ rect.w → piece.height ≡ rect.h
    → IsFilled piece → RaisesAs rect image piece piece
raises_itself rect image piece width height filled = record {
  width = width;
  height = height;
  filled = filled;
  values = λ p inside. refl;
}

-- and so does the tile once it is raised
pub raised_raises : (rect : Rect) (image piece raised : Raster) → IsRaisedPart rect image piece raised
    → RaisesAs rect image piece raised
raised_raises rect image piece raised is_raised = record {
  width = is_raised.width;
  height = is_raised.height;
  filled = is_raised.filled;
  values = λ p inside. omega (arith, is_raised.values p inside);
}

-- the tile as it is once it is raised to a piece
abbrev pub raised_of : Rect → Raster → Raster → Raster
raised_of rect image piece =
    raster_of rect.w rect.h (λ p. max (value_at image (in_image rect p)) (value_at piece p))

pub raised_of_is : (rect : Rect) (image piece : Raster) → IsRaisedPart rect image piece (raised_of rect image piece)
raised_of_is rect image piece =
    let value : Pixel → ℕ = λ p. max (value_at image (in_image rect p)) (value_at piece p) in
    record {
      width = refl;
      height = refl;
      filled = raster_of-filled rect.w rect.h value;
      values = value_at-raster_of rect.w rect.h value;
    }

-- ---- tiles that are nowhere above a piece, but on the rim

pub below_inside : (rect : Rect) (image piece : Raster) → IsBelowPiece rect image piece
    → IsBelowInside rect image (value_in rect piece)
below_inside rect image piece below p found inner =
    subst (λ (q : Pixel). value_at image q ≤ value_in rect piece p) (image_of_place rect p found)
    (below (place_in rect p) (place_inside rect p found))

-- a tile is nowhere above what it is once it is raised
pub raised_is_above : (rect : Rect) (image piece raised : Raster) → IsRaisedPart rect image piece raised
    → IsBelowInside rect image (value_in rect raised)
raised_is_above rect image piece raised is_raised =
    below_inside rect image raised (λ p inside. omega (arith, is_raised.values p inside))

-- nor, but on the rim, above what a sweep gave, where it is as it was but for its rim
pub kept_is_below : (core : Core) (swept : Swept) → IsSwept swept → IsKnown core swept.job
    → IsUnchanged core swept.job ⊎ IsBelowRim (tile_rect core swept.job.ticket.tile) core.image swept.job.base
    → IsBelowInside (tile_rect core swept.job.ticket.tile) core.image
    (value_in (tile_rect core swept.job.ticket.tile) swept.pixels)
kept_is_below core swept is_swept known (inl unchanged) p found inner =
    below_inside (tile_rect core swept.job.ticket.tile) core.image swept.pixels
    (swept_is_above core swept is_swept known unchanged) p found inner
kept_is_below core swept is_swept known (inr below) p found inner =
    let rect = tile_rect core swept.job.ticket.tile in
    let inside = place_inside rect p found in
    let low = base_at_most swept is_swept (place_in rect p)
    (omega (arith, inside.0, known.mask.width), omega (arith, inside.1, known.mask.height)) in
    omega (arith, below.inner p found inner, low)

-- ---- the pixels around a tile

-- the values on its rim, raised to a part, are those of the tile as it is once it is raised
pub rim_is_raised : (tiles : Tiles) (tile : ℕ) → IsTiled tiles → tile < count_of tiles → (rect : Rect)
    (image kept piece part : Raster) → rect ≡ rect_of tiles tile → image ≡ kept → RaisesAs rect image piece part
    → (edge : Edge) (p : Pixel) → IsInRect (strip_of tiles tile edge) p
    → greater_of kept (value_in (rect_of tiles tile) part) p
    ≡ value_in (rect_of tiles tile) (raised_of rect image piece) p
rim_is_raised tiles tile tiled within rect image kept piece part rect_is image_is raises edge p inside =
    let own = rect_of tiles tile in
    let there : RaisesAs own kept piece part =
    subst (λ (r : Rect). RaisesAs r kept piece part) rect_is
    (subst (λ (i : Raster). RaisesAs rect i piece part) image_is raises) in
    let same : raised_of own kept piece ≡ raised_of rect image piece =
    ap (λ (r : Rect). raised_of r kept piece) (sym rect_is) ∙ ap (λ (i : Raster). raised_of rect i piece) (sym image_is)
    in
    let raised : IsRaisedPart own kept piece (raised_of rect image piece) =
    subst (IsRaisedPart own kept piece) same (raised_of_is own kept piece) in
    let found = strip_in_tile tiles tile tiled within edge p inside in
    let q : Pixel = place_in own p in
    let near = place_inside own p found in
    ap (λ (r : Pixel). max (value_at kept r) (value_at part q)) (sym (image_of_place own p found))
    ∙ there.values q near ∙ sym (raised.values q near)

-- its border, raised to a part, is that of the tile as it is once it is raised
pub ring_is_raised : (tiles : Tiles) (tile : ℕ) → IsTiled tiles → tile < count_of tiles → (rect : Rect)
    (image kept piece part : Raster) (cells : List ℕ) → rect ≡ rect_of tiles tile → image ≡ kept
    → RaisesAs rect image piece part
    → HasRimmedRing tiles tile kept (greater_of kept (value_in (rect_of tiles tile) part)) cells
    → HasRimmedRing tiles tile kept (value_in (rect_of tiles tile) (raised_of rect image piece)) cells
ring_is_raised tiles tile tiled within rect image kept piece part cells rect_is image_is raises has = record {
  ring = has.ring;
  border = λ edge p inside.
      has.border edge p inside
      ∙ rim_is_raised tiles tile tiled within rect image kept piece part rect_is image_is raises edge p inside;
}

-- ---- images that are joined

-- an image that is joined with a part is joined with the piece, too
pub joined_as : (rect : Rect) (piece part old new : Raster) → RaisesAs rect old piece part
    → IsJoinedWith rect part old new → IsJoinedWith rect piece old new
joined_as rect piece part old new raises joined = record {
  size = joined.size;
  within = λ p inside. joined.within p inside ∙ raises.values p inside;
  beyond = joined.beyond;
}

-- a swept tile of a core that is stored so: its part is put in, and its hints are told
module _ (tiled : TiledParts) (core : Core) (swept : Swept) (tiles : Tiles) (tile : ℕ) (part image : Raster)
    (rim : Rim) (area : Bounds) (told done : List TileWork) (hints : List Hint) (view : core_of tiled ≡ core)
    (stored : IsStored tiled) (tiles_are : tiles ≡ tiling core) (tile_is : tile ≡ swept.job.ticket.tile)
    (joinable : IsJoinable core swept.job) (raising : IsRaising core swept part rim area)
    (joined : IsJoinedWith (rect_of tiled.image.tiling tile) part tiled.image.image image)
    (once : AreHintsOnceJoined core swept hints) (receive : AreReceived tiles hints tiled.work told)
    (done_is : done ≡ slice_set told tile (come_back (slice_index_or told tile idle))) where
  -- the image that is kept is joined with what the sweep gave
  kept_is_joined : IsJoinedWith (rect_of tiled.image.tiling tile) swept.pixels tiled.image.image image
  kept_is_joined =
      joined_as (rect_of tiled.image.tiling tile) swept.pixels part tiled.image.image image
      (of_kept_at tiled core view stored (λ rect whole. RaisesAs rect whole swept.pixels part) swept.job.ticket.tile
      tile tile_is raising.raises) joined

  pub tile_is_joined : IsJoined core swept (replica.core_of (record (parts_of tiled) { image = image; work = done }))
  tile_is_joined =
      parts_joined (parts_of tiled) core swept tiles tile (rect_of tiled.image.tiling tile) swept.pixels image told
      done hints hints view tiles_are tile_is (kept_rect tiled core view stored tile) refl kept_is_joined
      once.touching refl receive done_is once.hints joinable.known.is_tile

  pub tile_is_stored : GiveBackKeepsSound → EdgesAreOpen → replica.IsStored (record (parts_of tiled) {
    image = image;
    work = done;
    bounds = slice_set tiled.bounds tile area;
  })
  tile_is_stored keeps edges_open =
      joined_is_stored (parts_of tiled) core swept tiles tile (rect_of tiled.image.tiling tile) swept.pixels image told
      done hints hints view tiles_are tile_is (kept_rect tiled core view stored tile) refl kept_is_joined
      once.touching refl receive done_is once.hints joinable.known.is_tile keeps edges_open area
      (of_kept_at tiled core view stored (λ rect whole. AreBoundsAbove rect rect.h whole swept.pixels area)
      swept.job.ticket.tile tile tile_is raising.above) stored.stored raising.of_sweep joinable.known joinable.out
      joinable.base
