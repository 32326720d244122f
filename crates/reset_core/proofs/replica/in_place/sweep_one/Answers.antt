use Rattle.std.proofs.Common.{◌≡◌, ◌<◌, ◌∙◌, ap, arith, get_or, length, refl, set, subst, sym, List, ℕ}
use Rattle.std.proofs.lemmas.List.{length-set}
use Rattle.grid_core.specs.{Bounds.no_bounds, Raster.Raster, Raster.IsInside, Raster.value_at, Rects.IsInRect}
use Rattle.grid_core.specs.{declared.pixel.Pixel.Pixel, declared.rect.Rect.Rect, Rects.domain_in, Rects.part}
use Rattle.grid_core.specs.Reconstruction.{IsReconstruction}
use Rattle.grid_core.specs.Tiles.{count_of}
use Rattle.border_queues.specs.{OpenEdges.open_edges, TileWork.TileWork, TileWork.idle}
use Rattle.core_rules.specs.Sweeps.{hints_of, tile_rect}
use Rattle.core_rules.specs.Work.{Core, tiling, work_at}
use Rattle.core_rules.proofs.Cores.{work_there}
use Rattle.raster_sweeps.specs.OpenBounds.{RiseWithin}
use Rattle.tile_work.specs.OpenBounds.{bounds_for}
use Rattle.reset_core.specs.Bounding.{FollowChange}
use Rattle.reset_core.specs.InPlace.{core_on}
use Rattle.reset_core.specs.Telling.{AreTold, IsGrownAt, both, both_on, clean, grown_core, image_and_work, image_on}
use Rattle.reset_core.proofs.{BoundedOrTold.begins_in_tile, BoundedOrTold.told_of_bounded, Bounding.edges_begin}
use Rattle.reset_core.proofs.replica.in_place.sweep_one.Goals.{After-get, After-tell}
use Rattle.reset_core.proofs.replica.in_place.sweep_one.Goals as goal

-- ---- before the sweep

abbrev start : After-get → Core
start c = core_on c.args.tiling.now c.args.conn c.args.mask.now c.args.image.now c.args.work.now

within : (c : After-get) → c.args.tile < count_of c.args.tiling.now
within c = omega (arith, c.requires.tile.parts.count, c.requires.tile.within)

pub grow_rows_from_bounds-area-requires-clause-close : goal.grow_rows_from_bounds-area-requires-clause-close
grow_rows_from_bounds-area-requires-clause-close c = rw (c.width.ensures.value, c.height.ensures.value) (record {
  size = c.requires.tile.parts.tiled.size;
  filled = c.requires.tile.parts.filled;
  mask_filled = c.requires.mask;
  below = c.requires.below;
  fits = c.rect.ensures.fits;
})

pub grow_rows_from_bounds-area-requires-clause-bounds : goal.grow_rows_from_bounds-area-requires-clause-bounds
grow_rows_from_bounds-area-requires-clause-bounds c =
    rw (c.get.ensures, c.rect.ensures.value, c.width.ensures.value, c.height.ensures.value)
    (begins_in_tile (start c) c.args.bounds.now c.args.tile c.requires.tile.parts.tiled
    (told_of_bounded (start c) c.args.bounds.now c.requires.bounded) (within c))

pub grow_rows_from_bounds-area-requires-clause-lie : goal.grow_rows_from_bounds-area-requires-clause-lie
grow_rows_from_bounds-area-requires-clause-lie c =
    rw (c.get.ensures, c.rect.ensures.value) (c.requires.bounded.lie c.args.tile
    (omega (arith, within c, c.requires.bounded.count)))

-- ---- once the tile has grown

pub tell-requires-clause-tile : goal.tell-requires-clause-tile
tell-requires-clause-tile c =
    let work = c.args.work.now in
    let row : TileWork = clean (start (goal.at.tell-requires-clause-tile c).After-get) c.args.tile in
    let filled =
    rw (c.width.ensures.value, c.height.ensures.value) at c.grow_rows_from_bounds-area.ensures.regrown.patch.size.filled
    in
    let count : length c.mark_clean.new.self ≡ length work =
    ap (λ (rows : List TileWork). length rows) c.mark_clean.ensures ∙ length-set work c.args.tile row in
    record {
      parts = record {
        tiled = c.requires.tile.parts.tiled;
        filled = filled;
        count = c.requires.tile.parts.count ∙ sym count;
      };
      within = omega (arith, count, c.requires.tile.within);
    }

pub tell-requires-clause-area : goal.tell-requires-clause-area
tell-requires-clause-area c =
    let at = (goal.at.tell-requires-clause-area c).After-get in
    let tiles = c.args.tiling.now in
    let grown = image_on tiles c.grow_rows_from_bounds-area.new.image in
    let area = c.grow_rows_from_bounds-area.result in
    let generation = (get_or c.mark_clean.new.self c.args.tile idle).generation in
    let beyond : (p : Pixel) → IsInside tiles.width tiles.height p → (IsInRect (tile_rect (start at) c.args.tile) p → ⊥)
    → value_at grown p ≡ value_at (image_on tiles c.args.image.now) p =
    rw (c.rect.ensures.value, c.width.ensures.value, c.height.ensures.value) at
    c.grow_rows_from_bounds-area.ensures.regrown.patch.beyond in
    let rise : RiseWithin (tile_rect (start at) c.args.tile) (image_on tiles c.args.image.now) grown
    (bounds_for c.args.bounds.now c.args.tile) area =
    rw (c.get.ensures, c.rect.ensures.value, c.width.ensures.value) at c.grow_rows_from_bounds-area.ensures.rises in
    edges_begin (start at) c.args.bounds.now c.args.tile generation grown area c.requires.tile.parts.tiled
    (record { width = refl; height = refl; filled = c.requires.tile.parts.filled }) c.requires.bounded (within at)
    beyond rise

pub tell-requires-clause-lie : goal.tell-requires-clause-lie
tell-requires-clause-lie c = rw c.rect.ensures.value at c.grow_rows_from_bounds-area.ensures.lie

pub tell-requires-clause-bounds : goal.tell-requires-clause-bounds
tell-requires-clause-bounds c =
    ap (λ (table : List _). length table) c.set.ensures
    ∙ length-set c.args.bounds.now c.args.tile c.none.result ∙ c.requires.bounded.count

-- ---- afterwards

abbrev before : After-tell → Core
before c = core_on c.args.tiling.now c.args.conn c.args.mask.now c.args.image.now c.args.work.now

abbrev image : After-tell → Raster
image c = image_on c.args.tiling.now c.grow_rows_from_bounds-area.new.image

grown : (c : After-tell) → IsGrownAt (before c) c.args.tile (image c)
grown c =
    let regrown = c.grow_rows_from_bounds-area.ensures.regrown in
    let on : ℕ → List ℕ → Pixel → ℕ = λ width cells.
    value_at (record { width = width; height = c.height.result; cells = cells }) in
    let to : Rect → ℕ → Type 0 = λ rect width.
    IsReconstruction (domain_in rect c.args.conn) (part rect (on width c.args.mask.now))
    (part rect (on width c.args.image.now)) (part rect (on width c.grow_rows_from_bounds-area.new.image)) in
    record {
      size = record {
        width = refl;
        height = refl;
        filled = rw (c.width.ensures.value, c.height.ensures.value) at regrown.patch.size.filled;
      };
      grown =
          subst (to (tile_rect (before c) c.args.tile)) c.width.ensures.value
          (subst (λ rect. to rect c.width.result) c.rect.ensures.value regrown.reconstruction);
      beyond = rw (c.rect.ensures.value, c.width.ensures.value, c.height.ensures.value) at regrown.patch.beyond;
    }

abbrev middle : After-tell → Core
middle c = grown_core (before c) c.args.tile (image c)

cleaned : (c : After-tell)
    → c.mark_clean.new.self ≡ set c.args.work.now c.args.tile (clean (before c) c.args.tile)
cleaned c = c.mark_clean.ensures

generation_is : (c : After-tell)
    → (get_or c.mark_clean.new.self c.args.tile idle).generation ≡ (work_at (before c) c.args.tile).generation
generation_is c =
    ap (λ (rows : List TileWork). (get_or rows c.args.tile idle).generation) (cleaned c)
    ∙ ap (λ (w : TileWork). w.generation)
    (work_there (before c) c.args.tile (clean (before c) c.args.tile) c.requires.tile.within)

told : (c : After-tell)
    → AreTold (tiling (before c)) (hints_of (before c) (middle c) c.args.tile) (image_and_work (middle c))
    (both_on c.args.tiling.now c.tell.new.image c.tell.new.work)
told c =
    let tiles = c.args.tiling.now in
    let to : ℕ → List TileWork → Type 0 = λ generation rows.
    AreTold tiles (open_edges (record {
      tiles = tiles;
      conn = c.args.conn;
      mask = value_at (image_on tiles c.args.mask.now);
      image = value_at (image c);
      tile = c.args.tile;
      generation = generation;
    })) (both (image c) rows) (both_on tiles c.tell.new.image c.tell.new.work) in
    let here : to (get_or c.mark_clean.new.self c.args.tile idle).generation c.mark_clean.new.self =
    c.tell.ensures.hints in
    subst (to (work_at (before c) c.args.tile).generation) (cleaned c)
    (subst (λ generation. to generation c.mark_clean.new.self) (generation_is c) here)

pub returns-clause-swept : goal.returns-clause-swept
returns-clause-swept c =
    let at = (goal.at.returns-clause-swept c).After-tell in
    let table = c.args.bounds.now in
    let cleared : c.set.new.self ≡ set table c.args.tile no_bounds =
    c.set.ensures ∙ ap (set table c.args.tile) c.none.ensures in
    let follow : FollowChange c.args.tiling.now c.args.conn (image at)
    (image_on c.args.tiling.now c.tell.new.image) (set table c.args.tile no_bounds) c.tell.new.bounds =
    rw cleared at (c.tell.ensures.bounds c.args.conn) in
    record { image = image at; grown = grown at; told = told at; follow = follow }
