-- A band that stands somewhere: what is true of it by itself, and that it still stands somewhere once a tile is swept.
use Rattle.std.proofs.Common.{◌≡◌, ℕ, ◌+◌, ◌*◌, ◌<◌, sym, ap, ◌∙◌, subst, arith, List, length, get_or, None}
use Rattle.std.proofs.lemmas.List.{length-set}
use Rattle.grid_core.specs.{declared.bounds.Bounds.Bounds, declared.pixel.Pixel.Pixel, Bounds.IsInBounds, Bounds.LieIn}
use Rattle.grid_core.specs.{Bounds.no_bounds, Path.Inside, Raster.IsBelow, Raster.value_at}
use Rattle.grid_core.specs.Neighbours.{AreNeighbours}
use Rattle.grid_core.specs.Tiles.{Tiles, count_of, tile_of, rect_of}
use Rattle.grid_core.proofs.Cells.{each_pixel_below}
use Rattle.grid_core.proofs.Tilings.{tile_of-within}
use Rattle.border_queues.specs.{Laws.EdgesAreOpen, TileWork.TileWork, TileWork.idle}
use Rattle.core_rules.specs.{Image.IsOpen}
use Rattle.core_rules.specs.Work.{Core, tiling, domain, mask_at, image_at, work_at}
use Rattle.tile_work.specs.OpenBounds.{bounds_for}
use Rattle.reset_core.specs.{Bounding.AreBounded, Telling.ImageAndWork, Telling.image_and_work}
use Rattle.reset_core.specs.Telling.{with_image_and_work}
use Rattle.reset_core.specs.Bands.{IsSomewhere, Strip, IsSweptInBand, rows_above, tiles_above, lowered, lowered_bounds}
use Rattle.reset_core.specs.Bands.{put_bounds, put_in}
use Rattle.reset_core.proofs.Bands.Tiles.{tile_of_lowered, rect_of_lowered, lowered-within, neighbours_lowered}
use Rattle.reset_core.proofs.Bands.Tiles.{inside_lowered}
use Rattle.reset_core.proofs.Bands.States.{get_between, value_put}
use Rattle.reset_core.proofs.Bands.Bounds.{bounds_put, lie_raised}
use Rattle.reset_core.proofs.Bands.Runs.{final, one, next_is, bounded_then}

module _ (tiles : Tiles) (above : ℕ) (strip : Strip) (somewhere : IsSomewhere tiles above strip) where
  abbrev whole : Core
  whole = somewhere.whole

  abbrev band : Core
  band = strip.core

  abbrev rows : ℕ
  rows = rows_above (tiling whole) above

  image_is : (p : Pixel) → Inside (domain band) p → image_at whole (lowered rows p) ≡ image_at band p
  image_is p inside =
      ap (λ (s : ImageAndWork). value_at s.image (lowered rows p)) somewhere.is.parts
      ∙ value_put (tiling whole) above (tiling band) somewhere.sound.shape.tiled somewhere.tiled somewhere.is.tiles
      somewhere.around (image_and_work band) somewhere.is.fits p inside

  inside_whole : (p : Pixel) → Inside (domain band) p → Inside (domain whole) (lowered rows p)
  inside_whole p inside =
      inside_lowered (tiling whole) above (tiling band) somewhere.sound.shape.tiled somewhere.tiled somewhere.is.tiles p
      inside

  -- a pair that is open in the band is open in the whole
  open_in_whole : (p q : Pixel) → IsOpen (domain band) (mask_at band) (image_at band) p q
      → IsOpen (domain whole) (mask_at whole) (image_at whole) (lowered rows p) (lowered rows q)
  open_in_whole p q wide = record {
    from_inside = inside_whole p wide.from_inside;
    to_inside = inside_whole q wide.to_inside;
    beside =
        subst (λ conn. AreNeighbours conn (lowered rows p) (lowered rows q)) somewhere.is.conn
        (neighbours_lowered band.conn rows p q wide.beside);
    lower = omega (
      arith,
      wide.lower,
      image_is p wide.from_inside,
      image_is q wide.to_inside,
      somewhere.is.mask q wide.to_inside,
    );
  }

  bounds_are : (t : ℕ) → t < length strip.table
      → bounds_for (put_bounds rows somewhere.table_above somewhere.table_below strip.table)
      (tiles_above (tiling whole) above + t) ≡ lowered_bounds rows (bounds_for strip.table t)
  bounds_are t within =
      bounds_put (tiling whole) above (tiling band) somewhere.sound.shape.tiled somewhere.tiled somewhere.is.tiles
      somewhere.around somewhere.table_above somewhere.table_below somewhere.count_above strip.table t within

  -- in the band by itself nothing open begins outside the bounds
  pub band_bounded : AreBounded band strip.table
  band_bounded =
      let wide = put_bounds rows somewhere.table_above somewhere.table_below strip.table in
      let bounded = somewhere.bounded in
      record {
        count = somewhere.count;
        lie = λ t within.
            let tile : t < count_of (tiling band) = omega (arith, within, somewhere.count) in
            let there = tiles_above (tiling whole) above + t in
            let in_whole =
            lowered-within (tiling whole) above (tiling band) somewhere.sound.shape.tiled somewhere.tiled
            somewhere.is.tiles t tile in
            let lies : LieIn (bounds_for wide there) (rect_of (tiling whole) there) =
            bounded.lie there (omega (arith, in_whole, bounded.count)) in
            lie_raised rows (bounds_for strip.table t) (rect_of (tiling band) t)
            (subst (λ r. LieIn (lowered_bounds rows (bounds_for strip.table t)) r)
            (rect_of_lowered (tiling whole) above (tiling band) somewhere.sound.shape.tiled somewhere.tiled
            somewhere.is.tiles t tile)
            (subst (λ b. LieIn b (rect_of (tiling whole) there)) (bounds_are t within) lies));
        begin = λ p q open_pair.
            let t = tile_of (tiling band) p in
            let within : t < length strip.table =
            omega (arith, tile_of-within (tiling band) p somewhere.tiled open_pair.from_inside, somewhere.count) in
            let home =
            tile_of_lowered (tiling whole) above (tiling band) somewhere.sound.shape.tiled somewhere.tiled
            somewhere.is.tiles p in
            let begins : IsInBounds (bounds_for wide (tile_of (tiling whole) (lowered rows p))) (lowered rows p) =
            bounded.begin (lowered rows p) (lowered rows q) (open_in_whole p q open_pair) in
            let lower : IsInBounds (lowered_bounds rows (bounds_for strip.table t)) (lowered rows p) =
            subst (λ b. IsInBounds b (lowered rows p)) (bounds_are t within)
            (subst (λ n. IsInBounds (bounds_for wide n) (lowered rows p)) home begins) in
            (lower.0, lower.1, omega (arith, lower.2), omega (arith, lower.3));
      }

  -- the band is nowhere above its mask
  pub band_below : IsBelow band.image band.mask
  band_below =
      let filled : length band.image.cells ≡ band.image.width * band.image.height = somewhere.is.fits.filled in
      each_pixel_below band.image band.mask filled somewhere.is.fits.band_width
      somewhere.is.fits.band_height (λ p inside.
      let here : Inside (domain band) p =
      (omega (arith, inside.0, somewhere.is.fits.band_width), omega (arith, inside.1, somewhere.is.fits.band_height)) in
      let below = (somewhere.sound.supported (lowered rows p) (inside_whole p here)).1 in
      omega (arith, below, image_is p here, somewhere.is.mask p here))

  -- no job of its tiles is out
  pub none_out : (t : ℕ) → t < length band.tiles → (work_at band t).out ≡ None
  none_out t within =
      let around = somewhere.around in
      let there = tiles_above (tiling whole) above + t in
      let tile : t < count_of (tiling band) = omega (arith, within, somewhere.is.fits.works) in
      let in_whole =
      lowered-within (tiling whole) above (tiling band) somewhere.sound.shape.tiled somewhere.tiled somewhere.is.tiles
      t tile in
      let same : work_at whole there ≡ work_at band t =
      ap (λ (s : ImageAndWork). get_or s.rows there idle) somewhere.is.parts
      ∙ ap (λ n. get_or (put_in around (image_and_work band)).rows (n + t) idle) (sym somewhere.is.fits.works_above)
      ∙ get_between around.works_above band.tiles around.works_below t idle within in
      ap (λ (work : TileWork). work.out) (sym same)
      ∙ somewhere.left.none_out there (omega (arith, in_whole, somewhere.sound.shape.tiles))

  -- once a tile of it is swept it stands somewhere still
  pub still_somewhere : EdgesAreOpen → (t : ℕ) (next : Core) (middle : List Bounds)
      → IsSweptInBand tiles above band strip.table t next middle
      → IsSomewhere tiles above (record { core = next; table = middle })
  still_somewhere edges_open t next middle swept =
      let step : IsSweptInBand (tiling whole) above band strip.table t next middle =
      subst (λ w. IsSweptInBand w above band strip.table t next middle) (sym somewhere.tiling_is) swept in
      let done =
      one edges_open above somewhere.around somewhere.table_above somewhere.table_below whole band somewhere.tiled
      somewhere.sound somewhere.left somewhere.is strip.table middle somewhere.count_above somewhere.count
      somewhere.bounded t next step in
      let stands =
      next_is edges_open above somewhere.around somewhere.table_above somewhere.table_below whole band somewhere.tiled
      somewhere.sound somewhere.left somewhere.is strip.table middle somewhere.count_above somewhere.count
      somewhere.bounded t next step in
      let result : IsSomewhere tiles above (record { core = with_image_and_work band step.left; table = middle }) =
      record {
        whole =
            final edges_open above somewhere.around somewhere.table_above somewhere.table_below whole band
            somewhere.tiled
            somewhere.sound somewhere.left somewhere.is strip.table middle somewhere.count_above somewhere.count
            somewhere.bounded t next step;
        around = somewhere.around;
        table_above = somewhere.table_above;
        table_below = somewhere.table_below;
        tiling_is = somewhere.tiling_is;
        sound = done.1;
        left = done.0.left;
        tiled = somewhere.tiled;
        is = stands;
        count_above = somewhere.count_above;
        count = step.follow.widened.count ∙ length-set strip.table t no_bounds ∙ somewhere.count;
        bounded =
            bounded_then edges_open above somewhere.around somewhere.table_above somewhere.table_below whole band
            somewhere.tiled somewhere.sound somewhere.left somewhere.is strip.table middle somewhere.count_above
            somewhere.count somewhere.bounded t next step;
      } in
      subst (λ core. IsSomewhere tiles above (record { core = core; table = middle })) (sym step.result) result
