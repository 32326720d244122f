use Rattle.std.proofs.Common.{◌≡◌, sym, subst, ◌↔◌}
use Rattle.grid_core.specs.{declared.rect.Rect.Rect, Raster.Raster, Rects.IsInRect, Tiles.tile_of, Tiles.rect_of}
use Rattle.border_queues.specs.Borders.{CoversAround}
use Rattle.border_queues.proofs.edges.border_of.Goals as goal

pub returns-clause-border : goal.returns-clause-border
returns-clause-border c =
    let t = c.args.tiling.now in
    let tile = c.args.tile in
    let same = c.rect-rect.ensures.value in
    let fits = c.rect-rect.ensures.fits in
    let covers : (view : Raster) → CoversAround t (rect_of t tile) c.args.origin view
    → CoversAround t c.rect-rect.result c.args.origin view =
    λ view. subst (λ (rect : Rect). CoversAround t rect c.args.origin view) (sym same) in
    record {
      tiled = c.side.ensures.tiled;
      rect = same;
      mask = covers c.args.mask.now c.requires.mask;
      image = covers c.args.image.now c.requires.image;
      inside = c.width.ensures.sized.size;
      inside_columns = rw same c.requires.columns;
      inside_rows = rw same c.requires.rows;
      fits = fits;
      own = λ p inside. subst (λ (rect : Rect). IsInRect rect p ↔ (tile_of t p ≡ tile)) (sym same)
          ((c.each_pixel_in_one_tile.ensures t p c.side.ensures.tiled inside).1 tile c.requires.tile);
      lie = rw same c.requires.lie;
      begin = c.requires.bounds;
    }
