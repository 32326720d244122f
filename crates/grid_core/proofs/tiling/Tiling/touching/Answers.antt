use Rattle.std.proofs.Common.{◌≡◌, ◌<◌, List, ℕ, map, ap, subst, sym, ◌∙◌, ◌↔◌, Contains}
use Rattle.std.specs.List.Sorted.{IsStrictlyIncreasing}
use Rattle.grid_core.specs.{declared.conn.Conn.TheVariants.Eight, declared.pixel.Pixel.Pixel, Neighbours.AreNeighbours}
use Rattle.grid_core.specs.Raster.{IsInside, index_of}
use Rattle.grid_core.specs.Tiles.{AreTouching, columns_of, rows_of, count_of}
use Rattle.grid_core.proofs.TilesBeside.{place_of, touching_tiles, raster_order_rises}
use Rattle.grid_core.proofs.tiling.Tiling.touching.Goals as goal

-- the tiles are those at the neighbours of the tile's place
tiles_are : (c : goal.After-tiles_at)
    → c.tiles_at.result ≡ map (index_of (columns_of c.args.self.now)) c.neighbours-around.result
tiles_are c =
    c.tiles_at.ensures ∙ ap (map (index_of c.columns-columns.result)) c.as_slice.ensures.pixels
    ∙ ap (λ n. map (index_of n) c.neighbours-around.result) c.columns-columns.ensures.value

around_are : (c : goal.After-tiles_at) (q : Pixel) → Contains c.neighbours-around.result q
    ↔ (AreNeighbours Eight (place_of c.args.self.now c.args.tile) q
    × IsInside (columns_of c.args.self.now) (rows_of c.args.self.now) q)
around_are c =
    rw (c.column.ensures.value, c.row.ensures.value, c.columns-columns.ensures.value, c.rows.ensures.value)
    at c.neighbours-around.ensures.members

pub returns-clause-members : goal.returns-clause-members
returns-clause-members c =
    let t = c.args.self.now in
    let tile = c.args.tile in
    λ other. subst (λ (tiles : List ℕ). Contains tiles other ↔ (AreTouching t tile other × (other < count_of t)))
    (sym (tiles_are c))
    (touching_tiles t tile c.neighbours-around.result c.columns-columns.ensures.tiled (around_are c) other)

pub returns-clause-rising : goal.returns-clause-rising
returns-clause-rising c =
    let t = c.args.self.now in
    subst (λ (tiles : List ℕ). IsStrictlyIncreasing tiles) (sym (tiles_are c))
    (raster_order_rises (columns_of t) c.neighbours-around.result c.neighbours-around.ensures.order
    (λ q there. ((around_are c q).0 there).1.0))
