-- What the tactics leave open of `fill_raised_ring`.
use Rattle.std.proofs.Common.{◌≡◌, ◌*◌, ◌<◌, ◌≤◌, length, ap, sym, subst, ◌∙◌, arith, refl}
use Rattle.grid_core.specs.Tiles.{Tiles, count_of, rect_of}
use Rattle.border_queues.specs.Around.{around_of}
use Rattle.tiled_image.specs.{RaisedTiles.whole_of, Raising.greater_of, Rims.IsRimOf, Rims.room_of}
use Rattle.tiled_image.specs.{Ring.IsBorderShown, Sides.HasSides, Sides.HasValues, TiledImage.TiledRaster}
use Rattle.tiled_image.proofs.{KeptImages.tile_before, RaisedParts.bounds_seen, RaisedParts.greater_on_rim}
use Rattle.tiled_image.proofs.RaisedParts.{rim_seen}
use Rattle.tiled_image.proofs.image.TiledImage.fill_raised_ring.Goals as goal

pub fill_border-requires-clause-tile : goal.fill_border-requires-clause-tile
fill_border-requires-clause-tile c =
    subst (λ (ts : Tiles). c.args.tile < count_of ts) (sym c.tiling-tiling.ensures.value) c.requires.tile

pub fill_border-requires-clause-rim : goal.fill_border-requires-clause-rim
fill_border-requires-clause-rim c =
    subst (λ (ts : Tiles). HasSides (rect_of ts c.args.tile) c.args.rim.now) (sym c.tiling-tiling.ensures.value)
    c.requires.rim

pub fill_border-requires-clause-room : goal.fill_border-requires-clause-room
fill_border-requires-clause-room c =
    let long : length c.fill_ring.new.cells ≡ length c.args.cells.now = omega arith in
    subst (λ (ts : Tiles). (around_of ts c.args.tile).w * (around_of ts c.args.tile).h ≤ length c.fill_ring.new.cells)
    (sym c.tiling-tiling.ensures.value)
    (subst (λ n. (around_of c.args.self.now.tiling c.args.tile).w * (around_of c.args.self.now.tiling c.args.tile).h
    ≤ n) (sym long) c.requires.room)

pub bounds_over-requires-clause-count : goal.bounds_over-requires-clause-count
bounds_over-requires-clause-count c =
    let is = ap (λ (r : TiledRaster). r.tiling) c.self.view_is ∙ sym c.tiling-tiling.ensures.value in
    subst (λ (ts : Tiles). length c.self.inside.rims ≡ room_of ts) is c.self.invariant.shown.rims_are.count

pub bounds_over-requires-clause-tile : goal.bounds_over-requires-clause-tile
bounds_over-requires-clause-tile c =
    subst (λ (ts : Tiles). c.args.tile < count_of ts) (sym c.tiling-tiling.ensures.value) c.requires.tile

pub bounds_over-requires-clause-rim : goal.bounds_over-requires-clause-rim
bounds_over-requires-clause-rim c =
    subst (λ (ts : Tiles). HasSides (rect_of ts c.args.tile) c.args.rim.now) (sym c.tiling-tiling.ensures.value)
    c.requires.rim

pub returns-then-not-is_empty : goal.returns-then-not-is_empty
returns-then-not-is_empty c value has =
    let i = c.self.inside in
    let now = c.args.self.now in
    let tile = c.args.tile in
    let tiling_is = c.tiling-tiling.ensures.value in
    let whole = whole_of i.tiling i.rows i.parts i.newer i.rims in
    let start = c.fill_ring.new.cells in
    let mid = c.fill_border.new.cells in
    let end = c.raise_border.new.cells in
    let own = rim_seen now i.tiling whole i.rims tile c.self.view_is c.self.invariant.shown.rims_are
    (tile_before i.tiling whole now tile c.self.view_is c.requires.tile) in
    let shown =
    subst (λ (ts : Tiles). HasValues (rect_of ts tile) value c.args.rim.now
    → IsBorderShown (rect_of ts tile) value (around_of ts tile) start mid) tiling_is (c.fill_border.ensures value) has
    in
    let raised =
    subst (λ (ts : Tiles). IsRimOf ts now.image i.rims tile
    → IsBorderShown (rect_of ts tile) value (around_of ts tile) mid mid
    → IsBorderShown (rect_of ts tile) (greater_of now.image value) (around_of ts tile) mid end) tiling_is
    (c.raise_border.ensures now.image value) own (record {
      border = shown.border;
      beyond = λ p near outside. refl;
    }) in
    record {
      ring = λ p near outside.
          raised.beyond p near outside ∙ shown.beyond p near outside ∙ c.fill_ring.ensures p near outside;
      border = raised.border;
    }

pub returns-else-not-is_empty : goal.returns-else-not-is_empty
returns-else-not-is_empty c value has =
    let i = c.self.inside in
    let now = c.args.self.now in
    let tile = c.args.tile in
    let tiling_is = c.tiling-tiling.ensures.value in
    let whole = whole_of i.tiling i.rows i.parts i.newer i.rims in
    let own = rim_seen now i.tiling whole i.rims tile c.self.view_is c.self.invariant.shown.rims_are
    (tile_before i.tiling whole now tile c.self.view_is c.requires.tile) in
    let over =
    bounds_seen now c.tiling-tiling.result i.rims tile c.args.rim.now c.bounds_over.result value tiling_is own
    c.bounds_over.ensures has in
    let shown =
    subst (λ (ts : Tiles). HasValues (rect_of ts tile) value c.args.rim.now
    → IsBorderShown (rect_of ts tile) value (around_of ts tile) c.fill_ring.new.cells c.fill_border.new.cells) tiling_is
    (c.fill_border.ensures value) has in
    record {
      ring = λ p near outside. shown.beyond p near outside ∙ c.fill_ring.ensures p near outside;
      border = λ edge p there.
          shown.border edge p there
          ∙ greater_on_rim (rect_of now.tiling tile) now.image value c.bounds_over.result over
          (c.if-not-is_empty.ensures.0 refl) edge p there;
    }
