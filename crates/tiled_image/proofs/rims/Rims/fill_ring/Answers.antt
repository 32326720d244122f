-- What the tactics leave open of `fill_ring`.
use Rattle.std.proofs.Common.{◌≡◌, ◌<◌, ◌↔◌, ℕ, Contains, List, slice_index, sym, subst, ◌∙◌}
use Rattle.std.proofs.lemmas.List.Elements.{Contains-get_or}
use Rattle.grid_core.specs.{declared.rect.Rect.Rect, Tiles.Tiles, Tiles.AreTouching, Tiles.count_of}
use Rattle.tiled_image.specs.Rims.{AreRimsOf}
use Rattle.tiled_image.proofs.RingTiles.{AreTilesShown, one_more_shown, ring_shown}
use Rattle.tiled_image.proofs.rims.Rims.fill_ring.Goals as goal

-- which tiles are listed
listed : (tiling : Tiles) (tile : ℕ) (touching tiles : List ℕ) → tiles ≡ touching
    → ((other : ℕ) → Contains touching other ↔ (AreTouching tiling tile other × (other < count_of tiling)))
    → (other : ℕ) → Contains tiles other ↔ (AreTouching tiling tile other × (other < count_of tiling))
listed tiling tile touching tiles tiles_are members other =
    subst (λ (ts : List ℕ). Contains ts other ↔ (AreTouching tiling tile other × (other < count_of tiling)))
    (sym tiles_are) (members other)

pub fill_from-requires-clause-other : goal.fill_from-requires-clause-other
fill_from-requires-clause-other c =
    let tiles = c.as_slice-tiles.result.now in
    let i = c.loop-other.other-index in
    let members = listed c.args.tiling.now c.args.tile c.touching-touching.result tiles c.as_slice-tiles.ensures.tiles
    c.touching-touching.ensures.members in
    ((members (slice_index tiles i)).0 (Contains-get_or tiles i 0 c.loop-other-test.true)).1

pub fill_from-requires-clause-differ : goal.fill_from-requires-clause-differ
fill_from-requires-clause-differ c =
    let tiles = c.as_slice-tiles.result.now in
    let i = c.loop-other.other-index in
    let members = listed c.args.tiling.now c.args.tile c.touching-touching.result tiles c.as_slice-tiles.ensures.tiles
    c.touching-touching.ensures.members in
    ((members (slice_index tiles i)).0 (Contains-get_or tiles i 0 c.loop-other-test.true)).0.other

pub loop-other-preserved : goal.loop-other-preserved
loop-other-preserved c image are =
    one_more_shown c.args.tiling.now image c.around_of-around.result c.as_slice-tiles.result.now
    c.loop-other.other-index c.loop-other.cells c.fill_from.new.cells (c.loop-other.invariant image are)
    (c.fill_from.ensures image (subst (AreRimsOf c.args.tiling.now image)
    (sym (c.deref.ensures.value ∙ c.self.view_is)) are))

pub returns : goal.returns
returns c image are =
    let tiling = c.args.tiling.now in
    let tile = c.args.tile in
    let tiles = c.as_slice-tiles.result.now in
    let count = c.loop-other.other-index in
    let members = listed tiling tile c.touching-touching.result tiles c.as_slice-tiles.ensures.tiles
    c.touching-touching.ensures.members in
    ring_shown tiling tile image tiles c.loop-other.cells count c.side.ensures.tiled c.requires.tile members
    c.loop-other-test.false
    (subst (λ (rect : Rect). AreTilesShown tiling image rect tiles count c.loop-other.cells)
    c.around_of-around.ensures.value (c.loop-other.invariant image are))
