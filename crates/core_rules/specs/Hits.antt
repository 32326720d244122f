-- Which tiles a withdrawal resets.
use Rattle.std.specs.Prelude.{◌≡◌, ℕ, ◌<◌, List, [], ◌∷◌, IsTrue}
use Rattle.grid_core.specs.{declared.conn.Conn.Conn, declared.pixel.Pixel.Pixel, Raster.Raster, Raster.IsInside}
use Rattle.grid_core.specs.{Raster.value_at, Neighbours.AreNeighbours, Tiles.Tiles, Tiles.tile_of, Tiles.AreTouching}
use Rattle.stroke_core.specs.Seed.{Seed, covers}
use Rattle.stroke_lattice.specs.State.{State, IsLive, IsLiveTag}
use Rattle.core_rules.specs.Work.{Core, tiling, IsTile}

-- the pixel lies in the image, and in this tile of it
pub record IsInTile (tiles : Tiles) (t : ℕ) (p : Pixel) : Type 0 where
  pub inside : IsInside tiles.width tiles.height p
  pub tile : tile_of tiles p ≡ t

-- some pixel of the tile is one of these
abbrev pub HoldsOne : Tiles → (Pixel → Type 0) → ℕ → Type 0
HoldsOne tiles P t = (p : Pixel) × IsInTile tiles t p × P p

-- a dead stroke covers the pixel: it is live at first, and its tag is not live afterwards
pub record LosesStroke (before after : State) (p : Pixel) : Type 0 where
  pub tag : ℕ
  pub seed : Seed
  pub was : IsLive before tag seed
  pub is_dead : IsLiveTag after tag → ⊥
  pub covered : IsTrue (covers seed p)

-- the tiles hold neighbouring pixels at which the image is above 0
pub record AreLinked (tiles : Tiles) (image : Raster) (conn : Conn) (t u : ℕ) : Type 0 where
  pub p : Pixel
  pub q : Pixel
  pub from : IsInTile tiles t p
  pub to : IsInTile tiles u q
  pub beside : AreNeighbours conn p q
  pub from_above : 0 < value_at image p
  pub to_above : 0 < value_at image q

-- the tiles of the list, the last of them first, lead to the tile: the first is one of these, and each is linked to
-- the next
abbrev pub LeadFrom : (ℕ → Type 0) → (ℕ → ℕ → Type 0) → List ℕ → ℕ → Type 0
LeadFrom P linked [] t = P t
LeadFrom P linked (u ∷ before) t = LeadFrom P linked before u × linked u t

-- such a list leads to the tile
abbrev pub IsReached : (ℕ → Type 0) → (ℕ → ℕ → Type 0) → ℕ → Type 0
IsReached P linked t = (before : List ℕ) × LeadFrom P linked before t

-- a list of linked tiles leads to the tile from one that holds a pixel that a dead stroke covers
abbrev pub IsHitIn : Tiles → Raster → Conn → State → State → ℕ → Type 0
IsHitIn tiles image conn before after t =
    IsReached (HoldsOne tiles (LosesStroke before after)) (AreLinked tiles image conn) t

-- so it is in the core, where its strokes become these
abbrev pub IsHit : Core → State → ℕ → Type 0
IsHit core after t = IsHitIn (tiling core) core.image core.conn core.state after t

-- the tile touches one that is hit
pub record TouchesHit (core : Core) (after : State) (t : ℕ) : Type 0 where
  pub u : ℕ
  pub is_tile : IsTile core u
  pub hit : IsHit core after u
  pub touching : AreTouching (tiling core) t u
