-- Laws of open edges, as statements. Public functions have them as their contracts.
use Rattle.std.specs.Prelude.{◌≡◌, ℕ, ◌<◌, ◌⊎◌, ◌↔◌, List, [], ◌∷◌, map, Contains}
use Rattle.std.specs.List.{AllByRecursion}
use Rattle.grid_core.specs.{declared.bounds.Bounds.Bounds, declared.pixel.Pixel.Pixel, Bounds.bounds_of}
use Rattle.grid_core.specs.{Raster.IsInside, Neighbours.IsBefore, Tiles.IsTiled, Tiles.count_of, Tiles.rect_of}
use Rattle.border_queues.specs.OpenEdges.{Sender, EdgesBeginIn, IsOpenEdge, hint_to, open_edges}
use Rattle.border_queues.specs.Around.{AreSameBeside, AreSameOnBorder}

-- senders whose images are equal at each pixel have the same open edges
abbrev pub SameImageSameEdges : Type 0
SameImageSameEdges =
    (s : Sender) (image : Pixel → ℕ) → IsTiled s.tiles → s.tile < count_of s.tiles
    → ((p : Pixel) → IsInside s.tiles.width s.tiles.height p → s.image p ≡ image p)
    → open_edges s ≡ open_edges (record s { image = image })

-- senders whose images are equal on the tile's border and beside the tile, and whose masks are beside it, have the same
-- open edges
abbrev pub SameAroundSameEdges : Type 0
SameAroundSameEdges =
    (s : Sender) (mask image : Pixel → ℕ) → IsTiled s.tiles → s.tile < count_of s.tiles
    → AreSameBeside s.tiles s.tile s.mask mask → AreSameBeside s.tiles s.tile s.image image
    → AreSameOnBorder s.tiles s.tile s.image image
    → open_edges s ≡ open_edges (record s { mask = mask; image = image })

-- the open edges of a tile begin within the bounds of its pixels
abbrev pub EdgesBeginInTile : Type 0
EdgesBeginInTile =
    (s : Sender) (bounds : Bounds) → IsTiled s.tiles → s.tile < count_of s.tiles
    → bounds ≡ bounds_of (rect_of s.tiles s.tile) → EdgesBeginIn s bounds

-- a pair comes before another: its inner pixel does, or it is the same and its outer pixel does
abbrev pub IsPairBefore : Pixel × Pixel → Pixel × Pixel → Type 0
IsPairBefore a b = IsBefore a.0 b.0 ⊎ ((a.0 ≡ b.0) × IsBefore a.1 b.1)

-- each pair comes before all later ones
abbrev pub AreInPairOrder : List (Pixel × Pixel) → Type 0
AreInPairOrder [] = Unit {0}
AreInPairOrder (a ∷ rest) = AllByRecursion (IsPairBefore a) rest × AreInPairOrder rest

-- the hints are those of these open edges and of no others, in raster order of the inner and then the outer pixel
pub record AreHintsOf (s : Sender) (pairs : List (Pixel × Pixel)) : Type 0 where
  pub edges : (p q : Pixel) → Contains pairs (p, q) ↔ IsOpenEdge s p q
  pub order : AreInPairOrder pairs
  pub hints : open_edges s ≡ map (λ a. hint_to s (s.image a.0) a.1) pairs

-- a tile's hints are those of its open edges
abbrev pub EdgesAreOpen : Type 0
EdgesAreOpen =
    (s : Sender) → IsTiled s.tiles → s.tile < count_of s.tiles → (pairs : List (Pixel × Pixel)) × AreHintsOf s pairs
