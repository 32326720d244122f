-- Which pixels are neighbours.
use Rattle.std.specs.Prelude.{◌≡◌, ℕ, ◌+◌, ◌-◌, ◌<◌, ◌≤◌, ◌⊎◌, List, [], ◌∷◌}
use Rattle.std.specs.List.{AllByRecursion}
use Rattle.grid_core.specs.{declared.conn.Conn.Conn, declared.pixel.Pixel.Pixel}
use Rattle.grid_core.specs.declared.conn.Conn.TheVariants.{Four, Eight}

-- how far two coordinates lie apart
abbrev pub apart : ℕ → ℕ → ℕ
apart a b = (a - b) + (b - a)

-- 4-connected: 1 apart in one coordinate and equal in the other. 8-connected: not equal, and at most 1
-- apart in each coordinate (Vincent 1993)
abbrev pub AreNeighbours : Conn → Pixel → Pixel → Type 0
AreNeighbours Four p q = apart p.x q.x + apart p.y q.y ≡ 1
AreNeighbours Eight p q = (apart p.x q.x ≤ 1) × (apart p.y q.y ≤ 1) × (1 ≤ apart p.x q.x + apart p.y q.y)

-- the pixel comes before the other in raster order: row by row from the top, each row from the left
abbrev pub IsBefore : Pixel → Pixel → Type 0
IsBefore p q = (p.y < q.y) ⊎ ((p.y ≡ q.y) × (p.x < q.x))

-- each pixel comes before all later ones
abbrev pub IsInRasterOrder : List Pixel → Type 0
IsInRasterOrder [] = Unit {0}
IsInRasterOrder (p ∷ rest) = AllByRecursion (IsBefore p) rest × IsInRasterOrder rest
