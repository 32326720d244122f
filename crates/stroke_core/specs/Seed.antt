-- A seed: a level, painted on pixels.
use Rattle.std.specs.Prelude.{◌≡◌, ℕ, ◌+◌, ◌*◌, ◌<◌, ◌≤◌, ◌⊎◌, ◌==◌, ◌&&◌, nat_le, Bool, List, [], ◌∷◌, length}
use Rattle.std.specs.List.{list_any, AllByRecursion}
use Rattle.grid_core.specs.{declared.pixel.Pixel.Pixel, Neighbours.apart, Raster.max_level}
use Rattle.stroke_core.specs.{declared.error.StrokeError.StrokeError, declared.kind.Kind.Kind, declared.run.Run.Run}
use Rattle.stroke_core.specs.declared.error.StrokeError.TheVariants as errors
use Rattle.stroke_core.specs.declared.kind.Kind.TheVariants as kinds

-- the greatest number of runs; the least is 1
abbrev pub max_runs : ℕ
max_runs = 160

-- the greatest radius of a disc, in pixels; the least is 0
abbrev pub max_radius : ℕ
max_radius = 255

-- which pixels a seed is painted on: runs of pixels, or the disc of radius r round the pixel (x, y)
pub data Shape : Type 0 where
  Runs : (runs : List Run) → Shape
  Disc : (x y r : ℕ) → Shape

-- a level, and the shape that has it
pub record Seed : Type 0 where
  pub level : ℕ
  pub shape : Shape

-- the seed of a level and runs
abbrev pub seed_of : ℕ → List Run → Seed
seed_of level runs = record { level = level; shape = Runs runs }

-- whether the run has the pixel
abbrev pub run_covers : Run → Pixel → Bool
run_covers run p = (run.y == p.y) && (nat_le run.x0 p.x && nat_le p.x run.x1)

-- whether the pixel lies at most r away from the pixel (x, y)
abbrev pub disc_covers : ℕ → ℕ → ℕ → Pixel → Bool
disc_covers x y r p = nat_le (apart x p.x * apart x p.x + apart y p.y * apart y p.y) (r * r)

-- whether some run, or the disc, has the pixel
abbrev pub shape_covers : Shape → Pixel → Bool
shape_covers (Runs runs) p = list_any (λ run. run_covers run p) runs
shape_covers (Disc x y r) p = disc_covers x y r p

-- whether the seed is painted on the pixel
abbrev pub covers : Seed → Pixel → Bool
covers s p = shape_covers s.shape p

-- all runs, or the centre of the disc, lie in an image of this width and height
abbrev pub ShapeFits : ℕ → ℕ → Shape → Type 0
ShapeFits width height (Runs runs) = AllByRecursion (λ run. (run.y < height) × (run.x1 < width)) runs
ShapeFits width height (Disc x y r) = (x < width) × (y < height)

-- the seed fits an image of this width and height
abbrev pub Fits : ℕ → ℕ → Seed → Type 0
Fits width height s = ShapeFits width height s.shape

-- the second run is on a later row, or on the same row with a pixel between the two
abbrev pub AreInOrder : Run → Run → Type 0
AreInOrder a b = (a.y < b.y) ⊎ ((a.y ≡ b.y) × (a.x1 + 1 < b.x0))

-- the run is in order with the first of the others, if there is one
abbrev pub IsBefore : Run → List Run → Type 0
IsBefore run [] = Unit {0}
IsBefore run (next ∷ rest) = AreInOrder run next

-- no run ends before it starts, and each is in order with the next
abbrev pub AreOrdered : List Run → Type 0
AreOrdered [] = Unit {0}
AreOrdered (run ∷ rest) = (run.x0 ≤ run.x1) × IsBefore run rest × AreOrdered rest

-- some runs, not too many, and in order; or a radius that is not too great
abbrev pub IsCanonicalShape : Shape → Type 0
IsCanonicalShape (Runs runs) = (0 < length runs) × (length runs ≤ max_runs) × AreOrdered runs
IsCanonicalShape (Disc x y r) = r ≤ max_radius

-- a level from 1 to the greatest, and a canonical shape
pub record IsCanonical (s : Seed) : Type 0 where
  pub level_low : 1 ≤ s.level
  pub level_high : s.level ≤ max_level
  pub shape : IsCanonicalShape s.shape

-- of which kind the shape is
abbrev pub kind_of : Shape → Kind
kind_of (Runs runs) = kinds.Runs
kind_of (Disc x y r) = kinds.Disc x y r

-- the runs of the shape, of which a disc has none
abbrev pub runs_of : Shape → List Run
runs_of (Runs runs) = runs
runs_of (Disc x y r) = []

-- how many bytes a stroke of this shape takes in a frame: 16 of tag, 1 of kind, 2 of level, and then 2 of
-- count and 6 a run, or 6 of centre and radius
abbrev pub byte_len_of : Shape → ℕ
byte_len_of (Runs runs) = 21 + 6 * length runs
byte_len_of (Disc x y r) = 25

-- why a shape is refused: each reason stands where those before it do not
abbrev pub IsShapeRefusal : Shape → StrokeError → Type 0
IsShapeRefusal (Runs runs) errors.NoRuns = length runs ≡ 0
IsShapeRefusal (Runs runs) errors.TooManyRuns = max_runs < length runs
IsShapeRefusal (Runs runs) errors.RunOrder = (0 < length runs) × (length runs ≤ max_runs) × (AreOrdered runs → ⊥)
IsShapeRefusal (Disc x y r) errors.BadRadius = max_radius < r
IsShapeRefusal _ _ = ⊥

-- why a level and a shape make no stroke: the level first, and then the shape
abbrev pub IsRefusal : Seed → StrokeError → Type 0
IsRefusal s errors.BadLevel = (s.level < 1) ⊎ (max_level < s.level)
IsRefusal s why = (1 ≤ s.level) × (s.level ≤ max_level) × IsShapeRefusal s.shape why
