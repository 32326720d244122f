-- What is painted on an image: runs and the rows of a disc, span by span, within a window. Private functions have it
-- in their contracts.
use Rattle.std.specs.Prelude.{◌≡◌, ℕ, ◌≤◌, ◌==◌, ◌&&◌, Bool, min, max, nat_le, nat_lt, if◌then◌else◌, ◌<◌, List}
use Rattle.std.specs.Prelude.{slice_index, EachIndex, IsTrue}
use Rattle.std.specs.List.{list_any, AllByRecursion}
use Rattle.grid_core.specs.declared.pixel.Pixel.{Pixel}
use Rattle.grid_core.specs.Raster.{Raster, IsInside, IsOfSize, value_at}
use Rattle.marker_tiles.specs.{declared.brush.Brush.Brush, declared.window.Window.Window}
use Rattle.marker_tiles.specs.declared.brush.Brush.TheVariants.{Raise, Clear}

-- the pixel lies on this row, from the first column up to the end, which is left out
abbrev pub is_between : ℕ → ℕ → ℕ → Pixel → Bool
is_between y first end p = (p.y == y) && (nat_le first p.x && nat_lt p.x end)

-- the pixel lies in the window
abbrev pub in_window : Window → Pixel → Bool
in_window w p = (nat_le w.left p.x && nat_lt p.x w.right) && (nat_le w.top p.y && nat_lt p.y w.bottom)

-- one of the windows has the pixel
abbrev pub in_some : List Window → Pixel → Bool
in_some windows p = list_any (λ w. in_window w p) windows

-- the row is one of the window's
abbrev pub HasRow : Window → ℕ → Type 0
HasRow w y = (w.top ≤ y) × (y < w.bottom)

-- on the image, the second has each pixel that the first has
abbrev pub IncludesOn : Raster → (Pixel → Bool) → (Pixel → Bool) → Type 0
IncludesOn image first second =
    (p : Pixel) → IsInside image.width image.height p → IsTrue (first p) → IsTrue (second p)

-- the window ends where an image of this width and height does, or before
pub record WindowFits (width height : ℕ) (w : Window) : Type 0 where
  pub columns : w.right ≤ width
  pub rows : w.bottom ≤ height

-- all these windows do
abbrev pub WindowsFit : ℕ → ℕ → List Window → Type 0
WindowsFit width height windows = AllByRecursion (λ w. WindowFits width height w) windows

-- the value that a brush leaves where the mask and the image have these
abbrev pub brushed : Brush → ℕ → ℕ → ℕ
brushed (Raise level) limit old = max old (min limit level)
brushed Clear limit old = 0

-- the new values are those that the brush leaves of the old ones, under these limits
abbrev pub AreBrushed : Brush → List ℕ → List ℕ → List ℕ → Type 0
AreBrushed brush limits old new =
    EachIndex new (λ k. slice_index new k ≡ brushed brush (slice_index limits k) (slice_index old k))

-- the value that the brush leaves where the test holds, else the old one
abbrev pub brushed_if : Bool → Brush → ℕ → ℕ → ℕ
brushed_if b brush limit old = if b then brushed brush limit old else old

-- the new image is the old one, with the brush led over the pixels where the test holds
pub record IsPaintedBy (test : Pixel → Bool) (brush : Brush) (mask old new : Raster) : Type 0 where
  pub size : IsOfSize mask new
  pub values : (p : Pixel) → IsInside mask.width mask.height p
      → value_at new p ≡ brushed_if (test p) brush (value_at mask p) (value_at old p)

-- the values that the brush leaves on the cells
abbrev pub brushed_cells : Brush → Raster → Raster → ℕ → ℕ
brushed_cells brush mask old k = brushed brush (slice_index mask.cells k) (slice_index old.cells k)
