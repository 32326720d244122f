-- An image as plain data, and its values at pixels.
use Rattle.std.specs.Prelude.{◌≡◌, ℕ, ◌+◌, ◌-◌, ◌*◌, ◌<◌, ◌≤◌, ◌⊎◌, List, length, slice_index, slice_set, sum_by}
use Rattle.grid_core.specs.declared.pixel.Pixel.{Pixel}

-- an image: a width, a height, and the values row by row from the top, each row from the left
pub record Raster : Type 0 where
  pub width : ℕ
  pub height : ℕ
  pub cells : List ℕ

-- the pixel lies in an image of this width and height
abbrev pub IsInside : ℕ → ℕ → Pixel → Type 0
IsInside width height p = (p.x < width) × (p.y < height)

-- where the value of the pixel stands in an image of this width
abbrev pub index_of : ℕ → Pixel → ℕ
index_of width p = p.y * width + p.x

-- the value at a pixel
abbrev pub value_at : Raster → Pixel → ℕ
value_at r p = slice_index r.cells (index_of r.width p)

-- the image with another value at one pixel
abbrev pub with_value : Raster → Pixel → ℕ → Raster
with_value r p v = record { width = r.width; height = r.height; cells = slice_set r.cells (index_of r.width p) v }

-- the greatest width and height of an image
abbrev pub max_side : ℕ
max_side = 16384

-- the greatest number of pixels of an image, 2^26
abbrev pub max_pixels : ℕ
max_pixels = 67108864

-- the greatest level: the greatest value of a cell
abbrev pub max_level : ℕ
max_level = 65535

-- the sides that an image may have: each from 1 to the greatest, and not too many pixels in all
pub record IsImageSize (width height : ℕ) : Type 0 where
  pub some_width : 0 < width
  pub some_height : 0 < height
  pub width_within : width ≤ max_side
  pub height_within : height ≤ max_side
  pub pixels_within : width * height ≤ max_pixels

-- a value for each pixel
abbrev pub IsFilled : Raster → Type 0
IsFilled r = length r.cells ≡ r.width * r.height

-- sides that an image may have, and a value for each pixel
pub record IsSized (r : Raster) : Type 0 where
  pub size : IsImageSize r.width r.height
  pub filled : IsFilled r

-- equal sizes, and no value of the first is greater than the second's
pub record IsBelow (a b : Raster) : Type 0 where
  pub width : a.width ≡ b.width
  pub height : a.height ≡ b.height
  pub values : (k : ℕ) → k < length a.cells → slice_index a.cells k ≤ slice_index b.cells k

-- the pixel lies in the first or the last column, or in the first or the last row, of an image of this width and height
abbrev pub IsOnBorder : ℕ → ℕ → Pixel → Type 0
IsOnBorder width height p = (p.x ≡ 0) ⊎ ((p.x + 1 ≡ width) ⊎ ((p.y ≡ 0) ⊎ (p.y + 1 ≡ height)))

-- an image of the same size, with a value for each pixel
pub record IsOfSize (old new : Raster) : Type 0 where
  pub width : new.width ≡ old.width
  pub height : new.height ≡ old.height
  pub filled : IsFilled new

-- how far the values lie below the greatest that a cell can have, in all
abbrev pub headroom : List ℕ → ℕ
headroom cells = sum_by (λ v. max_level - v) cells
