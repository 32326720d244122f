-- The rim of an image: its first and its last row, and its first and its last column.
use Rattle.std.specs.Prelude.{◌≡◌, ℕ, ◌+◌, ◌-◌, ◌*◌, ◌<◌, List, length, map, slice_index, slice_range}
use Rattle.std.specs.List.{range_with_len}
use Rattle.grid_core.specs.{declared.pixel.Pixel.Pixel, Raster.Raster, Raster.value_at, Rects.IsRowOf}

-- the values in the first and the last row, from the left, and in the first and the last column, from the top
pub record Rim : Type 0 where
  pub top : List ℕ
  pub bottom : List ℕ
  pub left : List ℕ
  pub right : List ℕ

-- the list has the values of column x, from the top, of as many rows as the height says
pub record IsColumnOf (height : ℕ) (f : Pixel → ℕ) (x : ℕ) (column : List ℕ) : Type 0 where
  pub long : length column ≡ height
  pub values : (y : ℕ) → y < height → slice_index column y ≡ f (record { x = x; y = y })

-- the rim has the image's values
pub record IsRimOf (image : Raster) (rim : Rim) : Type 0 where
  pub top : IsRowOf image.width (value_at image) 0 rim.top
  pub bottom : IsRowOf image.width (value_at image) (image.height - 1) rim.bottom
  pub left : IsColumnOf image.height (value_at image) 0 rim.left
  pub right : IsColumnOf image.height (value_at image) (image.width - 1) rim.right

-- ---- as it is kept

-- the rim of an image of this width and height, of these values: its rows and columns stand one behind another
abbrev pub strips_of : ℕ → ℕ → List ℕ → Rim
strips_of width height values = record {
  top = slice_range values 0 width;
  bottom = slice_range values width (2 * width);
  left = slice_range values (2 * width) (2 * width + height);
  right = slice_range values (2 * width + height) (2 * width + height + height);
}

-- the values of a column, from the top
abbrev pub column_of : Raster → ℕ → List ℕ
column_of image x = map (λ y. value_at image (record { x = x; y = y })) (range_with_len 0 image.height)
