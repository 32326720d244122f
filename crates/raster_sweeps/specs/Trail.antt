-- The pixels that wait on a trail, as cells of an image, and the places that are left. Only private functions have
-- these words in their contracts.
use Rattle.std.specs.Prelude.{ℕ, ◌+◌, ◌-◌, ◌*◌, ◌/◌, ◌%◌, ◌<◌, ◌≤◌, List, [], length, map, slice_index}
use Rattle.std.specs.List.{between}

-- the cells, of an image of this width, that wait, the first of them first; how many places are left for more, and of
-- how many in all
pub record Trail : Type 0 where
  pub width : ℕ
  pub cells : List ℕ
  pub places : ℕ
  pub count : ℕ

-- nothing waits, and each place is left
abbrev pub empty_trail : ℕ → ℕ → Trail
empty_trail width count = record { width = width; cells = []; places = count; count = count }

-- the cell of the pixel with this number, in an image of this width
abbrev pub cell_at : ℕ → ℕ → ℕ
cell_at width number = number / 65536 * width + number % 65536

-- the pixels with the numbers from one place to before another wait
abbrev pub trail_of : ℕ → List ℕ → ℕ → ℕ → Trail
trail_of width numbers first end = record {
  width = width;
  cells = map (cell_at width) (between first end numbers);
  places = length numbers - end;
  count = length numbers;
}

-- what waits lies among the places, and in the columns of an image of this width
pub record IsTrail (width : ℕ) (numbers : List ℕ) (first end : ℕ) : Type 0 where
  pub narrow : width ≤ 65536
  pub order : first ≤ end
  pub within : end ≤ length numbers
  pub columns : (i : ℕ) → first ≤ i → i < end → slice_index numbers i % 65536 < width
