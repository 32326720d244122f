-- Images made on the way to a view. Only private functions have these words in their contracts.
use Rattle.std.specs.Prelude.{◌≡◌, ℕ, ◌-◌, ◌<◌, ◌⊎◌, Bool, true, false, List, length, map, slice_index, EachIndex}
use Rattle.grid_core.specs.declared.pixel.Pixel.{Pixel}
use Rattle.grid_core.specs.Raster.{Raster, IsInside, IsFilled, value_at, IsOnBorder}

-- the image with a function of each of its values
abbrev pub mapped : (ℕ → ℕ) → Raster → Raster
mapped f r = record { width = r.width; height = r.height; cells = map f r.cells }

-- how far each value lies below the top, and 0 where it does not lie below
abbrev pub complement_of : ℕ → Raster → Raster
complement_of top r = mapped (λ v. top - v) r

-- the second image has at the pixel the value of the first
abbrev pub AgreeAt : Raster → Raster → Pixel → Type 0
AgreeAt image other p = value_at other p ≡ value_at image p

-- an image of the same size whose values are 0, or on the border those of the first
pub record IsPartOfBorder (image border : Raster) : Type 0 where
  pub width : border.width ≡ image.width
  pub height : border.height ≡ image.height
  pub filled : IsFilled border
  pub values : (p : Pixel) → IsInside image.width image.height p
      → (value_at border p ≡ 0) ⊎ (IsOnBorder image.width image.height p × AgreeAt image border p)

-- where an old image agreed with the first, the new one does too
abbrev pub KeepsAgreed : Raster → Raster → Raster → Type 0
KeepsAgreed image old new =
    (p : Pixel) → IsInside image.width image.height p → AgreeAt image old p → AgreeAt image new p

-- a border that has on the whole border the values of the image
pub record IsBorderOf (image made : Raster) : Type 0 where
  pub part : IsPartOfBorder image made
  pub border : (p : Pixel) → IsInside image.width image.height p → IsOnBorder image.width image.height p
      → AgreeAt image made p

-- more of the border: the pixels of a kind agree with the image, and those that agreed still do
pub record Copies (kind : Pixel → Type 0) (image old new : Raster) : Type 0 where
  pub part : IsPartOfBorder image new
  pub kept : KeepsAgreed image old new
  pub copied : (p : Pixel) → IsInside image.width image.height p → kind p → AgreeAt image new p

-- as many values, each that by which the upper one is greater than the old one
pub record AreDifferences (upper : ℕ → ℕ) (old new : List ℕ) : Type 0 where
  pub count : length new ≡ length old
  pub values : EachIndex new (λ k. slice_index new k ≡ upper k - slice_index old k)

-- an image of the same size, with such values
pub record IsDifference (upper : ℕ → ℕ) (old new : Raster) : Type 0 where
  pub width : new.width ≡ old.width
  pub height : new.height ≡ old.height
  pub filled : IsFilled new
  pub values : EachIndex new.cells (λ k. slice_index new.cells k ≡ upper k - slice_index old.cells k)

-- 1 where the second value is less than the first, or where all are asked for, and 0 elsewhere
abbrev pub MarksLower : Bool → ℕ → ℕ → ℕ → Type 0
MarksLower all a b mark =
    (((b < a) ⊎ (all ≡ true)) × (mark ≡ 1)) ⊎ ((b < a → ⊥) × (all ≡ false) × (mark ≡ 0))

-- as many values, each such a mark of the other and the old one
pub record AreWhereLower (all : Bool) (others old new : List ℕ) : Type 0 where
  pub count : length new ≡ length old
  pub values : EachIndex new (λ k. MarksLower all (slice_index others k) (slice_index old k) (slice_index new k))

-- an image of the same size, with such values
pub record IsWhereLower (all : Bool) (image old new : Raster) : Type 0 where
  pub width : new.width ≡ old.width
  pub height : new.height ≡ old.height
  pub filled : IsFilled new
  pub values : EachIndex new.cells (λ k. MarksLower all (slice_index image.cells k) (slice_index old.cells k)
      (slice_index new.cells k))
