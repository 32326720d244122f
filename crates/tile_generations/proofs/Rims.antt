-- The rows and columns of an image, put one behind another, are its rim.
use Rattle.std.proofs.Common.{◌≡◌, ℕ, ◌+◌, ◌-◌, ◌*◌, List, [], ◌∷◌, ◌++◌, length, length-append, map, ap, sym, subst}
use Rattle.std.proofs.Common.{◌∙◌, append_assoc, append-nil, arith, take, drop, slice_range}
use Rattle.std.proofs.lemmas.List.{drop_at, take_at}
use Rattle.std.proofs.lemmas.List.FromFn.{get_or-map-range_with_len, length-map-range_with_len}
use Rattle.std.proofs.lemmas.List.FromFn.{map-range_with_len_more}
use Rattle.std.specs.List.{range_with_len}
use Rattle.grid_core.specs.{Raster.Raster, Raster.value_at, Rects.IsRowOf}
use Rattle.tile_generations.specs.Rims.{IsColumnOf, IsRimOf, column_of, strips_of}

-- ---- columns

-- a column has the image's values
column_is : (image : Raster) (x : ℕ) → IsColumnOf image.height (value_at image) x (column_of image x)
column_is image x = record {
  long = length-map-range_with_len (λ y. value_at image (record { x = x; y = y })) 0 image.height;
  values = λ y below.
      let place : 0 + y ≡ y = omega arith in
      get_or-map-range_with_len (λ y. value_at image (record { x = x; y = y })) 0 image.height y y 0 below place;
}

-- the values so far, and one more
pub column_more : (value : ℕ → ℕ) (y here : ℕ) (first old new : List ℕ) → here ≡ value y
    → old ≡ first ++ map value (range_with_len 0 y) → new ≡ old ++ here ∷ []
    → new ≡ first ++ map value (range_with_len 0 (y + 1))
column_more value y here first old new here_is so_far new_is =
    let place : 0 + y ≡ y = omega arith in
    new_is
    ∙ (λ i. so_far i ++ here_is i ∷ [])
    ∙ append_assoc first (map value (range_with_len 0 y)) (value y ∷ [])
    ∙ ap (λ vs. first ++ vs) (sym (map-range_with_len_more value 0 y y place))

-- ---- one behind another

-- where a list stands between others
part_there : (before here after values : List ℕ) (from to : ℕ) → values ≡ (before ++ here) ++ after
    → length before ≡ from → to ≡ from + length here → slice_range values from to ≡ here
part_there before here after values from to is long ends =
    let size : length here ≡ to - from = omega arith in
    ap (λ vs. take (to - from) (drop from vs)) (is ∙ append_assoc before here after)
    ∙ ap (take (to - from)) (drop_at before (here ++ after) from long)
    ∙ take_at here after (to - from) size

-- two rows and two columns of an image are its rim
module _ (image : Raster) (w h : ℕ) (top bottom left right values : List ℕ) (width : w ≡ image.width)
    (height : h ≡ image.height) (first : IsRowOf image.width (value_at image) 0 top)
    (last : IsRowOf image.width (value_at image) (image.height - 1) bottom)
    (first_column : IsColumnOf image.height (value_at image) 0 left)
    (last_column : IsColumnOf image.height (value_at image) (image.width - 1) right)
    (is : values ≡ ((top ++ bottom) ++ left) ++ right) where
  rows_long : length (top ++ bottom) ≡ 2 * w
  rows_long = omega (arith, length-append top bottom, first.long, last.long)

  three_long : length ((top ++ bottom) ++ left) ≡ 2 * w + h
  three_long = omega (arith, length-append (top ++ bottom) left, rows_long, first_column.long)

  pub strips_long : length values ≡ 2 * (w + h)
  strips_long =
      ap length is ∙ omega (arith, length-append ((top ++ bottom) ++ left) right, three_long, last_column.long)

  pub strips_are_rim : IsRimOf image (strips_of w h values)
  strips_are_rim = record {
    top = subst (IsRowOf image.width (value_at image) 0)
        (sym (part_there [] top (bottom ++ (left ++ right)) values 0 w
        (is ∙ append_assoc (top ++ bottom) left right ∙ append_assoc top bottom (left ++ right)) (omega arith)
        (omega (arith, first.long)))) first;
    bottom = subst (IsRowOf image.width (value_at image) (image.height - 1))
        (sym (part_there top bottom (left ++ right) values w (2 * w) (is ∙ append_assoc (top ++ bottom) left right)
        (omega (arith, first.long)) (omega (arith, last.long)))) last;
    left = subst (IsColumnOf image.height (value_at image) 0)
        (sym (part_there (top ++ bottom) left right values (2 * w) (2 * w + h) is rows_long
        (omega (arith, first_column.long)))) first_column;
    right = subst (IsColumnOf image.height (value_at image) (image.width - 1))
        (sym (part_there ((top ++ bottom) ++ left) right [] values (2 * w + h) (2 * w + h + h)
        (is ∙ sym (append-nil (((top ++ bottom) ++ left) ++ right))) three_long (omega (arith, last_column.long))))
        last_column;
  }

-- and so are those that are put behind one another
pub rim_of_parts : (image : Raster) (w h : ℕ) (top bottom one two three values : List ℕ) → w ≡ image.width
    → h ≡ image.height → IsRowOf image.width (value_at image) 0 top
    → IsRowOf image.width (value_at image) (h - 1) bottom → one ≡ top → two ≡ one ++ bottom
    → three ≡ two ++ column_of image 0 → values ≡ three ++ column_of image (w - 1)
    → (length values ≡ 2 * (w + h)) × IsRimOf image (strips_of w h values)
rim_of_parts image w h top bottom one two three values width height first last one_is two_is three_is is =
    let lowest = subst (λ n. IsRowOf image.width (value_at image) (n - 1) bottom) height last in
    let left = column_of image 0 in
    let right = column_of image (image.width - 1) in
    let all : values ≡ ((top ++ bottom) ++ left) ++ right =
    is ∙ (λ i. (three_is ∙ ap (λ vs. vs ++ left) (two_is ∙ ap (λ vs. vs ++ bottom) one_is)) i
    ++ column_of image (width i - 1)) in (
      strips_long image w h top bottom left right values width height first lowest (column_is image 0)
          (column_is image (image.width - 1)) all,
      strips_are_rim image w h top bottom left right values width height first lowest (column_is image 0)
          (column_is image (image.width - 1)) all,
    )
