-- How values that are taken over from the marker add up.
use Rattle.std.proofs.Common.{◌≡◌, ℕ, ◌+◌, ◌-◌, ◌*◌, ◌<◌, ◌≤◌, Bool, true, false, max, length, sym, ap, ◌∙◌, refl}
use Rattle.std.proofs.Common.{subst, arith, List, drop, get_or, length-drop, ◌||◌, ◌↔◌, IsTrue, slice_index}
use Rattle.std.proofs.Common.{slice_range, EachIndex}
use Rattle.std.proofs.{lemmas.Bool.Decides.nat_tests, lemmas.List.get_or-take, lemmas.List.get_or-drop}
use Rattle.std.proofs.lemmas.List.{length-take, length-take-le}
use borrow.Rule.Slice.PartMut.{put_mid}
use Rattle.grid_core.specs.{declared.pixel.Pixel.Pixel, Rects.AreCellsChanged}
use Rattle.grid_core.specs.Lending.{CellsGivenBack, with_cells}
use Rattle.grid_core.specs.Raster.{Raster, IsInside, IsFilled, index_of, value_at}
use Rattle.stroke_core.specs.{declared.span.Span.Span, Spans.span_has}
use Rattle.marker_tiles.proofs.CellSpans.{cell_of_span}
use Rattle.row_scans.proofs.Replacing.{replaced_mid}
use Rattle.core_rules.specs.Image.{IsOfSize}
use Rattle.tile_work.specs.Renewing.{marker_value, greater_value, made_if, made_at, IsMadeWhere, RisesWhere, SomeIsLess}
use Rattle.tile_work.specs.Renewing.{HaveCells}

-- a change that leaves what it left at first where it comes again
pub record IsSteady (make : ℕ → ℕ → ℕ) : Type 0 where
  pub again : (old marker : ℕ) → make (make old marker) marker ≡ make old marker

pub copy_is_steady : IsSteady marker_value
copy_is_steady = record { again = λ old marker. refl }

pub raise_is_steady : IsSteady greater_value
raise_is_steady = record {
  again = λ old marker. let e : max (max old marker) marker ≡ max old marker = omega arith in e;
}

-- to change where one test holds and then where another does is to change where either does
made_twice : (make : ℕ → ℕ → ℕ) → IsSteady make → (a b : Bool) (old marker : ℕ)
    → made_if b make (made_if a make old marker) marker ≡ made_if (a || b) make old marker
made_twice make steady true true old marker = steady.again old marker
made_twice make steady true false old marker = refl
made_twice make steady false b old marker = refl

pub sizes_join : {old middle new : Raster} → IsOfSize old middle → IsOfSize middle new → IsOfSize old new
sizes_join first second = record {
  width = second.width ∙ first.width;
  height = second.height ∙ first.height;
  filled = second.filled;
}

pub inside_same : (old new : Raster) → IsOfSize old new → (p : Pixel) → IsInside old.width old.height p
    → IsInside new.width new.height p
inside_same old new size p inside = (omega (arith, inside.0, size.width), omega (arith, inside.1, size.height))

-- two changes are one where either test holds
pub made_also : {make : ℕ → ℕ → ℕ} → IsSteady make → {a b both : Pixel → Bool} {marker old middle new : Raster}
    → IsMadeWhere a make marker old middle → IsMadeWhere b make marker middle new
    → ((p : Pixel) → IsInside old.width old.height p → both p ≡ (a p || b p)) → IsMadeWhere both make marker old new
made_also {make} steady {a} {b} {both} {marker} {old} {middle} first second same = record {
  size = sizes_join first.size second.size;
  values = λ p inside.
      let there = value_at marker p in
      second.values p (inside_same old middle first.size p inside)
      ∙ ap (λ v. made_if (b p) make v there) (first.values p inside)
      ∙ made_twice make steady (a p) (b p) (value_at old p) there
      ∙ ap (λ t. made_if t make (value_at old p) there) (sym (same p inside));
}

-- nothing is changed by a test that no pixel passes
pub made_nothing : {test : Pixel → Bool} {make : ℕ → ℕ → ℕ} {marker old : Raster} → IsFilled old
    → ((p : Pixel) → IsInside old.width old.height p → test p ≡ false) → IsMadeWhere test make marker old old
made_nothing {test} {make} {marker} {old} filled none = record {
  size = record { width = refl; height = refl; filled = filled };
  values = λ p inside. ap (λ t. made_if t make (value_at old p) (value_at marker p)) (sym (none p inside));
}

-- tests that agree on the pixels of the image change alike
pub made_alike : {a b : Pixel → Bool} {make : ℕ → ℕ → ℕ} {marker old new : Raster} → IsMadeWhere a make marker old new
    → ((p : Pixel) → IsInside old.width old.height p → b p ≡ a p) → IsMadeWhere b make marker old new
made_alike {make = make} {marker = marker} {old = old} made same = record {
  size = made.size;
  values = λ p inside.
      made.values p inside ∙ ap (λ t. made_if t make (value_at old p) (value_at marker p)) (sym (same p inside));
}

-- ---- a span as cells

-- cells that are changed between two places of one row are a changed span
pub cells_are_span : (s : Span) (from to : ℕ) {make : ℕ → ℕ → ℕ} {marker old new : Raster} → IsOfSize marker old
    → s.end ≤ marker.width → from ≡ s.y * marker.width + s.first → to ≡ s.y * marker.width + s.end
    → AreCellsChanged from to (made_at make marker old) old new → IsMadeWhere (span_has s) make marker old new
cells_are_span s from to {make} {marker} {old} {new} size columns from_is to_is cells = record {
  size = record {
    width = cells.width;
    height = cells.height;
    filled = rw (cells.width, cells.height) (cells.count ∙ size.filled);
  };
  values = λ p inside.
      cell_of_span s.y s.first s.end from to (made_at make marker old) old new size.filled (rw size.width columns)
      (rw size.width from_is) (rw size.width to_is) cells p inside
      ∙ ap (λ w. made_if (span_has s p) make (value_at old p) (slice_index marker.cells (index_of w p))) size.width;
}

-- a cell of the span that is less than the marker's is a pixel that rises
module _ (s : Span) (from to : ℕ) {marker old new : Raster} (size : IsOfSize marker old) (row : s.y < marker.height)
    (columns : s.end ≤ marker.width) (from_is : from ≡ s.y * marker.width + s.first)
    (to_is : to ≡ s.y * marker.width + s.end) (made : IsMadeWhere (span_has s) greater_value marker old new) where
  cell_rises : SomeIsLess from to old.cells marker.cells → RisesWhere (span_has s) old new
  cell_rises (k, above, below, less) =
      let p : Pixel = record { x = k - s.y * marker.width; y = s.y } in
      let place : index_of marker.width p ≡ k = omega arith in
      let inside : IsInside old.width old.height p =
      (omega (arith, size.width), omega (arith, size.height)) in
      let has : span_has s p ≡ true = grind (arith, nat_tests) in
      let at_marker : value_at marker p ≡ slice_index marker.cells k = ap (λ i. slice_index marker.cells i) place in
      let at_old : value_at old p ≡ slice_index old.cells k =
      ap (λ w. slice_index old.cells (index_of w p)) size.width ∙ ap (λ i. slice_index old.cells i) place in
      let at_new : value_at new p ≡ max (value_at old p) (value_at marker p) =
      made.values p inside ∙ ap (λ t. made_if t greater_value (value_at old p) (value_at marker p)) has in
      record { p = p; inside = inside; tested = has; rose = omega (arith, at_marker, at_old, at_new, less) }

  rise_is_cell : RisesWhere (span_has s) old new → SomeIsLess from to old.cells marker.cells
  rise_is_cell r =
      let p = r.p in
      let has : span_has s p ≡ true = r.tested in
      let on_row : p.y ≡ s.y = grind (arith, nat_tests) in
      let above : s.first ≤ p.x = grind (arith, nat_tests) in
      let below : p.x < s.end = grind (arith, nat_tests) in
      let start : p.y * marker.width ≡ s.y * marker.width = ap (λ k. k * marker.width) on_row in
      let at_old : value_at old p ≡ slice_index old.cells (index_of marker.width p) =
      ap (λ w. slice_index old.cells (index_of w p)) size.width in
      let at_new : value_at new p ≡ max (value_at old p) (value_at marker p) =
      made.values p r.inside ∙ ap (λ t. made_if t greater_value (value_at old p) (value_at marker p)) has in
      (index_of marker.width p, omega arith, omega arith, omega (arith, at_old, at_new, r.rose))

  pub rises_by_cells : SomeIsLess from to old.cells marker.cells ↔ RisesWhere (span_has s) old new
  rises_by_cells = (cell_rises, rise_is_cell)

-- ---- a part of the cells

-- a cell of a part is one of the cells
get_or-part : (xs : List ℕ) (from to k : ℕ) → from ≤ k → k < to
    → slice_index (slice_range xs from to) (k - from) ≡ slice_index xs k
get_or-part xs from to k above below =
    let place : from + (k - from) ≡ k = omega arith in
    get_or-take (to - from) (drop from xs) (k - from) 0 (omega arith)
    ∙ get_or-drop from xs (k - from) 0 ∙ ap (λ i. get_or xs i 0) place

-- cells that are the marker's already are copied
pub copied_already : (from to : ℕ) (marker image : Raster)
    → slice_range image.cells from to ≡ slice_range marker.cells from to
    → AreCellsChanged from to (made_at marker_value marker image) image image
copied_already from to marker image same = record {
  width = refl;
  height = refl;
  count = refl;
  inside = λ k above below.
      sym (get_or-part image.cells from to k above below) ∙ ap (λ cells. slice_index cells (k - from)) same
      ∙ get_or-part marker.cells from to k above below;
  before = λ k _. refl;
  after = λ k _ _. refl;
}

-- the same part of two lists of one length is as long
pub parts_alike : (xs ys : List ℕ) (from to : ℕ) → length xs ≡ length ys
    → length (slice_range xs from to) ≡ length (slice_range ys from to)
parts_alike xs ys from to same = simp (length-take, length-drop) (omega (arith, same))

-- where a part of the cells is made of the old values and the marker's, the cells of the part are changed
pub made_in_part : (make : ℕ → ℕ → ℕ) {from to : ℕ} {marker image : Raster} (values cells part : List ℕ)
    → HaveCells from to marker image → CellsGivenBack → values ≡ marker.cells → cells ≡ image.cells
    → length part ≡ length (slice_range cells from to)
    → EachIndex part (λ k. slice_index part k
    ≡ make (slice_index (slice_range cells from to) k) (slice_index (slice_range values from to) k))
    → AreCellsChanged from to (made_at make marker image) image (with_cells image (put_mid from (to - from) cells part))
made_in_part make {from} {to} {marker} {image} values cells part have given_back is_values is_cells long made =
    let order = have.order in
    let count : length cells ≡ length image.cells = ap length is_cells in
    let within : to ≤ length cells = omega (arith, have.within, count) in
    let rest : to - from ≤ length (drop from cells) = omega (arith, length-drop from cells, within) in
    let span : length part ≡ to - from = long ∙ length-take-le (to - from) (drop from cells) rest in
    let is = replaced_mid from (to - from) part cells span (omega (arith, within, order)) in
    let after = put_mid from (to - from) cells part in
    subst (λ (r : Raster). AreCellsChanged from to (made_at make marker image) image r)
    (sym (given_back image after (is.long ∙ count))) (record {
      width = refl;
      height = refl;
      count = is.long ∙ count;
      inside = λ k above below.
          let place : from + (k - from) ≡ k = omega arith in
          let here : k - from < length part = omega (arith, span) in
          ap (λ i. slice_index after i) (sym place) ∙ is.inside (k - from) here ∙ made (k - from) here
          ∙ ap (λ v. make v (slice_index (slice_range values from to) (k - from)))
          (get_or-part cells from to k above below ∙ ap (λ xs. slice_index xs k) is_cells)
          ∙ ap (make (slice_index image.cells k))
          (get_or-part values from to k above below ∙ ap (λ xs. slice_index xs k) is_values);
      before = λ k less. is.ahead k less ∙ ap (λ xs. slice_index xs k) is_cells;
      after = λ k past _. is.behind k (omega (arith, span, order)) ∙ ap (λ xs. slice_index xs k) is_cells;
    })

pub some_is_less_in_part : (xs ys : List ℕ) (from to : ℕ) → from ≤ to → to ≤ length xs
    → SomeIsLess 0 (length (slice_range xs from to)) (slice_range xs from to) (slice_range ys from to)
    ↔ SomeIsLess from to xs ys
some_is_less_in_part xs ys from to order within =
    let long : length (slice_range xs from to) ≡ to - from = simp (length-take, length-drop) (omega arith) in (
      λ (k, above, below, less).
          let back : (from + k) - from ≡ k = omega arith in
          let at_x : slice_index (slice_range xs from to) k ≡ slice_index xs (from + k) =
          sym (ap (λ i. slice_index (slice_range xs from to) i) back)
          ∙ get_or-part xs from to (from + k) (omega arith) (omega (arith, below, long)) in
          let at_y : slice_index (slice_range ys from to) k ≡ slice_index ys (from + k) =
          sym (ap (λ i. slice_index (slice_range ys from to) i) back)
          ∙ get_or-part ys from to (from + k) (omega arith) (omega (arith, below, long)) in
          (from + k, omega arith, omega (arith, below, long), omega (arith, at_x, at_y, less)),
      λ (k, above, below, less). (
        k - from,
        omega arith,
        omega (arith, below, above, long),
        omega (arith, get_or-part xs from to k above below, get_or-part ys from to k above below, less),
      ),
    )

-- the answer of a walk over parts of the cells
pub rose_in_part : (b : Bool) (row values xs ys : List ℕ) (from to : ℕ) → row ≡ xs → values ≡ ys → from ≤ to
    → to ≤ length xs
    → IsTrue b ↔ SomeIsLess 0 (length (slice_range row from to)) (slice_range row from to) (slice_range values from to)
    → IsTrue b ↔ SomeIsLess from to xs ys
rose_in_part b row values xs ys from to is_row is_values order within told =
    let part = some_is_less_in_part row values from to order (subst (λ l. to ≤ length l) (sym is_row) within) in
    subst (λ l. IsTrue b ↔ SomeIsLess from to l ys) is_row
    (subst (λ l. IsTrue b ↔ SomeIsLess from to row l) is_values
    (λ yes. part.0 (told.0 yes), λ less. told.1 (part.1 less)))
