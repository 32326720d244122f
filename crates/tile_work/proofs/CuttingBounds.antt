-- Bounds of a band's tiles, cut out and put back.
use Rattle.std.proofs.Common.{◌≡◌, ℕ, ◌+◌, ◌-◌, ◌<◌, ◌≤◌, ◌⊎◌, ◌↔◌, inl, inr, true, false, List, length, map}
use Rattle.std.proofs.Common.{slice_range, sym, ap, ◌∙◌, subst, arith, refl, cond}
use Rattle.std.proofs.lemmas.Bool.{cases_lt, lt-ltb, le-ltb}
use Rattle.std.proofs.lemmas.List.{length-map, get_or-map}
use Rattle.grid_core.specs.{declared.bounds.Bounds.Bounds, declared.pixel.Pixel.Pixel, declared.rect.Rect.Rect}
use Rattle.grid_core.specs.Bounds.{AreEmpty, IsInBounds, LieIn, no_bounds}
use Rattle.tile_work.specs.OpenBounds.{bounds_for}
use Rattle.tile_work.specs.Cutting.{with_part, have_pixels, in_band, in_whole, BeginFrom}
use Rattle.tile_work.proofs.Parts.{length_part, get_or_part, get_or_in_part, get_or_beside_part}

-- so many rows further down, and bounds so many rows further down
abbrev below : ℕ → Pixel → Pixel
below rows p = record { x = p.x; y = rows + p.y }

abbrev rect_below : ℕ → Rect → Rect
rect_below rows rect = record { x = rect.x; y = rows + rect.y; w = rect.w; h = rect.h }

abbrev bounds_below : ℕ → Bounds → Bounds
bounds_below rows b = record { left = b.left; right = b.right; top = rows + b.top; bottom = rows + b.bottom }

abbrev bounds_above : ℕ → Bounds → Bounds
bounds_above rows b = record { left = b.left; right = b.right; top = b.top - rows; bottom = b.bottom - rows }

record HavePixels (b : Bounds) : Type 0 where
  pub columns : b.left < b.right
  pub rows : b.top < b.bottom
  pub test : have_pixels b ≡ true

record HaveNone (b : Bounds) : Type 0 where
  pub empty : AreEmpty b
  pub test : have_pixels b ≡ false

cases_pixels : (b : Bounds) → HavePixels b ⊎ HaveNone b
cases_pixels b = elim (cases_lt b.left b.right) [
  | inr narrow ↦ inr (record { empty = inl narrow; test = rw (le-ltb b.left b.right narrow) refl })
  | inl wide ↦ elim (cases_lt b.top b.bottom) [
    | inr low ↦ inr (record {
      empty = inr low;
      test = rw (lt-ltb b.left b.right wide, le-ltb b.top b.bottom low) refl;
    })
    | inl high ↦ inl (record {
      columns = wide;
      rows = high;
      test = rw (lt-ltb b.left b.right wide, lt-ltb b.top b.bottom high) refl;
    })
  ]
]

nowhere : (b : Bounds) (p : Pixel) → AreEmpty b → IsInBounds b p → ⊥
nowhere b p empty (left, right, top, bottom) = elim empty [
  | inl narrow ↦ omega (arith, narrow, left, right)
  | inr low ↦ omega (arith, low, top, bottom)
]

-- ---- one tile's bounds

module _ (rows : ℕ) (b : Bounds) where
  band_some : HavePixels b → in_band rows b ≡ bounds_above rows b
  band_some some = ap (λ c. cond c (bounds_above rows b) no_bounds) some.test

  band_none : HaveNone b → in_band rows b ≡ no_bounds
  band_none none = ap (λ c. cond c (bounds_above rows b) no_bounds) none.test

  whole_some : HavePixels b → in_whole rows b ≡ bounds_below rows b
  whole_some some = ap (λ c. cond c (bounds_below rows b) no_bounds) some.test

  whole_none : HaveNone b → in_whole rows b ≡ no_bounds
  whole_none none = ap (λ c. cond c (bounds_below rows b) no_bounds) none.test

  from_row : HavePixels b → AreEmpty b ⊎ (rows ≤ b.top) → rows ≤ b.top
  from_row some begin = elim begin [
    | inl empty ↦ elim empty [
      | inl narrow ↦ absurd (omega (arith, some.columns, narrow))
      | inr low ↦ absurd (omega (arith, some.rows, low))
    ]
    | inr from ↦ from
  ]

  -- a pixel lies within a band's bounds where the pixel so many rows further down lies within those of the whole
  pub within_band : AreEmpty b ⊎ (rows ≤ b.top) → (p : Pixel)
      → IsInBounds (in_band rows b) p ↔ IsInBounds b (record { x = p.x; y = rows + p.y })
  within_band begin p = elim (cases_pixels b) [
    | inl some ↦
        let from = from_row some begin in
        subst (λ (a : Bounds). IsInBounds a p ↔ IsInBounds b (below rows p)) (sym (band_some some)) (
          λ (left, right, top, bottom). (left, right, omega (arith, top, from), omega (arith, bottom, from)),
          λ (left, right, top, bottom). (left, right, omega (arith, top, from), omega (arith, bottom, from)),
        )
    | inr none ↦
        subst (λ (a : Bounds). IsInBounds a p ↔ IsInBounds b (below rows p)) (sym (band_none none)) (
          λ within. absurd (omega (arith, within.1)),
          λ within. absurd (nowhere b (below rows p) none.empty within),
        )
  ]

  -- the bounds in the whole are those of the band so many rows further down, as far as pixels are concerned
  pub within_whole : (p : Pixel) → IsInBounds (in_whole rows b) p
      ↔ IsInBounds (record { left = b.left; right = b.right; top = rows + b.top; bottom = rows + b.bottom }) p
  within_whole p = elim (cases_pixels b) [
    | inl some ↦
        subst (λ (a : Bounds). IsInBounds a p ↔ IsInBounds (bounds_below rows b) p) (sym (whole_some some))
        (λ within. within, λ within. within)
    | inr none ↦
        subst (λ (a : Bounds). IsInBounds a p ↔ IsInBounds (bounds_below rows b) p) (sym (whole_none none)) (
          λ within. absurd (omega (arith, within.1)),
          λ within. absurd (nowhere (bounds_below rows b) p (elim none.empty [
            | inl narrow ↦ inl narrow
            | inr low ↦ inr (omega (arith, low))
          ]) within),
        )
  ]

  -- a pixel lies within a band's bounds where the one so many rows further down lies within them in the whole
  pub within_whole_below : (p : Pixel)
      → IsInBounds (in_whole rows b) (record { x = p.x; y = rows + p.y }) ↔ IsInBounds b p
  within_whole_below p =
      let same = within_whole (below rows p) in (
        λ within.
            let (left, right, top, bottom) = same.0 within in
            (left, right, omega (arith, top), omega (arith, bottom)),
        λ (left, right, top, bottom). same.1 (left, right, omega (arith, top), omega (arith, bottom)),
      )

  -- what lies in a rectangle of the whole lies in that of the band, and the other way round
  pub band_lies : (rect : Rect) → rect.x < 4294967296 → rect.y < 4294967296
      → LieIn b (record { x = rect.x; y = rows + rect.y; w = rect.w; h = rect.h }) → LieIn (in_band rows b) rect
  band_lies rect column row (left, right, top, bottom) = elim (cases_pixels b) [
    | inl some ↦
        subst (λ (a : Bounds). LieIn a rect) (sym (band_some some))
        (left, right, omega (arith, top), omega (arith, bottom))
    | inr none ↦
        subst (λ (a : Bounds). LieIn a rect) (sym (band_none none))
        (omega (arith, column), omega arith, omega (arith, row), omega arith)
  ]

  pub whole_lies : (rect : Rect) → rect.x < 4294967296 → rows + rect.y < 4294967296 → LieIn b rect
      → LieIn (in_whole rows b) (record { x = rect.x; y = rows + rect.y; w = rect.w; h = rect.h })
  whole_lies rect column row (left, right, top, bottom) = elim (cases_pixels b) [
    | inl some ↦
        subst (λ (a : Bounds). LieIn a (rect_below rows rect)) (sym (whole_some some))
        (left, right, omega (arith, top), omega (arith, bottom))
    | inr none ↦
        subst (λ (a : Bounds). LieIn a (rect_below rows rect)) (sym (whole_none none))
        (omega (arith, column), omega arith, omega (arith, row), omega arith)
  ]

-- bounds that were taken into a band and back have the same pixels within them
pub within_both : (rows : ℕ) (b : Bounds) → AreEmpty b ⊎ (rows ≤ b.top) → (p : Pixel)
    → IsInBounds (in_whole rows (in_band rows b)) p ↔ IsInBounds b p
within_both rows b begin p =
    let there = within_whole rows (in_band rows b) p in
    elim (cases_pixels b) [
      | inl some ↦
          let from = from_row rows b some begin in
          let is : bounds_below rows (in_band rows b) ≡ bounds_below rows (bounds_above rows b) =
          ap (bounds_below rows) (band_some rows b some) in (
            λ within.
                let (left, right, top, bottom) = subst (λ (a : Bounds). IsInBounds a p) is (there.0 within) in
                (left, right, omega (arith, top, from), omega (arith, bottom, from)),
            λ (left, right, top, bottom). there.1 (subst (λ (a : Bounds). IsInBounds a p) (sym is)
                (left, right, omega (arith, top, from), omega (arith, bottom, from, some.rows))),
          )
      | inr none ↦
          let is : bounds_below rows (in_band rows b) ≡ bounds_below rows no_bounds =
          ap (bounds_below rows) (band_none rows b none) in (
            λ within.
                let empty = subst (λ (a : Bounds). IsInBounds a p) is (there.0 within) in
                absurd (omega (arith, empty.1)),
            λ within. absurd (nowhere b p none.empty within),
          )
    ]

-- ---- the tables

-- the bounds that a band's tile has once they are cut out
pub bounds_cut : (table : List Bounds) (first end rows : ℕ) → first ≤ end → end ≤ length table → (u : ℕ)
    → u < end - first
    → bounds_for (map (in_band rows) (slice_range table first end)) u ≡ in_band rows (bounds_for table (first + u))
bounds_cut table first end rows order within u here =
    let long = length_part table first end order within in
    get_or-map (in_band rows) (slice_range table first end) u no_bounds no_bounds (omega (arith, here, long))
    ∙ ap (in_band rows) (get_or_part table first end order within u no_bounds here)

module _ (table band : List Bounds) (first rows : ℕ) (within : first + length band ≤ length table) where
  abbrev part : List Bounds
  part = map (in_whole rows) band

  long : length part ≡ length band
  long = length-map band (in_whole rows)

  fits : first + length part ≤ length table
  fits = let same = long in omega (arith, within, same)

  -- the bounds that a tile has once a band's are put in: one of the band, and any other
  pub bounds_put : (u : ℕ) → u < length band
      → bounds_for (with_part first (map (in_whole rows) band) table) (first + u) ≡ in_whole rows (bounds_for band u)
  bounds_put u here =
      let same = long in
      get_or_in_part table part first fits u no_bounds (omega (arith, here, same))
      ∙ get_or-map (in_whole rows) band u no_bounds no_bounds here

  pub bounds_beside : (t : ℕ) → (t < first) ⊎ (first + length band ≤ t)
      → bounds_for (with_part first (map (in_whole rows) band) table) t ≡ bounds_for table t
  bounds_beside t beside =
      let same = long in
      get_or_beside_part table part first fits t no_bounds (elim beside [
        | inl before ↦ inl before
        | inr behind ↦ inr (omega (arith, behind, same))
      ])

-- where a band's bounds are cut out and put back, each tile has the same pixels within its bounds
pub within_put_back : (table : List Bounds) (first end rows : ℕ) → first ≤ end → end ≤ length table
    → BeginFrom rows table first end → (t : ℕ) (p : Pixel)
    → IsInBounds
    (bounds_for (with_part first (map (in_whole rows) (map (in_band rows) (slice_range table first end))) table) t) p
    ↔ IsInBounds (bounds_for table t) p
within_put_back table first end rows order within begin t p =
    let band : List Bounds = map (in_band rows) (slice_range table first end) in
    let new : List Bounds = with_part first (map (in_whole rows) band) table in
    let long : length band ≡ end - first =
    length-map (slice_range table first end) (in_band rows) ∙ length_part table first end order within in
    let fits : first + length band ≤ length table = omega (arith, long, order, within) in
    let stays : (t < first) ⊎ (first + length band ≤ t)
    → IsInBounds (bounds_for new t) p ↔ IsInBounds (bounds_for table t) p =
    λ beside. subst (λ (b : Bounds). IsInBounds b p ↔ IsInBounds (bounds_for table t) p)
    (sym (bounds_beside table band first rows fits t beside)) (λ there. there, λ there. there) in
    elim (cases_lt t first) [
      | inl before ↦ stays (inl before)
      | inr from ↦ elim (cases_lt t end) [
        | inr behind ↦ stays (inr (omega (arith, long, behind, order)))
        | inl here ↦
            let u = t - first in
            let place : t ≡ first + u = omega (arith, from) in
            let is : bounds_for new t ≡ in_whole rows (in_band rows (bounds_for table t)) =
            ap (bounds_for new) place
            ∙ bounds_put table band first rows fits u (omega (arith, long, from, here))
            ∙ ap (in_whole rows) (bounds_cut table first end rows order within u (omega (arith, from, here)))
            ∙ ap (λ n. in_whole rows (in_band rows (bounds_for table n))) (sym place) in
            subst (λ (b : Bounds). IsInBounds b p ↔ IsInBounds (bounds_for table t) p) (sym is)
            (within_both rows (bounds_for table t) (begin t from here) p)
      ]
    ]
