-- The seeds of a level are marked, cell after cell.
use Rattle.std.proofs.Common.{◌≡◌, ℕ, ◌+◌, ◌*◌, ◌<◌, ◌≤◌, List, [], ◌∷◌, ◌++◌, length, get_or, sym, ◌∙◌, subst, ap}
use Rattle.std.proofs.Common.{arith, inl, inr, EachIndex}
use Rattle.std.proofs.{lemmas.Bool.cases_lt, Math.Nat.mul-le-mul_left}
use Rattle.grid_core.specs.{declared.conn.Conn.Conn, declared.pixel.Pixel.Pixel}
use Rattle.grid_core.specs.Path.{Domain, Inside, domain_of}
use Rattle.grid_core.specs.Raster.{Raster, IsBelow, index_of, value_at, with_value}
use Rattle.grid_core.proofs.{Reach.reaches_here, Cells.same_place}
use Rattle.raster_sweeps.specs.Flood.{IsImageOn, IsSeeding}
use Rattle.raster_sweeps.proofs.Flood.Cells.{index_inside, written_here, written_else}
use Rattle.raster_sweeps.proofs.Flood.Flooding.{flood_marks, flood_sees}

-- a place among the cells is that of a pixel inside
pub inside_from_index : (d : Domain) (p : Pixel) → p.x < d.width → index_of d.width p < d.width * d.height → Inside d p
inside_from_index d p column within = (
  column,
  elim (cases_lt p.y d.height) [
    | inl less ↦ less
    | inr at_least ↦ absurd (omega (arith, mul-le-mul_left d.width at_least))
  ],
)

-- the marker is at most the mask
pub marker_below : (conn : Conn) (mask marker : Raster) (p : Pixel) → IsBelow marker mask
    → length marker.cells ≡ marker.width * marker.height
    → Inside (domain_of mask conn) p → value_at marker p ≤ value_at mask p
marker_below conn mask marker p below filled inside =
    let within : index_of mask.width p < length marker.cells =
    omega (
      arith,
      index_inside (domain_of mask conn) p inside,
      filled,
      ap (λ w. w * marker.height) below.width,
      ap (λ h. mask.width * h) below.height,
    ) in
    subst (λ w. get_or marker.cells (index_of w p) 0 ≤ get_or mask.cells (index_of mask.width p) 0) (sym below.width)
    (below.values (index_of mask.width p) within)

-- what is at least each cell of the marker is at least its value at each pixel
pub marker_at_most : (conn : Conn) (mask marker : Raster) (values : List ℕ) (top : ℕ) → IsBelow marker mask
    → length marker.cells ≡ marker.width * marker.height
    → values ≡ marker.cells → EachIndex values (λ i. get_or values i 0 ≤ top) → (p : Pixel)
    → Inside (domain_of mask conn) p → value_at marker p ≤ top
marker_at_most conn mask marker values top below filled same each p inside =
    let within : index_of mask.width p < length values =
    omega (
      arith,
      ap length same,
      index_inside (domain_of mask conn) p inside,
      filled,
      ap (λ w. w * marker.height) below.width,
      ap (λ h. mask.width * h) below.height,
    ) in
    let value : value_at marker p ≡ get_or values (index_of mask.width p) 0 =
    ap (λ w. get_or marker.cells (index_of w p) 0) below.width ∙ ap (λ xs. get_or xs (index_of mask.width p) 0)
    (sym same) in
    omega (arith, value, each (index_of mask.width p) within)

module _ (conn : Conn) (mask marker : Raster) (level count : ℕ) (image : Raster) (waiting : List Pixel)
    (below : IsBelow marker mask) (filled : length marker.cells ≡ marker.width * marker.height)
    (sized : IsImageOn (domain_of mask conn) image)
    (flooding : IsSeeding conn mask marker level count image waiting) where
  -- the seed of the next cell is marked
  pub seeding_marks : (q : Pixel) → Inside (domain_of mask conn) q → index_of mask.width q ≡ count
      → level ≤ value_at marker q
      → IsSeeding conn mask marker level (count + 1) (with_value image q level) (waiting ++ q ∷ [])
  seeding_marks q inside place seed =
      let d = domain_of mask conn in
      let new = with_value image q level in
      let here : value_at new q ≡ level = written_here d image q level sized inside in
      let high : level ≤ value_at mask q = omega (arith, seed, marker_below conn mask marker q below filled inside) in
      let marked =
      flood_marks d (value_at mask) (value_at marker) (value_at image) (value_at new) level count waiting q inside
      (reaches_here d (value_at mask) (value_at marker) q level inside high seed) here
      (λ p inside_p. written_else d image q p level sized inside inside_p) flooding in
      flood_sees d (value_at mask) (value_at marker) (value_at new) level count (waiting ++ q ∷ [])
      (λ p inside_p place_p seed_p.
      subst (λ r. level ≤ value_at new r) (sym (same_place d.width d.height p q inside_p inside
      (place_p ∙ sym place))) (omega (arith, here)))
      marked

  -- the next cell is no seed
  pub seeding_passes : get_or marker.cells count 0 < level → IsSeeding conn mask marker level (count + 1) image waiting
  seeding_passes low =
      flood_sees (domain_of mask conn) (value_at mask) (value_at marker) (value_at image) level count waiting
      (λ p inside place seed.
      let same : value_at marker p ≡ get_or marker.cells count 0 =
      ap (λ w. get_or marker.cells (index_of w p) 0) below.width ∙ ap (λ i. get_or marker.cells i 0) place in
      absurd (omega (arith, same, seed, low)))
      flooding
