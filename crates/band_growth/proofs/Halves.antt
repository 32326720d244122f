-- Whole rows that are cut into those above a row and those from it on.
use Rattle.std.proofs.Common.{◌≡◌, ℕ, ◌+◌, ◌-◌, ◌≤◌, ◌⊎◌, List, [], ◌∷◌, sym, ap, subst, arith, inl, inr}
use Rattle.std.proofs.lemmas.Bool.{cases_lt}
use Rattle.std.specs.List.{AllByRecursion}
use Rattle.grid_core.specs.{declared.conn.Conn.Conn, declared.conn.Conn.TheVariants.Four}
use Rattle.grid_core.specs.{declared.conn.Conn.TheVariants.Eight, declared.pixel.Pixel.Pixel, declared.rect.Rect.Rect}
use Rattle.grid_core.specs.{Neighbours.AreNeighbours, Raster.IsInside, Rects.domain_in, Rects.in_image}
use Rattle.grid_core.specs.Path.{Domain, Inside, IsPath, end_of, Reaches}
use Rattle.grid_core.specs.Reconstruction.{IsClosed, IsLawful, IsOpen}
use Rattle.grid_core.proofs.{Pixels.near, Pixels.same_pixel, Reach.reaches_here, Reach.reaches_by_step}
use Rattle.band_growth.specs.Bands.{IsAcross, rows_above, rows_from}

-- ---- a rectangle of a domain

-- pixels that are neighbours where they are counted from the corner of a rectangle are neighbours in the image
pub neighbours_in_image : (conn : Conn) (rect : Rect) (p q : Pixel) → AreNeighbours conn p q
    → AreNeighbours conn (in_image rect p) (in_image rect q)
neighbours_in_image Four rect p q beside = omega (arith, beside)
neighbours_in_image Eight rect p q beside =
    (omega (arith, beside.0), omega (arith, beside.1), omega (arith, beside.2))

-- and the other way round
pub neighbours_from_image : (conn : Conn) (rect : Rect) (p q : Pixel)
    → AreNeighbours conn (in_image rect p) (in_image rect q) → AreNeighbours conn p q
neighbours_from_image Four rect p q beside = omega (arith, beside)
neighbours_from_image Eight rect p q beside =
    (omega (arith, beside.0), omega (arith, beside.1), omega (arith, beside.2))

-- the values of an image by itself are those of the whole image in the rectangle
abbrev pub IsPartOf : Rect → (Pixel → ℕ) → (Pixel → ℕ) → Type 0
IsPartOf rect piece image = (p : Pixel) → IsInside rect.w rect.h p → piece p ≡ image (in_image rect p)

-- the rectangle lies in a domain of this width and height
abbrev pub LiesIn : ℕ → ℕ → Rect → Type 0
LiesIn width height rect = (rect.x + rect.w ≤ width) × (rect.y + rect.h ≤ height)

module _ (d : Domain) (rect : Rect) (fits : LiesIn d.width d.height rect) (mask marker all_mask all_marker : Pixel → ℕ)
    (of_mask : IsPartOf rect mask all_mask) (of_marker : IsPartOf rect marker all_marker) where
  inside_all : (p : Pixel) → IsInside rect.w rect.h p → Inside d (in_image rect p)
  inside_all p inside = (omega (arith, inside.0, fits.0), omega (arith, inside.1, fits.1))

  reaches_along : (k : ℕ) (p : Pixel) (rest : List Pixel) → IsPath (domain_in rect d.conn) p rest
      → AllByRecursion (λ q. k ≤ mask q) (p ∷ rest) → k ≤ marker (end_of p rest)
      → Reaches d all_mask all_marker (in_image rect p) k
  reaches_along k p [] path all end =
      reaches_here d all_mask all_marker (in_image rect p) k (inside_all p path) (omega (arith, all.0, of_mask p path))
      (omega (arith, end, of_marker p path))
  reaches_along k p (q ∷ rest) path all end =
      reaches_by_step d all_mask all_marker (in_image rect p) (in_image rect q) k (inside_all p path.0)
      (neighbours_in_image d.conn rect p q path.1) (omega (arith, all.0, of_mask p path.0))
      (reaches_along k q rest path.2 all.1 end)

  -- a path in the rectangle is one in the image
  pub reaches_in_all : (p : Pixel) (k : ℕ) → Reaches (domain_in rect d.conn) mask marker p k
      → Reaches d all_mask all_marker (in_image rect p) k
  reaches_in_all p k reach = reaches_along k p reach.0 reach.1 reach.2 reach.3

-- a lawful image in the rectangle is lawful there in the image
pub lawful_in_all : (d : Domain) (rect : Rect) (mask marker image all_mask all_marker all_image : Pixel → ℕ)
    → LiesIn d.width d.height rect → IsPartOf rect mask all_mask → IsPartOf rect marker all_marker
    → IsPartOf rect image all_image → IsLawful (domain_in rect d.conn) mask marker image
    → (p : Pixel) → IsInside rect.w rect.h p
    → (all_marker (in_image rect p) ≤ all_image (in_image rect p))
    × Reaches d all_mask all_marker (in_image rect p) (all_image (in_image rect p))
lawful_in_all d rect mask marker image all_mask all_marker all_image fits of_mask of_marker of_image lawful p inside =
    let here = lawful p inside in (
      omega (arith, here.0, of_marker p inside, of_image p inside),
      subst (Reaches d all_mask all_marker (in_image rect p)) (of_image p inside)
          (reaches_in_all d rect fits mask marker all_mask all_marker of_mask of_marker p (image p) here.1),
    )

-- a pair that is open in the image is open in the rectangle, where both pixels lie in it
pub none_open_within : (d : Domain) (rect : Rect) (mask image all_mask all_image : Pixel → ℕ)
    → IsPartOf rect mask all_mask → IsPartOf rect image all_image → IsClosed (domain_in rect d.conn) mask image
    → (p q r s : Pixel) → IsInside rect.w rect.h r → IsInside rect.w rect.h s → in_image rect r ≡ p
    → in_image rect s ≡ q → IsOpen d all_mask all_image p q → ⊥
none_open_within d rect mask image all_mask all_image of_mask of_image closed p q r s inside_r inside_s at_p at_q
    raises =
    let beside : AreNeighbours d.conn (in_image rect r) (in_image rect s) =
    subst (λ t. AreNeighbours d.conn t (in_image rect s)) (sym at_p)
    (subst (λ t. AreNeighbours d.conn p t) (sym at_q) raises.beside) in
    omega (
      arith,
      raises.lower,
      closed r s inside_r inside_s (neighbours_from_image d.conn rect r s beside),
      of_image r inside_r,
      of_image s inside_s,
      of_mask s inside_s,
      ap all_image at_p,
      ap all_image at_q,
      ap all_mask at_q,
    )

-- ---- two halves

-- a pixel lies in one of two halves
in_half : (width height cut : ℕ) (p : Pixel) → IsInside width height p
    → ((q : Pixel) × IsInside width cut q × (in_image (rows_above width cut) q ≡ p))
    ⊎ ((q : Pixel) × IsInside width (height - cut) q × (in_image (rows_from width height cut) q ≡ p))
in_half width height cut p inside = elim (cases_lt p.y cut) [
  | inl less ↦
      inl (p, (inside.0, less), same_pixel (in_image (rows_above width cut) p) p (omega arith) (omega arith))
  | inr from ↦
      let q : Pixel = record { x = p.x; y = p.y - cut } in
      inr (
        q,
        (inside.0, omega (arith, inside.1)),
        same_pixel (in_image (rows_from width height cut) q) p (omega arith) (omega arith),
      )
]

module _ (conn : Conn) (width height cut : ℕ) (within : cut ≤ height)
    (mask image upper_mask upper lower_mask lower : Pixel → ℕ)
    (of_upper_mask : IsPartOf (rows_above width cut) upper_mask mask)
    (of_upper : IsPartOf (rows_above width cut) upper image)
    (of_lower_mask : IsPartOf (rows_from width height cut) lower_mask mask)
    (of_lower : IsPartOf (rows_from width height cut) lower image) where
  abbrev whole : Domain
  whole = record { width = width; height = height; conn = conn }

  above_fits : LiesIn width height (rows_above width cut)
  above_fits = (omega arith, omega arith)

  below_fits : LiesIn width height (rows_from width height cut)
  below_fits = (omega arith, omega arith)

  -- where both halves are lawful, the whole is
  pub halves_lawful : (marker upper_marker lower_marker : Pixel → ℕ)
      → IsPartOf (rows_above width cut) upper_marker marker
      → IsPartOf (rows_from width height cut) lower_marker marker
      → IsLawful (domain_in (rows_above width cut) conn) upper_mask upper_marker upper
      → IsLawful (domain_in (rows_from width height cut) conn) lower_mask lower_marker lower
      → IsLawful whole mask marker image
  halves_lawful marker upper_marker lower_marker of_upper_marker of_lower_marker above below p inside =
      elim (in_half width height cut p inside) [
        | inl found ↦
            subst (λ q. (marker q ≤ image q) × Reaches whole mask marker q (image q)) found.2
            (lawful_in_all whole (rows_above width cut) upper_mask upper_marker upper mask marker image above_fits
            of_upper_mask of_upper_marker of_upper above found.0 found.1)
        | inr found ↦
            subst (λ q. (marker q ≤ image q) × Reaches whole mask marker q (image q)) found.2
            (lawful_in_all whole (rows_from width height cut) lower_mask lower_marker lower mask marker image
            below_fits of_lower_mask of_lower_marker of_lower below found.0 found.1)
      ]

  -- where both halves are closed, each open pair lies across the cut
  pub halves_closed : IsClosed (domain_in (rows_above width cut) conn) upper_mask upper
      → IsClosed (domain_in (rows_from width height cut) conn) lower_mask lower
      → (p q : Pixel) → IsOpen whole mask image p q → IsAcross cut p q
  halves_closed above below p q raises =
      let near_rows = (near conn p q raises.beside).1 in
      elim (in_half width height cut p raises.from_inside) [
        | inl of_p ↦ elim (in_half width height cut q raises.to_inside) [
          | inl of_q ↦
              absurd (none_open_within whole (rows_above width cut) upper_mask upper mask image of_upper_mask of_upper
              above p q of_p.0 of_q.0 of_p.1 of_q.1 of_p.2 of_q.2 raises)
          | inr of_q ↦
              let row_p : 0 + of_p.0.y ≡ p.y = ap (λ (t : Pixel). t.y) of_p.2 in
              let row_q : cut + of_q.0.y ≡ q.y = ap (λ (t : Pixel). t.y) of_q.2 in
              inl (omega (arith, of_p.1.1, near_rows), omega (arith, of_p.1.1, near_rows))
        ]
        | inr of_p ↦ elim (in_half width height cut q raises.to_inside) [
          | inr of_q ↦
              absurd (none_open_within whole (rows_from width height cut) lower_mask lower mask image of_lower_mask
              of_lower below p q of_p.0 of_q.0 of_p.1 of_q.1 of_p.2 of_q.2 raises)
          | inl of_q ↦
              let row_p : cut + of_p.0.y ≡ p.y = ap (λ (t : Pixel). t.y) of_p.2 in
              let row_q : 0 + of_q.0.y ≡ q.y = ap (λ (t : Pixel). t.y) of_q.2 in
              inr (omega (arith, of_q.1.1, near_rows), omega (arith, of_q.1.1, near_rows))
        ]
      ]
