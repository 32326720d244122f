-- The holes of an image are filled by growing its complement from the border.
use Rattle.std.proofs.Common.{◌≡◌, ℕ, zero, suc, ◌-◌, ◌<◌, ◌≤◌, ◌⊎◌, [], ◌∷◌, refl, sym, subst, arith, inl, inr}
use Rattle.std.proofs.lemmas.Bool.{cases_lt}
use Rattle.grid_core.specs.{declared.pixel.Pixel.Pixel, Reconstruction.IsReconstruction, Raster.IsOnBorder}
use Rattle.grid_core.specs.Path.{Domain, Inside, end_of, Reaches}
use Rattle.grid_core.proofs.Reach.{IsPath-ends_inside}
use Rattle.derived_views.specs.Holes.{Escapes, IsFill}
use Rattle.derived_views.proofs.Paths.{along_path, at_end, pixel_at, left_is_neighbour}

-- a pixel escapes to the left at a level that no value exceeds
escapes_left : (d : Domain) (image : Pixel → ℕ) (top : ℕ) → ((q : Pixel) → Inside d q → image q ≤ top) → (x y : ℕ)
    → Inside d (pixel_at x y) → Escapes d image (pixel_at x y) top
escapes_left d image top bound zero y inside = ([], inside, (bound (pixel_at 0 y) inside, tt), inl refl)
escapes_left d image top bound (suc x) y inside =
    let next : Inside d (pixel_at x y) = (omega (arith, inside.0), inside.1) in
    let way = escapes_left d image top bound x y next in (
      pixel_at x y ∷ way.0,
      (inside, left_is_neighbour d.conn x y, way.1),
      (bound (pixel_at (suc x) y) inside, way.2),
      way.3,
    )

module _ (d : Domain) (image mask marker : Pixel → ℕ) (top : ℕ)
    (bound : (q : Pixel) → Inside d q → image q ≤ top)
    (turned : (q : Pixel) → Inside d q → mask q ≡ top - image q)
    (part : (q : Pixel) → Inside d q → (marker q ≡ 0) ⊎ (IsOnBorder d.width d.height q × (marker q ≡ mask q)))
    (whole : (q : Pixel) → Inside d q → IsOnBorder d.width d.height q → marker q ≡ mask q)
  where
    -- the end of a path at which the marker is above 0 lies on the border
    ends_on_border : (q : Pixel) (k : ℕ) → Inside d q → 0 < k → k ≤ marker q → IsOnBorder d.width d.height q
    ends_on_border q k inside some reached = elim (part q inside) [
      | inl none ↦ absurd (omega (arith, none))
      | inr border ↦ border.0
    ]

    -- what the complement reaches from the border, the image escapes
    reach_escapes : (p : Pixel) (k : ℕ) → 0 < k → Reaches d mask marker p k → Escapes d image p (top - k)
    reach_escapes p k some reach =
        let low = λ (q : Pixel) (inside : Inside d q) (high : k ≤ mask q).
        let lower : image q ≤ top - k = omega (arith, high, turned q inside, bound q inside) in lower
        in
        let last : Inside d (end_of p reach.0) = IsPath-ends_inside d p reach.0 reach.1 in (
          reach.0,
          reach.1,
          along_path d (λ q. k ≤ mask q) (λ q. image q ≤ top - k) low p reach.0 reach.1 reach.2,
          ends_on_border (end_of p reach.0) k last some reach.3,
        )

    -- what the image escapes, the complement reaches from the border
    escape_reaches : (p : Pixel) (k : ℕ) → Escapes d image p k → Reaches d mask marker p (top - k)
    escape_reaches p k way =
        let high = λ (q : Pixel) (inside : Inside d q) (low : image q ≤ k).
        let higher : top - k ≤ mask q = omega (arith, low, turned q inside) in higher
        in
        let along = along_path d (λ q. image q ≤ k) (λ q. top - k ≤ mask q) high p way.0 way.1 way.2 in
        let last : Inside d (end_of p way.0) = IsPath-ends_inside d p way.0 way.1 in
        let seed = whole (end_of p way.0) last way.3 in
        let level : top - k ≤ mask (end_of p way.0) = at_end (λ q. top - k ≤ mask q) p way.0 along in
        (way.0, way.1, along, omega (arith, seed, level))

    -- a pixel escapes at the level of its complement's reconstruction
    grown_escapes : (p : Pixel) (k : ℕ) → Inside d p → Reaches d mask marker p k → Escapes d image p (top - k)
    grown_escapes p k inside reach = elim (cases_lt 0 k) [
      | inl some ↦ reach_escapes p k some reach
      | inr none ↦
          let level : top ≡ top - k = omega (arith, none) in
          subst (λ t. Escapes d image p t) level (escapes_left d image top bound p.x p.y inside)
    ]

    -- the reconstruction of the complement from its border, turned back, is the fill
    pub fill_by_growing : (grown fill : Pixel → ℕ) → IsReconstruction d mask marker grown
        → ((q : Pixel) → Inside d q → fill q ≡ top - grown q)
        → IsFill d image fill
    fill_by_growing grown fill recon back p inside =
        let level = back p inside in (
          subst (λ t. Escapes d image p t) (sym level) (grown_escapes p (grown p) inside (recon p inside).0),
          λ k below way.
              let above : grown p < top - k = omega (arith, level, below) in
              (recon p inside).1 (top - k) above (escape_reaches p k way),
        )
