-- Supported images: what raises them keeps them supported.
use Rattle.std.proofs.Common.{◌≡◌, ℕ, ◌≤◌, min, List, [], ◌∷◌, sym, subst, arith, inl, inr}
use Rattle.std.proofs.lemmas.Bool.{cases_lt}
use Rattle.std.specs.List.{AllByRecursion}
use Rattle.grid_core.specs.{declared.conn.Conn.Conn, declared.pixel.Pixel.Pixel, declared.rect.Rect.Rect}
use Rattle.grid_core.specs.{Rects.in_image, Neighbours.AreNeighbours}
use Rattle.grid_core.specs.declared.conn.Conn.TheVariants.{Four, Eight}
use Rattle.grid_core.specs.Path.{Domain, Inside, IsPath, end_of, Reaches}
use Rattle.grid_core.specs.Reconstruction.{IsReconstruction, IsLawful, IsClosed}
use Rattle.grid_core.proofs.Pixels.{AreNeighbours-sym, same_pixel_or_not}
use Rattle.grid_core.proofs.Reach.{reaches_by_step, reaches_lower}
use Rattle.core_rules.specs.Image.{IsSupported}

-- values at least k along a path are at least k in an image that is nowhere less
at_least_above : (d : Domain) (low high : Pixel → ℕ) → ((p : Pixel) → Inside d p → low p ≤ high p) → (k : ℕ) (p : Pixel)
    (rest : List Pixel) → IsPath d p rest → AllByRecursion (λ q. k ≤ low q) (p ∷ rest)
    → AllByRecursion (λ q. k ≤ high q) (p ∷ rest)
at_least_above d low high le k p [] path all = (omega (arith, all.0, le p path), tt)
at_least_above d low high le k p (q ∷ rest) path all =
    (omega (arith, all.0, le p path.0), at_least_above d low high le k q rest path.2 all.1)

-- a pixel reaches under a greater mask what it reaches under a lesser
pub reaches_above : (d : Domain) (low high marker : Pixel → ℕ) → ((p : Pixel) → Inside d p → low p ≤ high p)
    → (p : Pixel) (k : ℕ) → Reaches d low marker p k → Reaches d high marker p k
reaches_above d low high marker le p k reach =
    (reach.0, reach.1, at_least_above d low high le k p reach.0 reach.1 reach.2, reach.3)

pub supported_is_lawful : (d : Domain) (mask marker j : Pixel → ℕ) → IsSupported d mask marker j
    → IsLawful d mask marker j
supported_is_lawful d mask marker j supported p inside =
    let at_p = supported p inside in
    (at_p.0, reaches_above d j mask marker (λ q h. (supported q h).1) p (j p) at_p.2)

-- a supported image that is raised at one pixel, no further than a neighbour and the mask let it
pub raise_is_supported : (d : Domain) (mask marker old new : Pixel → ℕ) (p q : Pixel) → IsSupported d mask marker old
    → Inside d p → Inside d q → AreNeighbours d.conn p q → old q ≤ new q → new q ≤ min (old p) (mask q)
    → ((r : Pixel) → Inside d r → (r ≡ q → ⊥) → new r ≡ old r) → IsSupported d mask marker new
raise_is_supported d mask marker old new p q supported inside_p inside_q beside more enough others =
    let rises : (r : Pixel) → Inside d r → old r ≤ new r = λ r inside. elim (same_pixel_or_not r q) [
      | inl same ↦ rw same more
      | inr other ↦ omega (arith, others r inside other)
    ] in
    let at_p : Reaches d new marker p (old p) =
    reaches_above d old new marker rises p (old p) (supported p inside_p).2 in
    let lower : Reaches d new marker p (new q) = reaches_lower d new marker p (old p) (new q) (omega arith) at_p in
    let at_q : (marker q ≤ new q) × (new q ≤ mask q) × Reaches d new marker q (new q) = (
      omega (arith, (supported q inside_q).0),
      omega arith,
      reaches_by_step d new marker q p (new q) inside_q (AreNeighbours-sym d.conn p q beside) (omega arith) lower,
    ) in
    λ r inside. elim (same_pixel_or_not r q) [
      | inl same ↦ subst (λ s. (marker s ≤ new s) × (new s ≤ mask s) × Reaches d new marker s (new s)) (sym same) at_q
      | inr other ↦
          let stays : new r ≡ old r = others r inside other in
          let reach = reaches_above d old new marker rises r (old r) (supported r inside).2 in (
            omega (arith, stays, (supported r inside).0),
            omega (arith, stays, (supported r inside).1),
            subst (Reaches d new marker r) (sym stays) reach,
          )
    ]

-- ---- a part of the image that is reconstructed by itself

-- a pixel of a reconstruction reaches no level above its value
pub reach_at_most : (d : Domain) (mask marker r : Pixel → ℕ) → IsReconstruction d mask marker r → (p : Pixel) (k : ℕ)
    → Inside d p → Reaches d mask marker p k → k ≤ r p
reach_at_most d mask marker r recon p k inside reach = elim (cases_lt (r p) k) [
  | inl above ↦ absurd ((recon p inside).1 k above reach)
  | inr within ↦ within
]

-- a reconstruction is closed
pub reconstruction_is_closed : (d : Domain) (mask marker r : Pixel → ℕ) → IsReconstruction d mask marker r
    → IsClosed d mask r
reconstruction_is_closed d mask marker r recon p q inside_p inside_q beside =
    let reach = reaches_lower d mask marker p (r p) (min (r p) (mask q)) (omega arith) (recon p inside_p).0 in
    reach_at_most d mask marker r recon q (min (r p) (mask q)) inside_q
    (reaches_by_step d mask marker q p (min (r p) (mask q)) inside_q (AreNeighbours-sym d.conn p q beside)
    (omega arith) reach)

-- neighbours in a rectangle are neighbours in the image
pub neighbours_in_image : (conn : Conn) (rect : Rect) (p q : Pixel) → AreNeighbours conn p q
    → AreNeighbours conn (in_image rect p) (in_image rect q)
neighbours_in_image Four rect p q beside = omega arith
neighbours_in_image Eight rect p q beside = (omega arith, omega arith, omega arith)

pub neighbours_from_image : (conn : Conn) (rect : Rect) (p q : Pixel)
    → AreNeighbours conn (in_image rect p) (in_image rect q) → AreNeighbours conn p q
neighbours_from_image Four rect p q beside = omega arith
neighbours_from_image Eight rect p q beside = (omega arith, omega arith, omega arith)

-- a supported image is raised to a reconstruction of the part of the mask in a rectangle, from a base below the image
module _ (d local : Domain) (rect : Rect) (marker old new mask base pixels : Pixel → ℕ) (same : local.conn ≡ d.conn)
    (inside : (p : Pixel) → Inside local p → Inside d (in_image rect p))
    (recon : IsReconstruction local mask base pixels)
    (below : (p : Pixel) → Inside local p → base p ≤ old (in_image rect p))
    (more : (p : Pixel) → Inside local p → pixels p ≤ new (in_image rect p))
    (rises : (p : Pixel) → Inside d p → old p ≤ new p)
    (supports : (p : Pixel) → Inside d p → Reaches d old marker p (old p)) where
  -- what a pixel reaches in the rectangle, it reaches in the new image
  pub part_reaches : (k : ℕ) (p : Pixel) (rest : List Pixel) → IsPath local p rest
      → AllByRecursion (λ q. k ≤ mask q) (p ∷ rest) → k ≤ base (end_of p rest)
      → Reaches d new marker (in_image rect p) k
  part_reaches k p [] path all end =
      let there = inside p path in
      reaches_above d old new marker rises (in_image rect p) k
      (reaches_lower d old marker (in_image rect p) (old (in_image rect p)) k (omega (arith, end, below p path))
      (supports (in_image rect p) there))
  part_reaches k p (q ∷ rest) path all end =
      let inside_p : Inside local p = path.0 in
      let reached : k ≤ pixels p = reach_at_most local mask base pixels recon p k inside_p (q ∷ rest, path, all, end) in
      let beside : AreNeighbours d.conn (in_image rect p) (in_image rect q) =
      neighbours_in_image d.conn rect p q (subst (λ conn. AreNeighbours conn p q) same path.1) in
      reaches_by_step d new marker (in_image rect p) (in_image rect q) k (inside p inside_p) beside
      (omega (arith, reached, more p inside_p)) (part_reaches k q rest path.2 all.1 end)
