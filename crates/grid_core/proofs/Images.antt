-- Raises, lawful images and the reconstruction.
use Rattle.std.proofs.Common.{◌≡◌, ℕ, ◌≤◌, min, List, [], ◌∷◌, sym, subst, arith, inl, inr}
use Rattle.std.proofs.lemmas.Bool.{cases_lt}
use Rattle.std.specs.List.{AllByRecursion}
use Rattle.grid_core.specs.declared.pixel.Pixel.{Pixel}
use Rattle.grid_core.specs.Path.{Domain, Inside, IsPath, end_of, Reaches}
use Rattle.grid_core.specs.Reconstruction.{IsReconstruction, IsLawful, IsClosed, IsRaise}
use Rattle.grid_core.proofs.Pixels.{AreNeighbours-sym, same_pixel_or_not}
use Rattle.grid_core.proofs.Reach.{IsPath-inside, reaches_by_step, reaches_lower}

-- the greatest level is one number
pub one_reconstruction : (d : Domain) (mask marker r s : Pixel → ℕ) → IsReconstruction d mask marker r
    → IsReconstruction d mask marker s → (p : Pixel) → Inside d p → r p ≡ s p
one_reconstruction d mask marker r s first second p inside =
    elim (cases_lt (r p) (s p)) [
      | inl less ↦ absurd ((first p inside).1 (s p) less (second p inside).0)
      | inr at_least ↦ elim (cases_lt (s p) (r p)) [
        | inl greater ↦ absurd ((second p inside).1 (r p) greater (first p inside).0)
        | inr at_most ↦ omega arith
      ]
    ]

-- a level flows back along a path into an image that is closed
flows_back : (d : Domain) (mask marker j : Pixel → ℕ) → ((p : Pixel) → Inside d p → marker p ≤ j p) → IsClosed d mask j
    → (k : ℕ) (p : Pixel) (rest : List Pixel) → IsPath d p rest → AllByRecursion (λ q. k ≤ mask q) (p ∷ rest)
    → k ≤ marker (end_of p rest) → k ≤ j p
flows_back d mask marker j above closed k p [] path all end = omega (arith, above p path)
flows_back d mask marker j above closed k p (q ∷ rest) path all end =
    let at_q : k ≤ j q = flows_back d mask marker j above closed k q rest path.2 all.1 end in
    let inside_q : Inside d q = IsPath-inside d q rest path.2 in
    omega (arith, at_q, all.0, closed q p inside_q path.0 (AreNeighbours-sym d.conn p q path.1))

pub closed_is_reconstruction : (d : Domain) (mask marker j : Pixel → ℕ) → IsLawful d mask marker j → IsClosed d mask j
    → IsReconstruction d mask marker j
closed_is_reconstruction d mask marker j lawful closed p inside = (
  (lawful p inside).1,
  λ k above reach.
      let reached : k ≤ j p =
      flows_back d mask marker j (λ q h. (lawful q h).0) closed k p reach.0 reach.1 reach.2 reach.3 in
      absurd (omega arith),
)

-- what a raised pixel reaches
raised_reaches : (d : Domain) (mask marker old new : Pixel → ℕ) (p q : Pixel) → IsLawful d mask marker old
    → IsRaise d mask old new p q → Reaches d mask marker q (new q)
raised_reaches d mask marker old new p q lawful raise =
    elim (cases_lt (old q) (min (old p) (mask q))) [
      | inl less ↦
          let level : new q ≡ min (old p) (mask q) = omega (arith, raise.raised) in
          let reach =
          reaches_lower d mask marker p (old p) (min (old p) (mask q)) (omega arith)
          (lawful p raise.from_inside).1 in
          subst (Reaches d mask marker q) (sym level) (reaches_by_step d mask marker q p (min (old p) (mask q))
          raise.to_inside (AreNeighbours-sym d.conn p q raise.beside) (omega arith) reach)
      | inr at_least ↦
          let level : new q ≡ old q = omega (arith, raise.raised) in
          subst (Reaches d mask marker q) (sym level) (lawful q raise.to_inside).1
    ]

pub raise_is_lawful : (d : Domain) (mask marker old new : Pixel → ℕ) (p q : Pixel) → IsLawful d mask marker old
    → IsRaise d mask old new p q → IsLawful d mask marker new
raise_is_lawful d mask marker old new p q lawful raise r inside =
    elim (same_pixel_or_not r q) [
      | inl same ↦
          subst (λ s. (marker s ≤ new s) × Reaches d mask marker s (new s)) (sym same) (
            omega (arith, raise.raised, (lawful q raise.to_inside).0),
            raised_reaches d mask marker old new p q lawful raise,
          )
      | inr other ↦
          subst (λ v. (marker r ≤ v) × Reaches d mask marker r v) (sym (raise.others r inside other)) (lawful r inside)
    ]

pub lies_between : (d : Domain) (mask marker j r : Pixel → ℕ) → IsLawful d mask marker j
    → IsReconstruction d mask marker r → (p : Pixel) → Inside d p → (marker p ≤ j p) × (j p ≤ r p)
lies_between d mask marker j r lawful recon p inside = (
  (lawful p inside).0,
  elim (cases_lt (r p) (j p)) [
    | inl above ↦ absurd ((recon p inside).1 (j p) above (lawful p inside).1)
    | inr within ↦ within
  ],
)

-- no pixel of a reconstruction can raise a neighbour
pub reconstruction_is_closed : (d : Domain) (mask marker j : Pixel → ℕ) → IsReconstruction d mask marker j
    → IsClosed d mask j
reconstruction_is_closed d mask marker j recon p q inside_p inside_q beside =
    elim (cases_lt (j q) (min (j p) (mask q))) [
      | inl less ↦
          absurd ((recon q inside_q).1 (min (j p) (mask q)) less
          (reaches_by_step d mask marker q p (min (j p) (mask q)) inside_q (AreNeighbours-sym d.conn p q beside)
          (omega arith)
          (reaches_lower d mask marker p (j p) (min (j p) (mask q)) (omega arith) (recon p inside_p).0)))
      | inr at_least ↦ at_least
    ]
