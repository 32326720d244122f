-- Each lawful image grows into a reconstruction: while a pixel can still raise a neighbour, let it.
use Rattle.std.proofs.Common.{◌≡◌, ℕ, zero, suc, ◌+◌, ◌-◌, ◌<◌, ◌≤◌, min, refl, sym, subst, arith, inl, inr, ◌⊎◌}
use Rattle.std.proofs.lemmas.Bool.{cases_lt, cases_eq}
use Rattle.grid_core.specs.{declared.conn.Conn.Conn, declared.conn.Conn.TheVariants.Four}
use Rattle.grid_core.specs.{declared.conn.Conn.TheVariants.Eight, declared.pixel.Pixel.Pixel, Neighbours.AreNeighbours}
use Rattle.grid_core.specs.{Neighbours.apart, Path.Domain, Path.Inside, Owed.sum_over}
use Rattle.grid_core.specs.Reconstruction.{IsReconstruction, IsLawful, IsClosed}
use Rattle.grid_core.proofs.{Pixels.same_pixel_or_not, Sums.sum_over-less}
use Rattle.grid_core.proofs.Images.{raise_is_lawful, closed_is_reconstruction}

-- ---- looking for a pixel

-- it holds of a number below n, or of none
find_below : (P : ℕ → Type 0) → ((k : ℕ) → P k ⊎ (P k → ⊥)) → (n : ℕ)
    → ((k : ℕ) × (k < n) × P k) ⊎ ((k : ℕ) → k < n → P k → ⊥)
find_below P decide zero = inr (λ k within holds. absurd (omega (arith, within)))
find_below P decide (suc n) = elim (decide n) [
  | inl holds ↦ inl (n, omega arith, holds)
  | inr fails ↦ elim (find_below P decide n) [
    | inl found ↦ inl (found.0, omega (arith, found.1), found.2)
    | inr none ↦
        inr (λ k within. elim (cases_eq k n) [
          | inl here ↦ subst (λ m. P m → ⊥) (sym here) fails
          | inr other ↦ none k (omega (arith, within, other))
        ])
  ]
]

-- it holds of a pixel of the domain, or of none
find_pixel : (d : Domain) (P : Pixel → Type 0) → ((p : Pixel) → P p ⊎ (P p → ⊥))
    → ((p : Pixel) × Inside d p × P p) ⊎ ((p : Pixel) → Inside d p → P p → ⊥)
find_pixel d P decide =
    let InRow : ℕ → Type 0 = λ y. (x : ℕ) × (x < d.width) × P (record { x = x; y = y }) in
    let in_row : (y : ℕ) → InRow y ⊎ (InRow y → ⊥) = λ y.
    elim (find_below (λ x. P (record { x = x; y = y })) (λ x. decide (record { x = x; y = y })) d.width) [
      | inl found ↦ inl found
      | inr none ↦ inr (λ found. none found.0 found.1 found.2)
    ] in
    elim (find_below InRow in_row d.height) [
      | inl found ↦ inl (record { x = found.2.0; y = found.0 }, (found.2.1, found.1), found.2.2)
      | inr none ↦ inr (λ p inside holds. none p.y inside.1 (p.x, inside.0, holds))
    ]

neighbours_or_not : (conn : Conn) (p q : Pixel) → AreNeighbours conn p q ⊎ (AreNeighbours conn p q → ⊥)
neighbours_or_not Four p q = cases_eq (apart p.x q.x + apart p.y q.y) 1
neighbours_or_not Eight p q = elim (cases_lt 1 (apart p.x q.x)) [
  | inl far ↦ inr (λ beside. absurd (omega (arith, far, beside.0)))
  | inr near_x ↦ elim (cases_lt 1 (apart p.y q.y)) [
    | inl far ↦ inr (λ beside. absurd (omega (arith, far, beside.1)))
    | inr near_y ↦ elim (cases_lt (apart p.x q.x + apart p.y q.y) 1) [
      | inl same ↦ inr (λ beside. absurd (omega (arith, same, beside.2)))
      | inr other ↦ inl (near_x, near_y, other)
    ]
  ]
]

-- ---- raising a pixel

-- the first pixel can still raise the second
abbrev CanRaise : Domain → (Pixel → ℕ) → (Pixel → ℕ) → Pixel → Pixel → Type 0
CanRaise d mask j p q = AreNeighbours d.conn p q × (j q < min (j p) (mask q))

can_raise_or_not : (d : Domain) (mask j : Pixel → ℕ) (p q : Pixel)
    → CanRaise d mask j p q ⊎ (CanRaise d mask j p q → ⊥)
can_raise_or_not d mask j p q = elim (neighbours_or_not d.conn p q) [
  | inl beside ↦ elim (cases_lt (j q) (min (j p) (mask q))) [
    | inl less ↦ inl (beside, less)
    | inr at_least ↦ inr (λ can. absurd (omega (arith, at_least, can.1)))
  ]
  | inr apart ↦ inr (λ can. apart can.0)
]

-- the first pixel can raise another
abbrev CanRaiseOther : Domain → (Pixel → ℕ) → (Pixel → ℕ) → Pixel → Type 0
CanRaiseOther d mask j p = (q : Pixel) × Inside d q × CanRaise d mask j p q

can_raise_other_or_not : (d : Domain) (mask j : Pixel → ℕ) (p : Pixel)
    → CanRaiseOther d mask j p ⊎ (CanRaiseOther d mask j p → ⊥)
can_raise_other_or_not d mask j p = elim (find_pixel d (CanRaise d mask j p) (can_raise_or_not d mask j p)) [
  | inl found ↦ inl found
  | inr none ↦ inr (λ found. none found.0 found.1 found.2)
]

-- a value for a pixel that is the one or not
abbrev chosen : {P Q : Type 0} → P ⊎ Q → ℕ → ℕ → ℕ
chosen (inl same) v w = v
chosen (inr other) v w = w

-- the image with another value at one pixel
abbrev with_pixel : (Pixel → ℕ) → Pixel → ℕ → Pixel → ℕ
with_pixel j q v p = chosen (same_pixel_or_not p q) v (j p)

chosen_one : (p q : Pixel) (c : (p ≡ q) ⊎ (p ≡ q → ⊥)) (v w : ℕ) → p ≡ q → chosen c v w ≡ v
chosen_one p q (inl same) v w is = refl
chosen_one p q (inr other) v w is = absurd (other is)

chosen_other : (p q : Pixel) (c : (p ≡ q) ⊎ (p ≡ q → ⊥)) (v w : ℕ) → (p ≡ q → ⊥) → chosen c v w ≡ w
chosen_other p q (inl same) v w apart = absurd (apart same)
chosen_other p q (inr other) v w apart = refl

-- the pixel is raised by the other
abbrev grown : (Pixel → ℕ) → (Pixel → ℕ) → Pixel → Pixel → Pixel → ℕ
grown mask j p q = with_pixel j q (min (j p) (mask q))

module _ (d : Domain) (mask marker j : Pixel → ℕ) (p q : Pixel) (lawful : IsLawful d mask marker j)
    (inside_p : Inside d p) (inside_q : Inside d q) (can : CanRaise d mask j p q) where
  at_raised : grown mask j p q q ≡ min (j p) (mask q)
  at_raised = chosen_one q q (same_pixel_or_not q q) (min (j p) (mask q)) (j q) refl

  others_stay : (r : Pixel) → (r ≡ q → ⊥) → grown mask j p q r ≡ j r
  others_stay r other = chosen_other r q (same_pixel_or_not r q) (min (j p) (mask q)) (j r) other

  grown_is_lawful : IsLawful d mask marker (grown mask j p q)
  grown_is_lawful =
      raise_is_lawful d mask marker j (grown mask j p q) p q lawful (record {
        from_inside = inside_p;
        to_inside = inside_q;
        beside = can.0;
        raised = let e = at_raised in omega (arith, e, can.1);
        others = λ r inside other. others_stay r other;
      })

  -- less is left below the mask
  less_room : sum_over d (λ r. mask r - grown mask j p q r) < sum_over d (λ r. mask r - j r)
  less_room =
      let e = at_raised in
      sum_over-less d (λ r. mask r - grown mask j p q r) (λ r. mask r - j r) q
      (λ r inside. elim (same_pixel_or_not r q) [
        | inl same ↦
            subst (λ (s : Pixel). mask s - grown mask j p q s ≤ mask s - j s) (sym same) (omega (arith, e, can.1))
        | inr other ↦ let stays = others_stay r other in omega (arith, stays)
      ]) inside_q (omega (arith, e, can.1))

-- where no pixel can raise another, the image is closed
none_is_closed : (d : Domain) (mask j : Pixel → ℕ)
    → ((p : Pixel) → Inside d p → CanRaiseOther d mask j p → ⊥) → IsClosed d mask j
none_is_closed d mask j none p q inside_p inside_q beside = elim (cases_lt (j q) (min (j p) (mask q))) [
  | inl less ↦ absurd (none p inside_p (q, inside_q, (beside, less)))
  | inr at_least ↦ at_least
]

grows : (d : Domain) (mask marker : Pixel → ℕ) (fuel : ℕ) (j : Pixel → ℕ) → IsLawful d mask marker j
    → sum_over d (λ r. mask r - j r) ≤ fuel → (r : Pixel → ℕ) × IsReconstruction d mask marker r
grows d mask marker zero j lawful enough =
    elim (find_pixel d (CanRaiseOther d mask j) (can_raise_other_or_not d mask j)) [
      | inl found ↦
          let less = less_room d mask marker j found.0 found.2.0 lawful found.1 found.2.1 found.2.2 in
          absurd (omega (arith, less, enough))
      | inr none ↦ (j, closed_is_reconstruction d mask marker j lawful (none_is_closed d mask j none))
    ]
grows d mask marker (suc fuel) j lawful enough =
    elim (find_pixel d (CanRaiseOther d mask j) (can_raise_other_or_not d mask j)) [
      | inl found ↦
          let less = less_room d mask marker j found.0 found.2.0 lawful found.1 found.2.1 found.2.2 in
          grows d mask marker fuel (grown mask j found.0 found.2.0)
          (grown_is_lawful d mask marker j found.0 found.2.0 lawful found.1 found.2.1 found.2.2)
          (omega (arith, less, enough))
      | inr none ↦ (j, closed_is_reconstruction d mask marker j lawful (none_is_closed d mask j none))
    ]

-- what a lawful image grows into
pub reconstruction_of : (d : Domain) (mask marker j : Pixel → ℕ) → IsLawful d mask marker j
    → (r : Pixel → ℕ) × IsReconstruction d mask marker r
reconstruction_of d mask marker j lawful =
    grows d mask marker (sum_over d (λ r. mask r - j r)) j lawful (omega arith)
