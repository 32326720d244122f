-- The flood of one level: it begins, marks pixels, and is done when no pixel waits.
use Rattle.std.proofs.Common.{◌≡◌, ℕ, ◌+◌, ◌*◌, ◌<◌, ◌≤◌, ◌⊎◌, List, [], ◌∷◌, ◌++◌, length, replicate, get_or, sym}
use Rattle.std.proofs.Common.{subst, ap, ◌∙◌, arith, inl, inr, Contains}
use Rattle.std.proofs.{lemmas.Bool.cases_lt, lemmas.Nat.mul-add-lt}
use Rattle.std.proofs.lemmas.List.Elements.{Contains-push, Contains-push_cases, Contains-append_left}
use Rattle.std.proofs.lemmas.List.Elements.{Contains-append_right, Contains-append_cases}
use Rattle.std.proofs.lemmas.List.{length-replicate, get_or-replicate}
use Rattle.std.specs.List.{AllByRecursion}
use Rattle.grid_core.specs.{declared.conn.Conn.Conn, declared.pixel.Pixel.Pixel, Reconstruction.IsReconstruction}
use Rattle.grid_core.specs.Path.{Domain, domain_of, Inside, IsPath, end_of, Reaches}
use Rattle.grid_core.specs.Raster.{Raster, IsBelow, index_of, value_at}
use Rattle.grid_core.proofs.{Pixels.AreNeighbours-sym, Cells.each_pixel_below}
use Rattle.grid_core.proofs.Reach.{IsPath-inside, IsPath-ends_inside, reaches_within_mask}
use Rattle.raster_sweeps.specs.Flood.{IsImageOn, IsFloodedTo, IsFlooding, HasSpread}
use Rattle.raster_sweeps.proofs.Flood.Cells.{index_inside, filled_on}

-- nothing is in an empty list
pub nothing_waits : {X : Type 0} (x : X) → Contains [] x → ⊥
nothing_waits x h = let below : h.0 < 0 = h.1 in omega arith

-- membership in a list with one more at its front
pub Contains-cons_cases : {X : Type 0} (y : X) (xs : List X) (x : X) → Contains (y ∷ xs) x → (y ≡ x) ⊎ Contains xs x
Contains-cons_cases y xs x h =
    elim (Contains-append_cases (y ∷ []) xs x h) [
      | inl first ↦
          elim (Contains-push_cases [] y x first) [ inl none ↦ absurd (nothing_waits x none) | inr same ↦ inl same ]
      | inr later ↦ inr later
    ]

-- one more pixel is marked
pub flood_marks : (d : Domain) (mask marker old new : Pixel → ℕ) (level seen : ℕ) (waiting : List Pixel) (q : Pixel)
    → Inside d q → Reaches d mask marker q level → new q ≡ level
    → ((p : Pixel) → Inside d p → (p ≡ q) ⊎ (new p ≡ old p))
    → IsFlooding d mask marker level seen old waiting → IsFlooding d mask marker level seen new (waiting ++ q ∷ [])
flood_marks d mask marker old new level seen waiting q inside_q reach here others flooding =
    let rises : (p : Pixel) → Inside d p → level ≤ old p → level ≤ new p = λ p inside high. elim (others p inside) [
      | inl same ↦ subst (λ r. level ≤ new r) (sym same) (omega (arith, here))
      | inr kept ↦ omega (arith, kept)
    ] in
    record {
      within = λ p inside. elim (others p inside) [
        | inl same ↦ subst (λ r. new r ≤ level) (sym same) (omega (arith, here))
        | inr kept ↦ omega (arith, kept, flooding.within p inside)
      ];
      reached = λ p inside. elim (others p inside) [
        | inl same ↦
            subst (λ r. Reaches d mask marker r (new r)) (sym same) (subst (Reaches d mask marker q) (sym here) reach)
        | inr kept ↦ subst (Reaches d mask marker p) (sym kept) (flooding.reached p inside)
      ];
      lower = λ p k inside less reach_k. elim (others p inside) [
        | inl same ↦ subst (λ r. k ≤ new r) (sym same) (omega (arith, here))
        | inr kept ↦ omega (arith, kept, flooding.lower p k inside less reach_k)
      ];
      seeds = λ p inside before high. rises p inside (flooding.seeds p inside before high);
      marked = λ p h. elim (Contains-push_cases waiting q p h) [
        | inl old_one ↦
            ((flooding.marked p old_one).0, rises p (flooding.marked p old_one).0 (flooding.marked p old_one).1)
        | inr same ↦ subst (λ r. Inside d r × (level ≤ new r)) same (inside_q, omega (arith, here))
      ];
      spread = λ p inside high. elim (others p inside) [
        | inl same ↦ inl (subst (Contains (waiting ++ q ∷ [])) (sym same) (Contains-push waiting q))
        | inr kept ↦ elim (flooding.spread p inside (omega (arith, kept))) [
          | inl waits ↦ inl (Contains-append_left waiting (q ∷ []) p waits)
          | inr done ↦ inr (λ r inside_r beside below. rises r inside_r (done r inside_r beside below))
        ]
      ];
    }

-- one more cell is seen
pub flood_sees : (d : Domain) (mask marker image : Pixel → ℕ) (level seen : ℕ) (waiting : List Pixel)
    → ((p : Pixel) → Inside d p → index_of d.width p ≡ seen → level ≤ marker p → level ≤ image p)
    → IsFlooding d mask marker level seen image waiting → IsFlooding d mask marker level (seen + 1) image waiting
flood_sees d mask marker image level seen waiting here flooding = record {
  within = flooding.within;
  reached = flooding.reached;
  lower = flooding.lower;
  seeds = λ p inside before high. elim (cases_lt (index_of d.width p) seen) [
    | inl earlier ↦ flooding.seeds p inside earlier high
    | inr at_least ↦ here p inside (omega arith) high
  ];
  marked = flooding.marked;
  spread = flooding.spread;
}

-- the order of the pixels that wait does not matter: the last becomes the first
pub flood_pops : (d : Domain) (mask marker image : Pixel → ℕ) (level seen : ℕ) (rest : List Pixel) (q : Pixel)
    → IsFlooding d mask marker level seen image (rest ++ q ∷ []) → IsFlooding d mask marker level seen image (q ∷ rest)
flood_pops d mask marker image level seen rest q flooding = record {
  within = flooding.within;
  reached = flooding.reached;
  lower = flooding.lower;
  seeds = flooding.seeds;
  marked = λ p h. flooding.marked p (elim (Contains-cons_cases q rest p h) [
    | inl same ↦ subst (Contains (rest ++ q ∷ [])) same (Contains-push rest q)
    | inr later ↦ Contains-append_left rest (q ∷ []) p later
  ]);
  spread = λ p inside high. elim (flooding.spread p inside high) [
    | inl waits ↦ inl (elim (Contains-push_cases rest q p waits) [
      | inl later ↦ Contains-append_right (q ∷ []) rest p later
      | inr same ↦ subst (Contains (q ∷ rest)) same (Contains-append_left (q ∷ []) rest q (Contains-push [] q))
    ])
    | inr done ↦ inr done
  ];
}

-- a pixel that has spread need not wait
pub flood_lets_go : (d : Domain) (mask marker image : Pixel → ℕ) (level seen : ℕ) (rest : List Pixel) (q : Pixel)
    → HasSpread d mask level image q → IsFlooding d mask marker level seen image (q ∷ rest)
    → IsFlooding d mask marker level seen image rest
flood_lets_go d mask marker image level seen rest q gone flooding = record {
  within = flooding.within;
  reached = flooding.reached;
  lower = flooding.lower;
  seeds = flooding.seeds;
  marked = λ p h. flooding.marked p (Contains-append_right (q ∷ []) rest p h);
  spread = λ p inside high. elim (flooding.spread p inside high) [
    | inl waits ↦ elim (Contains-cons_cases q rest p waits) [
      | inl same ↦ inr (subst (HasSpread d mask level image) same gone)
      | inr later ↦ inl later
    ]
    | inr done ↦ inr done
  ];
}

-- when no pixel waits, marks lie all along each path to a seed
marked_along : (d : Domain) (mask marker image : Pixel → ℕ) (level : ℕ)
    → ((p : Pixel) → Inside d p → level ≤ marker p → level ≤ image p)
    → ((p : Pixel) → Inside d p → level ≤ image p → HasSpread d mask level image p)
    → (p : Pixel) (rest : List Pixel) → IsPath d p rest → AllByRecursion (λ q. level ≤ mask q) (p ∷ rest)
    → level ≤ marker (end_of p rest) → level ≤ image p
marked_along d mask marker image level seeds spread p [] path all end = seeds p path end
marked_along d mask marker image level seeds spread p (q ∷ rest) path all end =
    let inside_q : Inside d q = IsPath-inside d q rest path.2 in
    let at_q : level ≤ image q = marked_along d mask marker image level seeds spread q rest path.2 all.1 end in
    spread q inside_q at_q p path.0 (AreNeighbours-sym d.conn p q path.1) all.0

-- when no pixel waits, the level is done
pub flood_ends : (d : Domain) (mask marker image : Pixel → ℕ) (level : ℕ) (waiting : List Pixel) → length waiting ≡ 0
    → IsFlooding d mask marker level (d.width * d.height) image waiting → IsFloodedTo d mask marker level image
flood_ends d mask marker image level waiting none flooding = record {
  within = flooding.within;
  reached = flooding.reached;
  greatest = λ p k inside at_most reach. elim (cases_lt k level) [
    | inl less ↦ flooding.lower p k inside less reach
    | inr at_least ↦
        let same : level ≡ k = omega arith in
        let reach_level : Reaches d mask marker p level = subst (Reaches d mask marker p) (sym same) reach in
        let high : level ≤ image p = marked_along d mask marker image level
        (λ q inside_q seed. flooding.seeds q inside_q (index_inside d q inside_q) seed)
        (λ q inside_q marked. elim (flooding.spread q inside_q marked) [
          | inl waits ↦ absurd (omega (arith, waits.1))
          | inr done ↦ done
        ])
        p reach_level.0 reach_level.1 reach_level.2 reach_level.3 in
        omega arith
  ];
}

-- where all is 0, level 0 is done
flood_of_zeros : (d : Domain) (mask marker image : Pixel → ℕ) → ((p : Pixel) → Inside d p → image p ≡ 0)
    → IsFloodedTo d mask marker 0 image
flood_of_zeros d mask marker image zeros = record {
  within = λ p inside. omega (arith, zeros p inside);
  reached =
      λ p inside. subst (Reaches d mask marker p) (sym (zeros p inside)) ([], inside, (omega arith, tt), omega arith);
  greatest = λ p k inside at_most reach. omega arith;
}

-- an image of zeros is one that level 0 is done in
pub zeros_sized : (d : Domain) (w h : ℕ) (cells : List ℕ) → w ≡ d.width → h ≡ d.height → cells ≡ replicate (w * h) 0
    → IsImageOn d (record { width = w; height = h; cells = cells })
zeros_sized d w h cells wide high zeros = record {
  width = wide;
  height = high;
  filled = ap length zeros ∙ length-replicate (w * h) 0 ∙ ap (λ v. v * h) wide ∙ ap (λ v. d.width * v) high;
}

pub zeros_flooded : (d : Domain) (mask marker : Pixel → ℕ) (w h : ℕ) (cells : List ℕ) → w ≡ d.width → h ≡ d.height
    → cells ≡ replicate (w * h) 0
    → IsFloodedTo d mask marker 0 (value_at (record { width = w; height = h; cells = cells }))
zeros_flooded d mask marker w h cells wide high zeros =
    flood_of_zeros d mask marker (value_at (record { width = w; height = h; cells = cells })) (λ p inside.
    let within : index_of w p < w * h = mul-add-lt p.y w p.x h (omega (arith, inside.1)) (omega (arith, inside.0)) in
    ap (λ xs. get_or xs (index_of w p) 0) zeros ∙ get_or-replicate (w * h) (index_of w p) 0 0 within)

-- when the marker's greatest level is done, the image is the reconstruction
pub flood_is_reconstruction : (d : Domain) (mask marker image : Pixel → ℕ) (top : ℕ)
    → ((p : Pixel) → Inside d p → marker p ≤ top)
    → IsFloodedTo d mask marker top image → IsReconstruction d mask marker image
flood_is_reconstruction d mask marker image top below flooded p inside = (
  flooded.reached p inside,
  λ k above reach.
      let within : marker (end_of p reach.0) ≤ top =
      below (end_of p reach.0) (IsPath-ends_inside d p reach.0 reach.1) in
      let held : k ≤ image p = flooded.greatest p k inside (omega (arith, within, reach.3)) reach in
      absurd (omega arith),
)

-- a flooded image is below the mask
pub flooded_below : (conn : Conn) (mask : Raster) (marker : Pixel → ℕ) (level : ℕ) (image : Raster)
    → IsImageOn (domain_of mask conn) image
    → IsFloodedTo (domain_of mask conn) (value_at mask) marker level (value_at image) → IsBelow image mask
flooded_below conn mask marker level image on flooded =
    each_pixel_below image mask (filled_on (domain_of mask conn) image on) on.width on.height (λ p inside.
    reaches_within_mask (domain_of mask conn) (value_at mask) marker p (value_at image p)
    (flooded.reached p (omega (arith, inside.0, on.width), omega (arith, inside.1, on.height))))
