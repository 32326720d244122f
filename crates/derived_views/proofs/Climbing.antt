-- The regional maxima are where the image less 1, grown inside the image, stays lower than it. A pixel of value 0 lies
-- on one only where the whole image has that value.
use Rattle.std.proofs.Common.{◌≡◌, ℕ, ◌<◌, ◌≤◌, Bool, true, false, List, [], ◌∷◌, ◌++◌, refl, sym, subst, arith, inl}
use Rattle.std.proofs.Common.{inr}
use Rattle.std.proofs.lemmas.Bool.{cases_lt}
use Rattle.std.specs.List.{AllByRecursion}
use Rattle.grid_core.specs.{declared.pixel.Pixel.Pixel, Neighbours.AreNeighbours, Reconstruction.IsReconstruction}
use Rattle.grid_core.specs.Path.{Domain, Inside, IsPath, end_of, Reaches}
use Rattle.grid_core.proofs.Reach.{IsPath-inside, reaches_within_mask}
use Rattle.derived_views.specs.{HMaxima.less, Rasters.MarksLower}
use Rattle.derived_views.specs.Plateaus.{IsOnPlateau, IsRegionalMaximum, IsRegionalMaxima}
use Rattle.derived_views.proofs.Paths.{along_path, at_end, everywhere, path_on, all_on, end_on, path_between}

-- a path leads from the pixel along pixels of one level to a pixel beside a higher one
record Climbs (d : Domain) (image : Pixel → ℕ) (level : ℕ) (p : Pixel) : Type 0 where
  rest : List Pixel
  higher : Pixel
  path : IsPath d p rest
  flat : AllByRecursion (λ q. image q ≡ level) (p ∷ rest)
  inside : Inside d higher
  beside : AreNeighbours d.conn (end_of p rest) higher
  rises : level < image higher

-- a path that begins at a level, never falls below it and ends above it climbs
climbs : (d : Domain) (image : Pixel → ℕ) (level : ℕ) (p : Pixel) (rest : List Pixel) → IsPath d p rest
    → image p ≡ level
    → AllByRecursion (λ q. level ≤ image q) (p ∷ rest) → level < image (end_of p rest) → Climbs d image level p
climbs d image level p [] path here all above = absurd (omega (arith, here, above))
climbs d image level p (q ∷ rest) path here all above =
    let inside : Inside d q = IsPath-inside d q rest path.2 in
    elim (cases_lt level (image q)) [
      | inl higher ↦ record {
        rest = [];
        higher = q;
        path = path.0;
        flat = (here, tt);
        inside = inside;
        beside = path.1;
        rises = higher;
      }
      | inr not_higher ↦
          let same : image q ≡ level = omega (arith, not_higher, all.1.0) in
          let way = climbs d image level q rest path.2 same all.1 above in
          record {
            rest = q ∷ way.rest;
            higher = way.higher;
            path = (path.0, path.1, way.path);
            flat = (here, way.flat);
            inside = way.inside;
            beside = way.beside;
            rises = way.rises;
          }
    ]

module _ (d : Domain) (image : Pixel → ℕ) where
  -- the pixels of a plateau have one value
  pub plateau_value : (p q : Pixel) → IsOnPlateau d image p q → image q ≡ image p
  plateau_value p q on = subst (λ r. image r ≡ image p) on.3 (at_end (λ r. image r ≡ image p) p on.0 on.2)

  -- a neighbour of equal value lies on the plateau
  pub plateau_on : (p q r : Pixel) → IsOnPlateau d image p q → Inside d r → AreNeighbours d.conn q r → image r ≡ image p
      → IsOnPlateau d image p r
  plateau_on p q r on inside beside same =
      let beside_end : AreNeighbours d.conn (end_of p on.0) r =
      subst (λ e. AreNeighbours d.conn e r) (sym on.3) beside
      in (
        on.0 ++ r ∷ [],
        path_on d p on.0 r on.1 beside_end inside,
        all_on (λ s. image s ≡ image p) p on.0 r on.2 same,
        end_on p on.0 r,
      )

  -- where the image climbs from a plateau, that is no regional maximum
  climbs_from : (p : Pixel) → Climbs d image (image p) p → IsRegionalMaximum d image p → ⊥
  climbs_from p way maximum =
      let lower : image way.higher < image p =
      maximum (end_of p way.rest) way.higher (way.rest, way.path, way.flat, refl) way.inside way.beside
      (λ on. let same = plateau_value p way.higher on in absurd (omega (arith, same, way.rises)))
      in
      absurd (omega (arith, lower, way.rises))

  -- a higher pixel beside a plateau is reached from it
  reaches_higher : (p q r : Pixel) → IsOnPlateau d image p q → Inside d r → AreNeighbours d.conn q r
      → image p < image r
      → Reaches d image (less 1 image) p (image p)
  reaches_higher p q r on inside beside higher =
      let beside_end : AreNeighbours d.conn (end_of p on.0) r =
      subst (λ e. AreNeighbours d.conn e r) (sym on.3) beside
      in
      let lets = λ (s : Pixel) (within : Inside d s) (same : image s ≡ image p).
      let high : image p ≤ image s = omega (arith, same) in high
      in
      let along = along_path d (λ s. image s ≡ image p) (λ s. image p ≤ image s) lets p on.0 on.1 on.2 in
      let here : image p ≤ image r = omega (arith, higher) in
      let last : image p ≤ less 1 image (end_of p (on.0 ++ r ∷ [])) =
      subst (λ e. image p ≤ less 1 image e) (sym (end_on p on.0 r)) (omega (arith, higher))
      in (
        on.0 ++ r ∷ [],
        path_on d p on.0 r on.1 beside_end inside,
        all_on (λ s. image p ≤ image s) p on.0 r along here,
        last,
      )

  -- a plateau that does not reach its own level is a regional maximum
  stays_maximum : (p : Pixel) → (Reaches d image (less 1 image) p (image p) → ⊥) → IsRegionalMaximum d image p
  stays_maximum p stays q r on inside beside off = elim (cases_lt (image r) (image p)) [
    | inl lower ↦ lower
    | inr not_lower ↦ elim (cases_lt (image p) (image r)) [
      | inl higher ↦ absurd (stays (reaches_higher p q r on inside beside higher))
      | inr not_higher ↦
          let same : image r ≡ image p = omega (arith, not_lower, not_higher) in
          absurd (off (plateau_on p q r on inside beside same))
    ]
  ]

  -- a pixel above 0 that reaches its own level climbs
  reach_climbs : (p : Pixel) → 0 < image p → Reaches d image (less 1 image) p (image p) → Climbs d image (image p) p
  reach_climbs p some reach =
      climbs d image (image p) p reach.0 reach.1 refl reach.2 (omega (arith, some, reach.3))

  -- a pixel of value 0 climbs where some pixel is above 0
  black_climbs : (p q : Pixel) → Inside d p → Inside d q → image p ≡ 0 → 0 < image q → Climbs d image (image p) p
  black_climbs p q inside_p inside_q black some =
      let way = path_between d p q inside_p inside_q in
      let at_least = λ (s : Pixel). let high : image p ≤ image s = omega (arith, black) in high in
      climbs d image (image p) p way.0 way.1 refl (everywhere (λ s. image p ≤ image s) at_least p way.0)
      (subst (λ e. image p < image e) (sym way.2) (omega (arith, black, some)))

  -- an image that is 0 everywhere is one regional maximum
  black_maximum : (p : Pixel) → ((q : Pixel) → Inside d q → image q ≡ 0) → Inside d p → IsRegionalMaximum d image p
  black_maximum p black inside_p q r on inside beside off =
      let same : image r ≡ image p = omega (arith, black r inside, black p inside_p) in
      absurd (off (plateau_on p q r on inside beside same))

  module _ (all : Bool) (black : all ≡ true → (q : Pixel) → Inside d q → image q ≡ 0)
      (some : all ≡ false → (q : Pixel) × Inside d q × (0 < image q)) where
    -- a pixel that grew to its own value, in an image that is not 0 everywhere, lies on no regional maximum
    grown_is_none : (p : Pixel) → Inside d p → all ≡ false → Reaches d image (less 1 image) p (image p)
        → IsRegionalMaximum d image p → ⊥
    grown_is_none p inside other reach = elim (cases_lt 0 (image p)) [
      | inl higher ↦ climbs_from p (reach_climbs p higher reach)
      | inr not_higher ↦
          let its = some other in
          climbs_from p (black_climbs p its.0 inside its.1 (omega (arith, not_higher)) its.2)
    ]

    -- 1 where what has grown stays lower than the image, and 0 elsewhere, is 1 on the regional maxima
    pub maxima_by_growing : (grown maxima : Pixel → ℕ) → IsReconstruction d image (less 1 image) grown
        → ((q : Pixel) → Inside d q → MarksLower all (image q) (grown q) (maxima q))
        → IsRegionalMaxima d image maxima
    maxima_by_growing grown maxima recon marks p inside =
        let below : grown p ≤ image p =
        reaches_within_mask d image (less 1 image) p (grown p) (recon p inside).0
        in
        elim (marks p inside) [
          | inl one ↦ elim one.0 [
            | inl lower ↦ inl (stays_maximum p (λ reach. (recon p inside).1 (image p) lower reach), one.1)
            | inr whole ↦ inl (black_maximum p (black whole) inside, one.1)
          ]
          | inr none ↦ elim (cases_lt (grown p) (image p)) [
            | inl lower ↦ absurd (none.0 lower)
            | inr not_lower ↦
                let same : grown p ≡ image p = omega (arith, not_lower, below) in
                let reach : Reaches d image (less 1 image) p (image p) =
                subst (λ k. Reaches d image (less 1 image) p k) same (recon p inside).0
                in
                inr (grown_is_none p inside none.1 reach, none.2)
          ]
        ]
