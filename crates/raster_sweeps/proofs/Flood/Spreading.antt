-- A marked pixel spreads to its neighbours, one after another.
use Rattle.std.proofs.Common.{◌≡◌, ℕ, ◌+◌, ◌*◌, ◌<◌, ◌≤◌, ◌↔◌, List, [], ◌∷◌, ◌++◌, length, get_or, sym, subst, arith}
use Rattle.std.proofs.Common.{inl, inr, Contains}
use Rattle.std.proofs.{lemmas.Bool.cases_lt, lemmas.List.length-append, lemmas.List.get_or_default}
use Rattle.std.proofs.lemmas.List.Elements.{Contains-push, Contains-append_left, Contains-get_or}
use Rattle.grid_core.specs.{declared.conn.Conn.Conn, declared.pixel.Pixel.Pixel, Neighbours.AreNeighbours}
use Rattle.grid_core.specs.Path.{Domain, Inside, Reaches, domain_of}
use Rattle.grid_core.specs.Raster.{Raster, IsInside, value_at, with_value}
use Rattle.grid_core.proofs.{Pixels.AreNeighbours-sym, Reach.reaches_by_step}
use Rattle.raster_sweeps.specs.Flood.{IsImageOn, IsSeeded, HasSpread, missing}
use Rattle.raster_sweeps.proofs.Flood.Cells.{written_here, written_else, written_sized, missing_less}
use Rattle.raster_sweeps.proofs.Flood.Flooding.{flood_marks, flood_lets_go}

-- the first `count` neighbours have the level where the mask lets them; `bound` is what was to be done before
pub record IsSpreading (conn : Conn) (mask marker : Raster) (level : ℕ) (pixel : Pixel) (near : List Pixel)
    (bound count : ℕ) (image : Raster) (waiting : List Pixel) : Type 0 where
  pub sized : IsImageOn (domain_of mask conn) image
  pub seeded : IsSeeded conn mask marker level image (pixel ∷ waiting)
  pub gone : (k : ℕ) (o : Pixel) → k < length near → k < count → level ≤ value_at mask (get_or near k o)
      → level ≤ value_at image (get_or near k o)
  pub effort : length waiting + missing level image.cells ≤ bound

-- the list has the neighbours of the pixel, and no others
pub record HasNeighbours (d : Domain) (pixel : Pixel) (near : List Pixel) : Type 0 where
  pub each : (q : Pixel) → Contains near q → AreNeighbours d.conn pixel q × Inside d q
  pub every : (q : Pixel) → AreNeighbours d.conn pixel q → Inside d q → Contains near q

-- the list that has the neighbours among the pixels of a width and a height
pub neighbours_listed : (d : Domain) (p : Pixel) (w h : ℕ) (near items : List Pixel) → w ≡ d.width → h ≡ d.height
    → items ≡ near
    → ((q : Pixel) → Contains near q ↔ (AreNeighbours d.conn p q × IsInside w h q)) → HasNeighbours d p items
neighbours_listed d p w h near items wide high same members = record {
  each = λ q listed.
      let found = (members q).0 (subst (λ xs. Contains xs q) same listed) in
      (found.0, (omega (arith, found.1.0), omega (arith, found.1.1)));
  every = λ q between inside.
      subst (λ xs. Contains xs q) (sym same) ((members q).1
      (between, (omega (arith, inside.0), omega (arith, inside.1))));
}

module _ (conn : Conn) (mask marker : Raster) (level : ℕ) (pixel : Pixel) (near : List Pixel) (bound count : ℕ)
    (image : Raster) (waiting : List Pixel)
    (beside : HasNeighbours (domain_of mask conn) pixel near)
    (state : IsSpreading conn mask marker level pixel near bound count image waiting) where
  -- the pixel that spreads reaches the level
  pixel_reaches : Reaches (domain_of mask conn) (value_at mask) (value_at marker) pixel level
  pixel_reaches =
      let marked =
      state.seeded.marked pixel (Contains-append_left (pixel ∷ []) waiting pixel (Contains-push [] pixel)) in
      let within : value_at image pixel ≤ level = state.seeded.within pixel marked.0 in
      let same : value_at image pixel ≡ level = omega (arith, marked.1) in
      subst (Reaches (domain_of mask conn) (value_at mask) (value_at marker) pixel) same
      (state.seeded.reached pixel marked.0)

  -- the next neighbour is marked
  pub spreading_marks : (o : Pixel) → count < length near → level ≤ value_at mask (get_or near count o)
      → value_at image (get_or near count o) < level
      → IsSpreading conn mask marker level pixel near bound (count + 1) (with_value image (get_or near count o) level)
      (waiting ++ get_or near count o ∷ [])
  spreading_marks o within below free =
      let d = domain_of mask conn in
      let q = get_or near count o in
      let new = with_value image q level in
      let about : AreNeighbours conn pixel q × Inside d q = beside.each q (Contains-get_or near count o within) in
      let here : value_at new q ≡ level = written_here d image q level state.sized about.1 in
      let reach : Reaches d (value_at mask) (value_at marker) q level =
      reaches_by_step d (value_at mask) (value_at marker) q pixel level about.1 (AreNeighbours-sym conn pixel q about.0)
      below pixel_reaches in
      record {
        sized = written_sized q level state.sized;
        seeded =
            flood_marks d (value_at mask) (value_at marker) (value_at image) (value_at new) level
            (mask.width * mask.height) (pixel ∷ waiting) q about.1 reach here
            (λ p inside. written_else d image q p level state.sized about.1 inside) state.seeded;
        gone = λ k o' in_list before high.
            let r = get_or near k o' in
            let inside_r : Inside d r = (beside.each r (Contains-get_or near k o' in_list)).1 in
            elim (written_else d image q r level state.sized about.1 inside_r) [
              | inl same ↦ subst (λ s. level ≤ value_at new s) (sym same) (omega (arith, here))
              | inr kept ↦ elim (cases_lt k count) [
                | inl earlier ↦ omega (arith, kept, state.gone k o' in_list earlier high)
                | inr at_least ↦
                    let last : k ≡ count = omega arith in
                    let same : r ≡ q =
                    subst (λ j. get_or near j o' ≡ q) (sym last) (get_or_default near count o' o within) in
                    subst (λ s. level ≤ value_at new s) (sym same) (omega (arith, here))
              ]
            ];
        effort =
            omega (
              arith,
              state.effort,
              length-append waiting (q ∷ []),
              missing_less d image q level state.sized about.1 free,
            );
      }

  -- the next neighbour has the level, or may not have it
  pub spreading_passes : (o : Pixel) → count < length near
      → (level ≤ value_at mask (get_or near count o) → level ≤ value_at image (get_or near count o))
      → IsSpreading conn mask marker level pixel near bound (count + 1) image waiting
  spreading_passes o within has = record {
    sized = state.sized;
    seeded = state.seeded;
    gone = λ k o' in_list before. elim (cases_lt k count) [
      | inl earlier ↦ state.gone k o' in_list earlier
      | inr at_least ↦
          let last : k ≡ count = omega arith in
          let same : get_or near k o' ≡ get_or near count o =
          subst (λ j. get_or near j o' ≡ get_or near count o) (sym last) (get_or_default near count o' o within) in
          subst (λ s. level ≤ value_at mask s → level ≤ value_at image s) (sym same) has
    ];
    effort = state.effort;
  }

  -- at the last neighbour the pixel has spread
  pub spreading_ends : length near ≤ count → IsSeeded conn mask marker level image waiting
  spreading_ends all =
      let d = domain_of mask conn in
      let spread : HasSpread d (value_at mask) level (value_at image) pixel = λ q inside between below.
      let place = beside.every q between inside in
      let high : level ≤ value_at mask (get_or near place.0 q) =
      subst (λ s. level ≤ value_at mask s) (sym place.2) below in
      let got : level ≤ value_at image (get_or near place.0 q) =
      state.gone place.0 q place.1 (omega (arith, place.1)) high in
      subst (λ s. level ≤ value_at image s) place.2 got in
      flood_lets_go d (value_at mask) (value_at marker) (value_at image) level (mask.width * mask.height) waiting pixel
      spread state.seeded
