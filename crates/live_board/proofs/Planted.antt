-- What the keeper's seat knows of the pixels that it planted.
use Rattle.std.proofs.Common.{◌*◌, ◌+◌, ◌<◌, Bool, Contains, IsTrue, List, [], ap, ap₂, arith, false, inl, inr, length}
use Rattle.std.proofs.Common.{refl, replicate}
use Rattle.std.proofs.Common.{slice_index, subst, subst₂, sym, true, ℕ, ◌∙◌, ◌∷◌, ◌≡◌, ◌≤◌, ◌⊎◌}
use Rattle.std.proofs.Math.Logic.{∥∥₁_elim, ∥∥₁_map}
use Rattle.std.proofs.lemmas.Bool.{cases_eq, cases_lt, false≢true}
use Rattle.std.proofs.lemmas.List.{length-replicate}
use Rattle.std.proofs.lemmas.List.Elements.{Contains-append_cases, Contains-append_left, Contains-append_right}
use Rattle.std.proofs.lemmas.List.Elements.{Contains-push, Contains-push_cases}
use Rattle.grid_core.proofs.{Cells.pixel_of-inside, Cells.same_place, Pixels.same_pixel_or_not}
use Rattle.grid_core.specs.Raster.{IsBelow, IsFilled, IsInside, Raster, index_of, value_at}
use Rattle.grid_core.specs.declared.pixel.Pixel.{Pixel}
use mathlib.Core.HLevel.{⊥_prop}
use mathlib.Core.Logic.{dite, ⊎_elim}
use native.Mathlib.Decide.{ℕ_discrete}
use Rattle.live_board.proofs.Flooding.{IsLater, cell_is, later_adds}
use Rattle.live_board.proofs.Places.{place_within}
use Rattle.live_board.specs.{Closing.AreAllPlanted, Planting.HasPlantedCell, Planting.HasPlantedIn}
use Rattle.live_board.specs.{Blocks.AreNoneAbove, Planting.KnowsImage, Rounds.pixel_after}
use Rattle.live_board.specs.Seats.{Adds, planted_fact}
use Rattle.live_board.specs.Words.{IsOn, KnowsMarker, blank, fact, mask_of, size_of}
use Rattle.live_board.specs.{declared.fact.Fact.Fact, declared.rule.Ground.Ground, declared.rule.SeatView.SeatView}

-- ---- a fact is known or not

same_fact : (f g : Fact) → f.pixel ≡ g.pixel → f.generation ≡ g.generation → f.value ≡ g.value → f ≡ g
same_fact f g p n v = λ i. record { pixel = p i; generation = n i; value = v i }

same_fact_or_not : (f g : Fact) → (f ≡ g) ⊎ (f ≡ g → ⊥)
same_fact_or_not f g = elim (same_pixel_or_not f.pixel g.pixel) [
  | inl p ↦ elim (cases_eq f.generation g.generation) [
    | inl n ↦ elim (cases_eq f.value g.value) [
      | inl v ↦ inl (same_fact f g p n v)
      | inr other ↦ inr (λ e. other (ap (λ (h : Fact). h.value) e))
    ]
    | inr other ↦ inr (λ e. other (ap (λ (h : Fact). h.generation) e))
  ]
  | inr other ↦ inr (λ e. other (ap (λ (h : Fact). h.pixel) e))
]

none_known : (f : Fact) → Contains [] f → ⊥
none_known f known = absurd (let past : known.0 < 0 = known.1 in omega arith)

known_or_not : (facts : List Fact) (f : Fact) → Contains facts f ⊎ (Contains facts f → ⊥)
known_or_not [] f = inr (none_known f)
known_or_not (g ∷ rest) f = elim (same_fact_or_not g f) [
  | inl is ↦ inl (subst (Contains (g ∷ rest)) is (Contains-append_left (g ∷ []) rest g (Contains-push [] g)))
  | inr other ↦ elim (known_or_not rest f) [
    | inl known ↦ inl (Contains-append_right (g ∷ []) rest f known)
    | inr none ↦ inr (λ known. ⊎_elim
        (λ (one : Contains (g ∷ []) f). ⊎_elim (none_known f) other (Contains-push_cases [] g f one))
        none (Contains-append_cases (g ∷ []) rest f known))
  ]
]

-- ---- what the flag of the seat says

pub marker_known : (flag : Bool) (v : SeatView) → ∥ (IsTrue flag → KnowsMarker v) ∥₁ → flag ≡ true → KnowsMarker v
marker_known flag v known is p inside =
    let f : Fact = fact p v.generation (value_at v.marker p) in ⊎_elim
    (λ (there : Contains v.facts f). there)
    (λ (none : Contains v.facts f → ⊥). absurd (∥∥₁_elim known ⊥_prop (λ all. none (all is p inside))))
    (known_or_not v.facts f)

pub nothing_known : (flag : Bool) (v : SeatView) → flag ≡ false → ∥ (IsTrue flag → KnowsMarker v) ∥₁
nothing_known flag v is = ∣ (λ yes. absurd (false≢true (sym is ∙ yes))) ∣₁

pub all_known : (flag : Bool) (v : SeatView) → KnowsMarker v → ∥ (IsTrue flag → KnowsMarker v) ∥₁
all_known flag v knows = ∣ (λ yes. knows) ∣₁

-- a view of the same marker that knows no less
knows_later : (v w : SeatView) → v.marker ≡ w.marker → IsLater v w → KnowsMarker v → KnowsMarker w
knows_later v w same later knows p inside =
    subst₂ (λ (n : ℕ) (r : Raster). Contains w.facts (fact p n (value_at r p))) (sym later.generation) same
    (later.facts (fact p v.generation (value_at v.marker p))
    (knows p (subst (λ (r : Raster). IsInside r.width r.height p) (sym same) inside)))

pub still_known : (base : Ground) (flag : Bool) (f : Fact) (v w : SeatView) → Adds base f v w
    → ∥ (IsTrue flag → KnowsMarker v) ∥₁ → ∥ (IsTrue flag → KnowsMarker w) ∥₁
still_known base flag f v w adds known =
    ∥∥₁_map known (λ all yes. knows_later v w (sym adds.marker) (later_adds base f v w adds) (all yes))

pub knows_of : (base : Ground) (v : SeatView) → IsBelow v.marker (mask_of base) → AreAllPlanted base v → KnowsMarker v
knows_of base v below all p inside =
    all p (subst₂ (λ (w h : ℕ). IsInside w h p) below.width below.height inside)

pub planted_of : (base : Ground) (v : SeatView) → IsBelow v.marker (mask_of base) → KnowsMarker v → AreAllPlanted base v
planted_of base v below knows p on =
    knows p (subst₂ (λ (w h : ℕ). IsInside w h p) (sym below.width) (sym below.height) on)

-- ---- cell by cell

pub value_of_cell : (base : Ground) (image : Raster) (k : ℕ) → image.width ≡ (mask_of base).width
    → value_at image (pixel_after base k) ≡ slice_index image.cells k
value_of_cell base image k same =
    ap (λ (i : ℕ). slice_index image.cells i)
    (ap (λ (w : ℕ). index_of w (pixel_after base k)) same ∙ cell_is base k)

-- an image below a marker has a cell for each pixel, too
pub cells_under : (base : Ground) (image marker : Raster) (k : ℕ) → IsFilled image → IsBelow image marker
    → IsBelow marker (mask_of base) → k < size_of base → k < length image.cells
cells_under base image marker k filled under below low =
    let long : length image.cells ≡ size_of base =
    filled ∙ ap₂ (λ (w h : ℕ). w * h) (under.width ∙ below.width) (under.height ∙ below.height) in
    omega (arith, low, long)

pub planted_none : (base : Ground) (from : ℕ) (v : SeatView) → HasPlantedIn base from from v v
planted_none base from v = record {
  generation = refl;
  marker = refl;
  known = λ f known. known;
  planted = λ k after before. absurd (omega (arith, after, before));
}

-- with the same generation and marker the same fact is planted
same_plant : (p : Pixel) (u w : SeatView) → w.generation ≡ u.generation → w.marker ≡ u.marker
    → planted_fact u p ≡ planted_fact w p
same_plant p u w g m = ap₂ (λ (a : ℕ) (r : Raster). fact p a (value_at r p)) (sym g) (sym m)

-- a step plants the pixel of a cell
pub cell_by_step : (base : Ground) (k : ℕ) (u w : SeatView) → Adds base (planted_fact u (pixel_after base k)) u w
    → HasPlantedCell base k u w
cell_by_step base k u w adds =
    let p : Pixel = pixel_after base k in
    let f : Fact = planted_fact u p in record {
      generation = adds.generation;
      marker = adds.marker;
      known = (later_adds base f u w adds).facts;
      planted = subst (Contains w.facts) (same_plant p u w adds.generation adds.marker)
          (subst (λ (l : List Fact). Contains l f) (sym adds.facts) (Contains-push u.facts f));
    }

-- one more cell
pub planted_more : (base : Ground) (from k : ℕ) (v u w : SeatView) → HasPlantedIn base from k v u
    → HasPlantedCell base k u w → HasPlantedIn base from (k + 1) v w
planted_more base from k v u w done here = record {
  generation = here.generation ∙ done.generation;
  marker = here.marker ∙ done.marker;
  known = λ f known. here.known f (done.known f known);
  planted = λ i after low. dite (ℕ_discrete i k)
      (λ e. subst (λ (j : ℕ). Contains w.facts (planted_fact w (pixel_after base j))) (sym e) here.planted)
      (λ ne. subst (Contains w.facts) (same_plant (pixel_after base i) u w here.generation here.marker)
      (here.known (planted_fact u (pixel_after base i)) (done.planted i after (omega (arith, low, ne)))));
}

-- one block more
pub planted_block : (base : Ground) (from to : ℕ) (v u w : SeatView) → HasPlantedIn base 0 from v u
    → HasPlantedIn base from to u w → HasPlantedIn base 0 to v w
planted_block base from to v u w done here = record {
  generation = here.generation ∙ done.generation;
  marker = here.marker ∙ done.marker;
  known = λ f known. here.known f (done.known f known);
  planted = λ i after before. ⊎_elim
      (λ (less : i < from).
      subst (Contains w.facts) (same_plant (pixel_after base i) u w here.generation here.marker)
      (here.known (planted_fact u (pixel_after base i)) (done.planted i after less)))
      (λ (no_less : from ≤ i). here.planted i no_less before)
      (cases_lt i from);
}

-- a pixel at which the marker is not above an image that was planted
pub cell_stands : (base : Ground) (before : Raster) (k : ℕ) (v : SeatView) → KnowsImage base before v
    → IsBelow before v.marker → IsBelow v.marker (mask_of base) → k < size_of base → k < length before.cells
    → slice_index v.marker.cells k ≤ slice_index before.cells k → HasPlantedCell base k v v
cell_stands base before k v knows above below low within high =
    let p : Pixel = pixel_after base k in
    let least : slice_index before.cells k ≤ slice_index v.marker.cells k = above.values k within in
    let equal : slice_index before.cells k ≡ slice_index v.marker.cells k = omega arith in
    let value : slice_index before.cells k ≡ value_at v.marker p =
    equal ∙ sym (value_of_cell base v.marker k below.width) in record {
      generation = refl;
      marker = refl;
      known = λ f known. known;
      planted = subst (λ (x : ℕ). Contains v.facts (fact p v.generation x)) value (knows k low);
    }

-- pixels at which the marker is nowhere above it
pub block_stands : (base : Ground) (before : Raster) (from to : ℕ) (v : SeatView) → KnowsImage base before v
    → IsFilled before → IsBelow before v.marker → IsBelow v.marker (mask_of base) → to ≤ size_of base
    → AreNoneAbove from to v.marker.cells before.cells → HasPlantedIn base from to v v
block_stands base before from to v knows filled above below high none = record {
  generation = refl;
  marker = refl;
  known = λ f known. known;
  planted = λ k after less.
      let low : k < size_of base = omega (arith, less, high) in
      (cell_stands base before k v knows above below low
      (cells_under base before v.marker k filled above below low) (none k after less)).planted;
}

-- the pixel of a cell lies on the board
pub cell_lies : (base : Ground) (k : ℕ) → k < size_of base → IsOn base (pixel_after base k)
cell_lies base k low =
    let long : length (replicate (size_of base) 0) ≡ size_of base = length-replicate {A = ℕ} (size_of base) 0 in
    pixel_of-inside (blank (mask_of base)) k long (omega (arith, low, long))

-- an image of which all was known is known by a view that knows no less
pub image_later : (base : Ground) (image : Raster) (v u : SeatView) → KnowsImage base image v
    → u.generation ≡ v.generation → ((f : Fact) → Contains v.facts f → Contains u.facts f) → KnowsImage base image u
image_later base image v u knows generation later k low =
    subst (λ (n : ℕ). Contains u.facts (fact (pixel_after base k) n (slice_index image.cells k))) (sym generation)
    (later (fact (pixel_after base k) v.generation (slice_index image.cells k)) (knows k low))

-- what was known of a marker is known of it as an image, once another one is brought
pub image_known : (base : Ground) (v u : SeatView) (image : Raster) → IsBelow v.marker (mask_of base) → KnowsMarker v
    → image ≡ v.marker → u.facts ≡ v.facts → u.generation ≡ v.generation → KnowsImage base image u
image_known base v u image below knows is facts generation k low =
    let p : Pixel = pixel_after base k in
    let there : Contains v.facts (fact p v.generation (value_at v.marker p)) =
    planted_of base v below knows p (cell_lies base k low) in
    let value : value_at v.marker p ≡ slice_index image.cells k =
    value_of_cell base v.marker k below.width ∙ ap (λ (r : Raster). slice_index r.cells k) (sym is) in
    subst (λ (l : List Fact). Contains l (fact p u.generation (slice_index image.cells k))) (sym facts)
    (subst₂ (λ (n x : ℕ). Contains v.facts (fact p n x)) (sym generation) value there)

-- where all cells were planted all pixels were
pub all_planted : (base : Ground) (count : ℕ) (v w : SeatView) → HasPlantedIn base 0 count v w → size_of base ≤ count
    → AreAllPlanted base w
all_planted base count v w done all p on =
    let width : ℕ = (mask_of base).width in
    let k : ℕ = index_of width p in
    let low : k < size_of base = omega (arith, place_within base p on) in
    let is : pixel_after base k ≡ p =
    same_place width (mask_of base).height (pixel_after base k) p (cell_lies base k low) on (cell_is base k) in
    subst (λ (q : Pixel). Contains w.facts (planted_fact w q)) is
    (done.planted k (omega arith) (omega (arith, low, all)))
