-- How a hand floods a band of rows: what the image has in them stays founded in what the hand knows.
use Rattle.std.proofs.Common.{◌*◌, ◌<◌, Contains, List, [], ap, arith, get_or-set_other, get_or-set_same, inl, inr}
use Rattle.std.proofs.Common.{length, length-set, max, min, refl, set, slice_index, subst, sym, ℕ, ◌∙◌, ◌≡◌, ◌≤◌}
use Rattle.std.proofs.Math.Nat.{mul-le-mul_left}
use Rattle.std.proofs.lemmas.Bool.{cases_lt}
use Rattle.std.proofs.lemmas.List.Elements.{Contains-push}
use Rattle.grid_core.specs.Raster.{IsBelow, IsFilled, Raster, index_of, value_at}
use Rattle.grid_core.specs.Rects.{IsInRect}
use Rattle.grid_core.specs.declared.pixel.Pixel.{Pixel}
use mathlib.Core.Logic.{dite, ⊎_elim}
use native.Mathlib.Decide.{ℕ_discrete}
use Rattle.live_board.proofs.Flooded.{cell_rows, cell_value, founded, founded_lower, known_founded, row_cell, rows_rect}
use Rattle.live_board.proofs.Flooding.{IsLater, cell_on, founded_later, later_adds, later_by}
use Rattle.live_board.proofs.Following.{growing_none}
use Rattle.live_board.proofs.Touching.{comes_after}
use Rattle.live_board.specs.Bands.{ArePartOf, AreRowsOf, IsDrawn}
use Rattle.live_board.specs.Flooding.{AreFounded, AreLow, HasLevel, HasTakenIn, IsFounded}
use Rattle.live_board.specs.{Floods.IsInRows, Floods.KnowsAsMuch, Rounds.pixel_after}
use Rattle.live_board.specs.{Following.GrowsOn, declared.trail.Trail.Trail}
use Rattle.live_board.specs.Words.{IsOn, mask_of}
use Rattle.live_board.specs.{declared.rule.Ground.Ground, declared.rule.SeatView.SeatView}
use Rattle.live_board.specs.declared.strips.Rows.{Rows}
use Rattle.raster_sweeps.specs.Regrowth.{IsRegrownIn}

-- ---- who knows as much

pub as_much : (v : SeatView) → KnowsAsMuch v v
as_much v = (refl, λ f known. known)

pub as_much_later : (u v w : SeatView) → KnowsAsMuch u v → IsLater v w → KnowsAsMuch u w
as_much_later u v w much later =
    (later.generation ∙ much.0, λ f known. later.facts f (much.1 f known))

pub later_of : (v w : SeatView) → KnowsAsMuch v w → IsLater v w
later_of v w much = record { facts = much.1; generation = much.0 }

-- a hand that has served what waited knows no less
pub served_later : (base : Ground) (count : ℕ) (v w : SeatView) (was now : Trail) → GrowsOn base count v w was now
    → IsLater v w
served_later base count v w was now grows =
    let g = grows [] 0 v (growing_none base v was) in later_by base g.touches v w g.touched

-- ---- the rows of a band

-- a pixel of the band's cells lies on the board
cell_lies : (base : Ground) (band : Rows) (k : ℕ) → IsFilled (mask_of base) → AreRowsOf base band
    → k < (mask_of base).width * band.end → IsOn base (pixel_after base k)
cell_lies base band k filled rows before =
    let w : ℕ = (mask_of base).width in
    let most : w * band.end ≤ w * (mask_of base).height = mul-le-mul_left w rows.1 in
    cell_on base k filled (omega (arith, before, most))

-- the cells of rows that were read are founded
pub band_read : (base : Ground) (band : Rows) (v w : SeatView) (image : Raster) → IsFilled (mask_of base)
    → AreRowsOf base band → IsBelow image (mask_of base)
    → HasTakenIn base ((mask_of base).width * band.first) ((mask_of base).width * band.end) image.cells v w
    → IsDrawn base band w image
band_read base band v w image filled rows below taken = record {
  below = below;
  founded = λ k first last. known_founded base w (pixel_after base k) (slice_index image.cells k)
      (cell_lies base band k filled rows last) (taken.known k first last);
}

-- they stay so while the seat knows no less
pub drawn_later : (base : Ground) (band : Rows) (v w : SeatView) (image : Raster) → IsLater v w
    → IsDrawn base band v image → IsDrawn base band w image
drawn_later base band v w image later drawn = record {
  below = drawn.below;
  founded = λ k first last.
      founded_later base v w (pixel_after base k) (slice_index image.cells k) later (drawn.founded k first last);
}

-- so are those of some of its rows
pub part_founded : (base : Ground) (band rows : Rows) (v : SeatView) (image : Raster) → ArePartOf band rows
    → IsDrawn base band v image
    → AreFounded base v ((mask_of base).width * rows.first) ((mask_of base).width * rows.end) image.cells
part_founded base band rows v image part drawn k first last =
    let w : ℕ = (mask_of base).width in
    let low : w * band.first ≤ w * rows.first = mul-le-mul_left w part.0 in
    let high : w * rows.end ≤ w * band.end = mul-le-mul_left w part.2 in
    drawn.founded k (omega (arith, first, low)) (omega (arith, last, high))

-- and each pixel of the band
pixel_founded : (base : Ground) (band : Rows) (v : SeatView) (image : Raster) (p : Pixel) → IsDrawn base band v image
    → IsOn base p → IsInRows band.first band.end p → IsFounded base v p (value_at image p)
pixel_founded base band v image p drawn on rows =
    let k : ℕ = index_of (mask_of base).width p in
    let lies = row_cell base band.first band.end p on rows in
    subst (λ (z : Pixel). IsFounded base v z (value_at image z)) (comes_after base p k on refl)
    (subst (IsFounded base v (pixel_after base k)) (sym (cell_value base image drawn.below.width k))
    (drawn.founded k lies.0 lies.1))

-- what some of the rows have grown to is founded, too
pub band_grown : (base : Ground) (band rows : Rows) (v : SeatView) (before after : Raster) → IsFilled (mask_of base)
    → 0 < (mask_of base).width → AreRowsOf base band → ArePartOf band rows → IsDrawn base band v before
    → IsRegrownIn base.conn (rows_rect base rows.first rows.end) (mask_of base) before after
    → IsDrawn base band v after
band_grown base band rows v before after filled some on_board part drawn grown = record {
  below = grown.below;
  founded = λ k first last.
      let p : Pixel = pixel_after base k in
      let on : IsOn base p = cell_lies base band k filled on_board last in
      let lies = cell_rows base band.first band.end k some first last in
      subst (IsFounded base v p) (cell_value base after grown.below.width k) (⊎_elim
      (λ (above : p.y < rows.first). beyond p on lies (λ inside. omega (arith, above, inside)))
      (λ (from : rows.first ≤ p.y). ⊎_elim
      (λ (to : p.y < rows.end).
      founded base rows.first rows.end before after (omega (arith, part.2, on_board.1)) grown v
      (λ q on_q in_q. pixel_founded base band v before q drawn on_q
      (omega (arith, in_q.0, part.0), omega (arith, in_q.1, part.2))) p on (from, to))
      (λ (below : rows.end ≤ p.y). beyond p on lies (λ inside. omega (arith, below, inside, part.1)))
      (cases_lt p.y rows.end))
      (cases_lt p.y rows.first));
}
  where
    beyond : (p : Pixel) → IsOn base p → IsInRows band.first band.end p
        → (IsInRect (rows_rect base rows.first rows.end) p → ⊥) → IsFounded base v p (value_at after p)
    beyond p on lies out =
        subst (IsFounded base v p) (sym (grown.patch.beyond p (
          subst (λ (z : ℕ). p.x < z) (sym drawn.below.width) on.0,
          subst (λ (z : ℕ). p.y < z) (sym drawn.below.height) on.1,
        )
        out))
        (pixel_founded base band v before p drawn on lies)

-- ---- a cell that is looked at again

-- a level that was read is founded
level_founded : (base : Ground) (p : Pixel) (level : ℕ) (v w : SeatView) → IsOn base p → HasLevel base p level v w
    → IsFounded base w p level
level_founded base p level v w on has = known_founded base w p level on
    (dite (ℕ_discrete has.loaded.generation v.generation)
    (λ (e : has.loaded.generation ≡ v.generation). inr (record {
      known = has.loaded;
      is_known = subst (λ (l : List _). Contains l has.loaded) (sym has.adds.facts) (Contains-push v.facts has.loaded);
      pixel = has.of.pixel;
      generation = e ∙ sym has.adds.generation;
      enough = let same : level ≡ has.loaded.value = has.same e in omega arith;
    }))
    (λ differs. inl (has.other differs)))

-- a cell that was raised as far as the mask lets it
pub again_low : (base : Ground) (cells after : List ℕ) (k level n : ℕ) → AreLow base cells → k < length cells
    → n ≡ min level (slice_index (mask_of base).cells k) → after ≡ set cells k (max (slice_index cells k) n)
    → AreLow base after
again_low base cells after k level n low inside most is = (
  long ∙ low.0,
  λ i within. dite (ℕ_discrete i k)
      (λ (e : i ≡ k).
      subst (λ (j : ℕ). slice_index after j ≤ slice_index (mask_of base).cells j) (sym e)
      (let here : slice_index after k ≡ max (slice_index cells k) n =
      ap (λ (l : List ℕ). slice_index l k) is ∙ get_or-set_same cells k (max (slice_index cells k) n) 0 inside in
      let was : slice_index cells k ≤ slice_index (mask_of base).cells k = low.1 k inside in
      omega arith))
      (λ (ne : i ≡ k → ⊥).
      let there : slice_index after i ≡ slice_index cells i =
      ap (λ (l : List ℕ). slice_index l i) is
      ∙ get_or-set_other cells k i (max (slice_index cells k) n) 0 ne in
      let was : slice_index cells i ≤ slice_index (mask_of base).cells i = low.1 i (omega (arith, within, long)) in
      omega arith),
)
  where
    long : length after ≡ length cells
    long = ap (λ (l : List ℕ). length l) is ∙ length-set cells k (max (slice_index cells k) n)

pub again_founded : (base : Ground) (from to : ℕ) (cells after : List ℕ) (k level n : ℕ) (v w : SeatView)
    → AreFounded base v from to cells → IsOn base (pixel_after base k) → k < length cells
    → HasLevel base (pixel_after base k) level v w → n ≡ min level (slice_index (mask_of base).cells k)
    → after ≡ set cells k (max (slice_index cells k) n) → AreFounded base w from to after
again_founded base from to cells after k level n v w founded on inside has most is i first last =
    dite (ℕ_discrete i k)
    (λ (e : i ≡ k).
    subst (λ (j : ℕ). IsFounded base w (pixel_after base j) (slice_index after j)) (sym e)
    (⊎_elim
    (λ (less : slice_index cells k < n).
    let here : slice_index after k ≤ level = (let m : slice_index after k ≡ max (slice_index cells k) n = mine in
    omega arith) in
    founded_lower base w (pixel_after base k) level (slice_index after k) here
    (level_founded base (pixel_after base k) level v w on has))
    (λ (no_less : n ≤ slice_index cells k).
    let here : slice_index after k ≤ slice_index cells k =
    (let m : slice_index after k ≡ max (slice_index cells k) n = mine in omega arith) in
    founded_lower base w (pixel_after base k) (slice_index cells k) (slice_index after k) here
    (subst (λ (j : ℕ). IsFounded base w (pixel_after base j) (slice_index cells j)) e (stays i first last)))
    (cases_lt (slice_index cells k) n)))
    (λ (ne : i ≡ k → ⊥).
    let there : slice_index after i ≡ slice_index cells i =
    ap (λ (l : List ℕ). slice_index l i) is ∙ get_or-set_other cells k i (max (slice_index cells k) n) 0 ne in
    subst (λ (x : ℕ). IsFounded base w (pixel_after base i) x) (sym there) (stays i first last))
  where
    mine : slice_index after k ≡ max (slice_index cells k) n
    mine = ap (λ (l : List ℕ). slice_index l k) is
        ∙ get_or-set_same cells k (max (slice_index cells k) n) 0 inside

    stays : AreFounded base w from to cells
    stays j after_from before_to =
        founded_later base v w (pixel_after base j) (slice_index cells j) (later_adds base has.loaded v w has.adds)
        (founded j after_from before_to)
