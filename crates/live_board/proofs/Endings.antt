-- The image of a closed board, from the words that it left.
use Rattle.std.proofs.Common.{Contains, ◌%◌, ◌*◌, ◌+◌, ◌/◌, ◌<◌, Bool, IsTrue, List, [], ap, arith, length-set, refl}
use Rattle.std.proofs.Common.{slice_index, subst, subst₂, sym, ℕ, ◌↔◌, ◌∙◌, ◌∷◌, ◌≡◌, ◌≤◌}
use Prim.Native.Nat.{suc, zero}
use Rattle.atomic_table.specs.Table.{Seen, State}
use Rattle.grid_core.proofs.Cells.{below_at_each_pixel, each_pixel_below, same_place, set_is_read, set_keeps_others}
use Rattle.grid_core.proofs.{Images.closed_is_reconstruction, Pixels.same_pixel_or_not}
use Rattle.grid_core.proofs.Reach.{reaches_within_mask, reaches_zero}
use Rattle.grid_core.specs.Raster.{IsBelow, IsFilled, IsInside, Raster, index_of, value_at, with_value}
use Rattle.grid_core.specs.{Reconstruction.IsClosed, declared.pixel.Pixel.Pixel}
use lib.ListN.{get_elem?}
use mathlib.Core.Logic.{dite, ⊎_elim}
use mathlib.Core.Option.{some, some-injective, some-ne-none}
use native.Mathlib.Decide.{ℕ_discrete}
use Rattle.live_board.proofs.{Boards.is_keeper, Places.number_is, Places.place_within, Places.small_value}
use Rattle.live_board.specs.{Closing.IsAboveFound, Closing.IsImageOf, Closing.IsReadFrom, Closing.IsValueIn}
use Rattle.live_board.specs.{Rule.IsBacked, Rule.IsBoard, Seats.planted_fact}
use Rattle.live_board.specs.{declared.fact.Fact.Fact, declared.rule.Ground.Ground, declared.rule.SeatView.SeatView}
use Rattle.live_board.specs.Reading.{IsReadOff}
use Rattle.live_board.specs.Words.{IsOn, Supports, domain, fact_of, mask_of, number, place_of, size_of}

found_there : (l : List ℕ) (i n : ℕ) → get_elem? l i ≡ some n → slice_index l i ≡ n
found_there [] i n e = absurd (some-ne-none n (sym e))
found_there (x ∷ xs) zero n e = some-injective x n e
found_there (x ∷ xs) (suc i) n e = found_there xs i n e

-- one more pixel is read off
pub read_more : (base : Ground) (g : ℕ) (words : List ℕ) (k n v : ℕ) (p : Pixel) (old new : Raster)
    → IsReadOff base g words k old → IsOn base p → index_of (mask_of base).width p ≡ k
    → get_elem? words (k + 1) ≡ some n → IsValueIn g n v → new ≡ with_value old p v → IsReadOff base g words (k + 1) new
read_more base g words k n v p old new read on place at told is =
    subst (IsReadOff base g words (k + 1)) (sym is) (record {
      width = read.width;
      height = read.height;
      filled = length-set old.cells (index_of old.width p) v ∙ read.filled;
      values = λ q on_q low. ⊎_elim
          (λ (e : p ≡ q).
          subst (λ (z : Pixel). IsValueIn g (slice_index words (place_of base z)) (value_at (with_value old p v) z)) e
          (subst₂ (IsValueIn g)
          (sym (ap (λ (i : ℕ). slice_index words (i + 1)) place ∙ here))
          (sym (set_is_read old p v read.filled (inside p on))) told))
          (λ (other : p ≡ q → ⊥). subst (IsValueIn g (slice_index words (place_of base q)))
          (sym (set_keeps_others old p q v (inside p on) (inside q on_q) (λ e. other (sym e))))
          (read.values q on_q (before q on_q low other))) (same_pixel_or_not p q);
    })
  where
    inside : (q : Pixel) → IsOn base q → IsInside old.width old.height q
    inside q on_q = (
      subst (λ (w : ℕ). q.x < w) (sym read.width) on_q.0,
      subst (λ (h : ℕ). q.y < h) (sym read.height) on_q.1,
    )

    here : slice_index words (k + 1) ≡ n
    here = found_there words (k + 1) n at

    before : (q : Pixel) → IsOn base q → index_of (mask_of base).width q < k + 1 → (p ≡ q → ⊥)
        → index_of (mask_of base).width q < k
    before q on_q low other = dite (ℕ_discrete (index_of (mask_of base).width q) k)
        (λ e. absurd (other (same_place (mask_of base).width (mask_of base).height p q on on_q (place ∙ sym e))))
        (λ ne. omega (arith, low, ne))

pub value_reached : (base : Ground) (words : List ℕ) (g : ℕ) (m : Raster) (p : Pixel) (v : ℕ) → IsOn base p
    → IsBacked base words g m p → IsValueIn g (slice_index words (place_of base p)) v → Supports base m p v
value_reached base words g m p v on backed told =
    let n : ℕ = slice_index words (place_of base p) in
    dite (ℕ_discrete (n / 65536) g)
    (λ (e : n / 65536 ≡ g). subst (Supports base m p) (sym (told.same e)) (backed.reached (n % 65536) (small_value n)
    (sym (number_is p n) ∙ ap (λ (k : ℕ). k * 65536 + n % 65536) e)))
    (λ (other : n / 65536 ≡ g → ⊥). subst (Supports base m p) (sym (told.other other))
    (reaches_zero (domain base) (value_at (mask_of base)) (value_at m) p on))

-- a word of the present generation that is no less than a number of it has no less a value
pub value_above : (g n v least : ℕ) → least < 65536 → g * 65536 + least ≤ n → n < (g + 1) * 65536 → IsValueIn g n v
    → least ≤ v
value_above g n v least small low high told =
    let a : ℕ = n / 65536 in
    let b : ℕ = n % 65536 in
    let whole : a * 65536 + b ≡ n = number_is (record { x = 0; y = 0 }) n in
    let rest : b < 65536 = small_value n in
    let same : a ≡ g = omega arith in
    let is : v ≡ b = told.same same in
    omega arith

-- the last state of a table, whose seat 0 has the view, and the image that was read off its words
pub record IsLast (base : Ground) (v : SeatView) (image : Raster) : Type 0 where
  pub state : State ℕ SeatView
  pub board : IsBoard base state
  pub at : get_elem? state.views 0 ≡ some v
  pub read : IsReadOff base v.generation state.words (size_of base) image

pub last_is : (key base : Ground) (id g : ℕ) (v : SeatView) (words : List ℕ) (image : Raster) (s : State ℕ SeatView)
    → key ≡ base → id ≡ 0 → v.generation ≡ g → Seen (IsBoard key) id v s → s.words ≡ words
    → IsReadOff base g words (size_of base) image → IsLast base v image
last_is key base id g v words image s about first same seen are read = record {
  state = s;
  board = rw about at seen.0;
  at = rw first at seen.1;
  read = rw (are, same) read;
}

module _ (base : Ground) (v : SeatView) (image : Raster) (last : IsLast base v image) where
  mine : (v.generation ≡ last.board.generation) × (v.marker ≡ last.board.marker)
  mine = is_keeper last.state.views last.board.generation last.board.marker 0 v last.board.keeper last.at refl

  value : (p : Pixel) → IsOn base p
      → IsValueIn last.board.generation (slice_index last.state.words (place_of base p)) (value_at image p)
  value p on =
      subst (λ (g : ℕ). IsValueIn g (slice_index last.state.words (place_of base p)) (value_at image p)) mine.0
      (last.read.values p on (omega (arith, place_within base p on)))

  reached : (p : Pixel) → IsOn base p → Supports base v.marker p (value_at image p)
  reached p on =
      subst (λ (m : Raster). Supports base m p (value_at image p)) (sym mine.1)
      (value_reached base last.state.words last.board.generation last.board.marker p (value_at image p) on
      (last.board.pixels p on) (value p on))

  known : (f : Fact) → Contains v.facts f → f.generation ≡ v.generation → f.value ≤ value_at image f.pixel
  known f known_f same =
      let held = (last.board.seats 0 v last.at).facts f known_f in
      let n : ℕ = slice_index last.state.words (place_of base f.pixel) in
      value_above last.board.generation n (value_at image f.pixel) f.value held.small
      (subst (λ (g : ℕ). g * 65536 + f.value ≤ n) (same ∙ mine.0) held.kept)
      (last.board.pixels f.pixel held.on).not_later (value f.pixel held.on)

  above_found : IsAboveFound base v image
  above_found p n on known_n same =
      let word : ℕ = slice_index last.state.words (place_of base p) in
      let low : number (fact_of p n) ≤ word =
      subst (λ (k : ℕ). k ≤ word) (sym (number_is p n)) ((last.board.seats 0 v last.at).found p n on known_n) in
      value_above last.board.generation word (value_at image p) (n % 65536) (small_value n)
      (subst (λ (g : ℕ). g * 65536 + n % 65536 ≤ word) (same ∙ mine.0) low)
      (last.board.pixels p on).not_later (value p on)

  read_from : IsReadFrom base v image
  read_from = record {
    last = last.state;
    rule = last.board;
    keeper_is = last.at;
    values = λ p on. last.read.values p on (omega (arith, place_within base p on));
  }

  -- the image is nowhere above the mask
  pub within_mask : IsBelow image (mask_of base)
  within_mask = each_pixel_below image (mask_of base) last.read.filled last.read.width last.read.height (λ p inside.
      let on : IsOn base p = (
        subst (λ (w : ℕ). p.x < w) last.read.width inside.0,
        subst (λ (z : ℕ). p.y < z) last.read.height inside.1,
      ) in
      reaches_within_mask (domain base) (value_at (mask_of base)) (value_at v.marker) p (value_at image p)
      (reached p on))

  -- and with the maxval of the mask it is the image of the board
  pub image_of : (closed : Bool) → IsBelow v.marker (mask_of base) → IsFilled v.marker
      → IsTrue closed ↔ IsClosed (domain base) (value_at (mask_of base)) (value_at image)
      → IsImageOf base v (record { raster = image; maxval = base.mask.maxval }) closed
  image_of closed below filled closed_is = record {
    width = last.read.width;
    height = last.read.height;
    maxval = refl;
    read = read_from;
    reached = reached;
    known = known;
    found = above_found;
    above = λ planted. each_pixel_below v.marker image filled (below.width ∙ sym last.read.width)
        (below.height ∙ sym last.read.height)
        (λ p within.
        let on : IsOn base p =
        (subst (λ (w : ℕ). p.x < w) below.width within.0, subst (λ (z : ℕ). p.y < z) below.height within.1) in
        known (planted_fact v p) (planted p on) refl);
    closed_is = closed_is;
    grown = λ is under. closed_is_reconstruction (domain base) (value_at (mask_of base)) (value_at v.marker)
        (value_at image)
        (λ p on. (
          below_at_each_pixel v.marker image filled under p (
            subst (λ (w : ℕ). p.x < w) (sym below.width) on.0,
            subst (λ (z : ℕ). p.y < z) (sym below.height) on.1,
          ),
          reached p on,
        )) (closed_is.0 is);
  }
