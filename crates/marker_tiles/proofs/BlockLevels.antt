-- Blocks of an image, what is noted for them, and raising it block by block.
use Rattle.std.proofs.Common.{◌≡◌, ℕ, zero, suc, ◌+◌, ◌-◌, ◌*◌, ◌/◌, ◌<◌, ◌≤◌, ◌⊎◌, inl, inr, Bool, true, false, min}
use Rattle.std.proofs.Common.{max, List, ◌∷◌, length, get_or, take, replicate, refl, sym, ap, subst, ◌∙◌, arith, Some}
use Rattle.std.proofs.Common.{None, ◌&&◌, IsTrue, slice_index, []}
use Rattle.std.proofs.{lemmas.Bool.cases_lt, lemmas.Bool.Decides.nat_tests}
use Rattle.std.proofs.lemmas.List.{get_or-replicate, get_or_past, length-replicate}
use Rattle.std.proofs.lemmas.Nat.{div-add-mod', div_below, le-div, mod_below}
use Rattle.grid_core.specs.{declared.pixel.Pixel.Pixel, Neighbours.apart}
use Rattle.grid_core.specs.Raster.{Raster, IsInside, IsOfSize, value_at}
use Rattle.stroke_core.specs.Seed.{Seed, covers, disc_covers}
use Rattle.stroke_lattice.specs.State.{State}
use Rattle.marker_tiles.specs.{declared.blocks.Blocks.Blocks, declared.brush.Brush.TheVariants.Raise}
use Rattle.marker_tiles.specs.{declared.window.Window.Window, Painting.IsPaintedBy, Painting.brushed_if}
use Rattle.marker_tiles.specs.{Painting.in_window, UnderTags.level_at, UnderTags.level_if, UnderTags.level_of_some}
use Rattle.marker_tiles.specs.Blocks.{block_at, level_in, HasBlock, block_window, IsInSquare, AreNoted, IsRaisedWithin}
use Rattle.marker_tiles.specs.Blocks.{HasLevelWhere, HasLevel, IsInBlock}
use Rattle.marker_tiles.proofs.{Enclosing.square_le, Levels.level_or_none, Raising.level_of_more}
use Rattle.std.specs.FinMap as map

-- ---- where a block lies

-- a number lies in the span that its quotient tells
pub within_span : (x side k : ℕ) → 0 < side → x / side ≡ k → (k * side ≤ x) × (x < k * side + side)
within_span x side k some is =
    let whole = div-add-mod' x side in
    let rest = mod_below x side some in
    let same : x / side * side ≡ k * side = ap (λ n. n * side) is in
    (omega (arith, whole, same), omega (arith, whole, rest, same))

span_is : (x side k : ℕ) → 0 < side → k * side ≤ x → x < k * side + side → x / side ≡ k
span_is x side k some from before =
    let below : x / side < k + 1 = div_below x side (k + 1) some (omega arith) in
    let above : k ≤ x / side = le-div k x side some from in
    omega arith

pub block_in_window : (side width height column row : ℕ) (p : Pixel) → 0 < side → IsInside width height p
    → IsInBlock side column row p → in_window (block_window side width height column row) p ≡ true
block_in_window side width height column row p some inside is =
    let x = within_span p.x side column some is.1 in
    let y = within_span p.y side row some is.0 in
    grind (arith, nat_tests)

pub window_in_block : (side width height column row : ℕ) (p : Pixel) → 0 < side
    → in_window (block_window side width height column row) p ≡ true → IsInBlock side column row p
window_in_block side width height column row p some has =
    let left : column * side ≤ p.x = grind (arith, nat_tests) in
    let right : p.x < column * side + side = grind (arith, nat_tests) in
    let top : row * side ≤ p.y = grind (arith, nat_tests) in
    let bottom : p.y < row * side + side = grind (arith, nat_tests) in
    (span_is p.y side row some top bottom, span_is p.x side column some left right)

-- and so is that of each pixel
pub few_across : (length_of side x : ℕ) → 0 < side → length_of ≤ 64 * side → x < length_of → x / side < 64
few_across length_of side x some fits within = div_below x side 64 some (omega arith)

-- ---- discs that cover squares

-- a disc covers a square whose farthest corner lies in it
pub square_covered : (x y r left top side dx dy : ℕ) (p : Pixel) → IsInSquare left top side p
    → apart x left ≤ dx → apart x (left + (side - 1)) ≤ dx → apart y top ≤ dy → apart y (top + (side - 1)) ≤ dy
    → dx * dx + dy * dy ≤ r * r → IsTrue (disc_covers x y r p)
square_covered x y r left top side dx dy p is x_left x_right y_top y_bottom near =
    let from_left = is.from_left in
    let to_right = is.to_right in
    let from_top = is.from_top in
    let to_bottom = is.to_bottom in
    let columns : apart x p.x ≤ dx = omega (arith, x_left, x_right, from_left, to_right) in
    let rows : apart y p.y ≤ dy = omega (arith, y_top, y_bottom, from_top, to_bottom) in
    let wide : apart x p.x * apart x p.x ≤ dx * dx = square_le (apart x p.x) dx columns in
    let high : apart y p.y * apart y p.y ≤ dy * dy = square_le (apart y p.y) dy rows in
    let all : apart x p.x * apart x p.x + apart y p.y * apart y p.y ≤ r * r = omega (arith, wide, high, near) in
    grind (arith, nat_tests)

-- ---- what is noted

pub noted_also : {first second both : Pixel → ℕ} {a b c : Blocks} → AreNoted first a b → AreNoted second b c
    → ((p : Pixel) → max (first p) (second p) ≤ both p) → AreNoted both a c
noted_also one two most = record {
  side = two.side ∙ one.side;
  levels = λ p across.
      let before = one.levels p across in
      let after = two.levels p (subst (λ side. p.x / side < 64) (sym one.side) across) in
      omega (arith, before, after, most p);
}

-- ---- an image that rises

pub stays_within : {level : Pixel → ℕ} {mask old : Raster} → IsOfSize mask old → IsRaisedWithin level mask old old
stays_within size = record {
  size = size;
  rises = λ p inside. omega arith;
  within = λ p inside. omega arith;
}

pub within_also : {first second both : Pixel → ℕ} {mask a b c : Raster} → IsRaisedWithin first mask a b
    → IsRaisedWithin second mask b c
    → ((p : Pixel) → IsInside mask.width mask.height p → max (first p) (second p) ≤ both p)
    → IsRaisedWithin both mask a c
within_also one two most = record {
  size = two.size;
  rises = λ p inside. omega (arith, one.rises p inside, two.rises p inside);
  within = λ p inside.
      let before = one.within p inside in
      let after = two.within p inside in
      omega (arith, before, after, most p inside);
}

pub keeps_level : (level : Pixel → ℕ) {within : Pixel → ℕ} {mask old new : Raster} → HasLevel level mask old
    → IsRaisedWithin within mask old new → HasLevel level mask new
keeps_level level has raised p inside = omega (arith, has p inside, raised.rises p inside)

-- what a painted value is
led : (b : Bool) (limit level old new : ℕ) → new ≡ brushed_if b (Raise level) limit old
    → ((b ≡ true) × (new ≡ max old (min limit level))) ⊎ (new ≡ old)
led true limit level old new is = inl (refl, is)
led false limit level old new is = inr is

painted_within : {test : Pixel → Bool} {level : ℕ} {most : Pixel → ℕ} {mask old new : Raster}
    → IsPaintedBy test (Raise level) mask old new
    → ((p : Pixel) → IsInside mask.width mask.height p → test p ≡ true → level ≤ most p)
    → IsRaisedWithin most mask old new
painted_within {test} {level} {mask = mask} {old = old} {new = new} painted bounded = record {
  size = painted.size;
  rises = λ p inside.
      elim (led (test p) (value_at mask p) level (value_at old p) (value_at new p) (painted.values p inside)) [
        | inl rose ↦ omega (arith, rose.1)
        | inr same ↦ omega (arith, same)
      ];
  within = λ p inside.
      elim (led (test p) (value_at mask p) level (value_at old p) (value_at new p) (painted.values p inside)) [
        | inl rose ↦ omega (arith, rose.1, bounded p inside rose.0)
        | inr same ↦ omega (arith, same)
      ];
}

painted_has : {test : Pixel → Bool} {level : ℕ} {mask old new : Raster} (p : Pixel)
    → IsPaintedBy test (Raise level) mask old new → IsInside mask.width mask.height p → test p ≡ true
    → min (value_at mask p) level ≤ value_at new p
painted_has {level = level} {mask = mask} {old = old} {new = new} p painted inside has =
    let value : value_at new p ≡ max (value_at old p) (min (value_at mask p) level) =
    painted.values p inside ∙ ap (λ b. brushed_if b (Raise level) (value_at mask p) (value_at old p)) has in
    omega (arith, value)

-- ---- one block

-- the level of a block is that of each of its pixels
pub level_of_block : (b : Blocks) (column row : ℕ) (p : Pixel) → IsInBlock b.side column row p
    → level_in b p ≡ slice_index b.levels (block_at column row)
level_of_block b column row p is =
    ap (λ x. slice_index b.levels (block_at x (p.y / b.side))) is.1
    ∙ ap (λ y. slice_index b.levels (block_at column y)) is.0

module _ (b : Blocks) (column row : ℕ) (mask old new : Raster)
    (block : HasBlock mask.width mask.height b.side column row) where
  abbrev pub here : ℕ
  here = slice_index b.levels (block_at column row)

  abbrev pub window : Window
  window = block_window b.side mask.width mask.height column row

  some_side : 0 < b.side
  some_side = block.blocks.is_side.some

  -- a block that is filled with its level has it
  pub filled_within : IsPaintedBy (in_window window) (Raise here) mask old new
      → IsRaisedWithin (level_in b) mask old new
  filled_within painted =
      painted_within painted
      (λ p inside has.
      let is = level_of_block b column row p
      (window_in_block b.side mask.width mask.height column row p some_side has) in
      omega (arith, is))

  pub filled_has : IsPaintedBy (in_window window) (Raise here) mask old new
      → HasLevelWhere (IsInBlock b.side column row) (level_in b) mask new
  filled_has painted p inside is =
      let level = level_of_block b column row p is in
      let has = painted_has p painted inside
      (block_in_window b.side mask.width mask.height column row p some_side inside is) in
      omega (arith, level, has)

-- ---- tag by tag

-- the levels of the strokes under some of the tags are at most those of all
pub level_of_first : (s : State) (tags : List ℕ) (n : ℕ) (p : Pixel)
    → level_of_some s (take n tags) p ≤ level_of_some s tags p
level_of_first s [] zero p = omega arith
level_of_first s [] (suc n) p = omega arith
level_of_first s (tag ∷ tags) zero p = omega arith
level_of_first s (tag ∷ tags) (suc n) p = omega (arith, level_of_first s tags n p)

-- one tag more, with a stroke
pub level_with_stroke : (s : State) (tags : List ℕ) {i tag : ℕ} {seed : Seed} (p : Pixel) → i < length tags
    → tag ≡ get_or tags i tag → map.get s.strokes tag ≡ Some seed
    → level_of_some s (take (i + 1) tags) p ≡ max (level_of_some s (take i tags) p) (level_at seed p)
level_with_stroke s tags {i} {tag} p within read has =
    level_of_more s tags i tag p within read
    ∙ ap (λ o. max (level_of_some s (take i tags) p) (level_if o p)) has

-- one tag more, without
pub level_without_stroke : (s : State) (tags : List ℕ) {i tag : ℕ} (p : Pixel) → i < length tags
    → tag ≡ get_or tags i tag → map.get s.strokes tag ≡ None
    → level_of_some s (take (i + 1) tags) p ≡ level_of_some s (take i tags) p
level_without_stroke s tags {i} {tag} p within read none =
    level_of_more s tags i tag p within read
    ∙ ap (λ o. max (level_of_some s (take i tags) p) (level_if o p)) none
    ∙ (let e : max (level_of_some s (take i tags) p) 0 ≡ level_of_some s (take i tags) p = omega arith in e)

pub noted_by_more : (s : State) (tags : List ℕ) {i tag : ℕ} {a b : Blocks} → i < length tags
    → tag ≡ get_or tags i tag → map.get s.strokes tag ≡ None → AreNoted (level_of_some s (take i tags)) a b
    → AreNoted (level_of_some s (take (i + 1) tags)) a b
noted_by_more s tags within read none noted = record {
  side = noted.side;
  levels = λ p across. omega (arith, noted.levels p across, level_without_stroke s tags p within read none);
}

-- zeros are 0 at each place
pub zero_everywhere : (n k : ℕ) → slice_index (replicate {A = ℕ} n 0) k ≡ 0
zero_everywhere n k = elim (cases_lt k n) [
  | inl within ↦ get_or-replicate {A = ℕ} n k 0 0 within
  | inr past ↦ get_or_past (replicate {A = ℕ} n 0) k 0 (omega (arith, length-replicate {A = ℕ} n 0))
]

-- a stroke painted in a block
pub stroke_in_block : (b : Blocks) (column row : ℕ) (mask old new : Raster)
    → HasBlock mask.width mask.height b.side column row → (seed : Seed)
    → IsPaintedBy (λ p. in_window (block_window b.side mask.width mask.height column row) p && covers seed p)
    (Raise seed.level) mask old new
    → HasLevelWhere (IsInBlock b.side column row) (level_at seed) mask new
stroke_in_block b column row mask old new block seed painted p inside is =
    elim (level_or_none (covers seed p) seed.level) [
      | inl covered ↦
          let window = block_window b.side mask.width mask.height column row in
          let lies = block_in_window b.side mask.width mask.height column row p block.blocks.is_side.some inside is in
          let both : (in_window window p && covers seed p) ≡ true = ap (λ t. t && covers seed p) lies ∙ covered.0 in
          let has = painted_has p painted inside both in
          omega (arith, covered.1, has)
      | inr none ↦ omega (arith, none)
    ]
