-- Strokes under tags painted one after the other.
use Rattle.std.proofs.Common.{◌≡◌, ℕ, ◌+◌, ◌<◌, Bool, true, false, min, max, List, ◌∷◌, ◌++◌, length, get_or, take, []}
use Rattle.std.proofs.Common.{refl, sym, ap, ◌∙◌, arith, Option, Some, None, ◌&&◌, IsTrue, if◌then◌else◌, Bor}
use Rattle.std.proofs.Common.{option_copied}
use Rattle.std.proofs.lemmas.List.{take_more}
use Rattle.grid_core.specs.declared.pixel.Pixel.{Pixel}
use Rattle.grid_core.specs.Raster.{Raster, IsInside, value_at}
use Rattle.stroke_core.specs.Seed.{Seed, covers}
use Rattle.stroke_lattice.specs.State.{State}
use Rattle.marker_tiles.specs.{declared.brush.Brush.Brush, declared.brush.Brush.TheVariants.Raise}
use Rattle.marker_tiles.specs.declared.window.Window.{Window}
use Rattle.marker_tiles.specs.Painting.{IsPaintedBy, brushed_if, in_window}
use Rattle.marker_tiles.specs.UnderTags.{level_at, level_if, level_of_some, IsRaisedBy}
use Rattle.std.specs.FinMap as map

-- a reference that is not there leads to nothing
pub nothing_there : (o : Option (Bor Seed)) → ((x : Bor Seed) → o ≡ Some x → ⊥) → option_copied o ≡ None
nothing_there None never = refl
nothing_there (Some x) never = absurd (never x refl)

-- the brush of a seed's level, led over its pixels, raises to its level there
pub raised_to_level : (b : Bool) (limit level old : ℕ)
    → brushed_if b (Raise level) limit old ≡ max old (min limit (if b then level else 0))
raised_to_level true limit level old = refl
raised_to_level false limit level old = omega arith

level_of_some-push : (s : State) (tags : List ℕ) (tag : ℕ) (p : Pixel)
    → level_of_some s (tags ++ tag ∷ []) p ≡ max (level_of_some s tags p) (level_if (map.get s.strokes tag) p)
level_of_some-push s [] tag p = omega arith
level_of_some-push s (first ∷ tags) tag p =
    let rest = level_of_some-push s tags tag p in
    let a = level_if (map.get s.strokes first) p in
    let b = level_of_some s tags p in
    let c = level_if (map.get s.strokes tag) p in
    ap (λ n. max a n) rest ∙ (let e : max a (max b c) ≡ max (max a b) c = omega arith in e)

-- one tag more
pub level_of_more : (s : State) (tags : List ℕ) (i tag : ℕ) (p : Pixel) → i < length tags → tag ≡ get_or tags i tag
    → level_of_some s (take (i + 1) tags) p
    ≡ max (level_of_some s (take i tags) p) (level_if (map.get s.strokes tag) p)
level_of_more s tags i tag p within read =
    ap (λ ts. level_of_some s ts p) (take_more tags i tag within)
    ∙ level_of_some-push s (take i tags) (get_or tags i tag) p
    ∙ ap (λ t. max (level_of_some s (take i tags) p) (level_if (map.get s.strokes t) p)) (sym read)

module _ {s : State} (tags : List ℕ) {i tag : ℕ} {mask old middle : Raster} (within : i < length tags)
    (read : tag ≡ get_or tags i tag) (so_far : IsRaisedBy s (take i tags) mask old middle) where
  raised_value : (p : Pixel) (level value : ℕ) → IsInside mask.width mask.height p
      → level ≡ level_if (map.get s.strokes tag) p
      → value ≡ max (value_at middle p) (min (value_at mask p) level)
      → value ≡ max (value_at old p) (min (value_at mask p) (level_of_some s (take (i + 1) tags) p))
  raised_value p level value inside level_is value_is =
      let before = so_far.values p inside in
      let more = level_of_more s tags i tag p within read in
      omega (arith, before, more, level_is, value_is)

  -- one stroke more is painted
  pub raised_next : {new : Raster} (whole : Window) {seed : Seed} {brush : Brush} → brush ≡ Raise seed.level
      → ((p : Pixel) → IsInside mask.width mask.height p → IsTrue (in_window whole p))
      → map.get s.strokes tag ≡ Some seed
      → IsPaintedBy (λ p. in_window whole p && covers seed p) brush mask middle new
      → IsRaisedBy s (take (i + 1) tags) mask old new
  raised_next {new} whole {seed} brush_is all has painted = record {
    size = painted.size;
    values = λ p inside.
        raised_value p (level_at seed p) (value_at new p) inside (sym (ap (λ o. level_if o p) has))
        (painted.values p inside
        ∙ ap (λ b. brushed_if (in_window whole p && covers seed p) b (value_at mask p) (value_at middle p)) brush_is
        ∙ ap (λ t. brushed_if (t && covers seed p) (Raise seed.level) (value_at mask p) (value_at middle p))
        (all p inside)
        ∙ raised_to_level (covers seed p) (value_at mask p) seed.level (value_at middle p));
  }

  -- no stroke stands under the tag
  pub raised_past : map.get s.strokes tag ≡ None → IsRaisedBy s (take (i + 1) tags) mask old middle
  raised_past none = record {
    size = so_far.size;
    values = λ p inside.
        raised_value p 0 (value_at middle p) inside (sym (ap (λ o. level_if o p) none)) (omega arith);
  }
