-- Strokes to which the image is raised, one span and one tag after the other.
use Rattle.std.proofs.Common.{◌≡◌, ℕ, ◌+◌, ◌<◌, ◌≤◌, Bool, true, false, List, [], ◌∷◌, length, get_or, take, refl, sym}
use Rattle.std.proofs.Common.{ap, ◌∙◌, arith, inl, inr, ◌⊎◌, Option, Some, None, ◌||◌, slice_get, nat_lt, Contains}
use Rattle.std.proofs.{lemmas.Bool.Decides.nat_tests, lemmas.List.Folds.list_any_more}
use Rattle.std.proofs.{lemmas.Option.get_or_from_slice_get}
use Rattle.std.specs.List.{list_any}
use Rattle.grid_core.specs.{declared.pixel.Pixel.Pixel, Raster.Raster, Raster.value_at}
use Rattle.stroke_core.specs.{Seed.Seed, Seed.covers, declared.span.Span.Span, Spans.span_has}
use Rattle.stroke_lattice.specs.State.{State}
use Rattle.marker_tiles.specs.UnderTags.{covers_if, some_covers}
use Rattle.grid_core.proofs.Common.{first_or_later, later, first, not_in_empty}
use Rattle.tile_work.specs.Renewing.{greater_value, made_if, IsMadeWhere, IsUnder, IsRaisedUnder, IsLowBeyond}
use Rattle.std.specs.FinMap as map

-- whether one of the spans has the pixel
abbrev pub some_has : List Span → Pixel → Bool
some_has spans p = list_any (λ s. span_has s p) spans

pub one_span_more : (spans : List Span) (i : ℕ) (s : Span) (p : Pixel) → i < length spans
    → slice_get spans i ≡ Some s → some_has (take (i + 1) spans) p ≡ (some_has (take i spans) p || span_has s p)
one_span_more spans i s p within read =
    list_any_more (λ r. span_has r p) spans i s within
    ∙ ap (λ (r : Span). some_has (take i spans) p || span_has r p) (get_or_from_slice_get spans i s s read)

-- ---- parts of a span

-- a part of a span
abbrev pub part_of : Span → ℕ → ℕ → Span
part_of s first end = record { y = s.y; first = first; end = end }

pub empty_part : (s : Span) (p : Pixel) → span_has (part_of s s.first s.first) p ≡ false
empty_part s p = grind (arith, nat_tests)

pub part_more : (s : Span) (at next : ℕ) (p : Pixel) → s.first ≤ at → at ≤ next
    → span_has (part_of s s.first next) p
    ≡ (span_has (part_of s s.first at) p || span_has (part_of s at next) p)
part_more s at next p after before = grind (arith, nat_tests)

pub whole_part : (s : Span) (at : ℕ) (p : Pixel) → s.first ≤ at → s.end ≤ at → (at ≤ s.end) ⊎ (at ≡ s.first)
    → span_has s p ≡ span_has (part_of s s.first at) p
whole_part s at p after past (inl before) = grind (arith, nat_tests)
whole_part s at p after past (inr none) = grind (arith, nat_tests)

-- ---- tag by tag

-- one tag more
pub one_tag_more : (s : State) (tags : List ℕ) (i tag : ℕ) (p : Pixel) → i < length tags → tag ≡ get_or tags i tag
    → some_covers s (take (i + 1) tags) p
    ≡ (some_covers s (take i tags) p || covers_if (map.get s.strokes tag) p)
one_tag_more s tags i tag p within read =
    list_any_more (λ t. covers_if (map.get s.strokes t) p) tags i tag within
    ∙ ap (λ t. some_covers s (take i tags) p || covers_if (map.get s.strokes t) p) (sym read)

or_false : (b : Bool) → (b || false) ≡ b
or_false true = refl
or_false false = refl

-- a tag with a stroke
pub tag_with_stroke : (s : State) (tags : List ℕ) (i tag : ℕ) (seed : Seed) (p : Pixel) → i < length tags
    → tag ≡ get_or tags i tag → map.get s.strokes tag ≡ Some seed
    → some_covers s (take (i + 1) tags) p ≡ (some_covers s (take i tags) p || covers seed p)
tag_with_stroke s tags i tag seed p within read has =
    one_tag_more s tags i tag p within read ∙ ap (λ o. some_covers s (take i tags) p || covers_if o p) has

-- a tag without one
pub tag_without_stroke : (s : State) (tags : List ℕ) (i tag : ℕ) (p : Pixel) → i < length tags
    → tag ≡ get_or tags i tag → map.get s.strokes tag ≡ None
    → some_covers s (take (i + 1) tags) p ≡ some_covers s (take i tags) p
tag_without_stroke s tags i tag p within read none =
    one_tag_more s tags i tag p within read
    ∙ ap (λ o. some_covers s (take i tags) p || covers_if o p) none ∙ or_false (some_covers s (take i tags) p)

-- ---- a stroke under one of the tags

or_true : (a b : Bool) → b ≡ true → (a || b) ≡ true
or_true true b e = refl
or_true false b e = e

true_of_either : (a b : Bool) → (a || b) ≡ true → (a ≡ true) ⊎ (b ≡ true)
true_of_either true b e = inl refl
true_of_either false b e = inr e

any_from_listed : (f : ℕ → Bool) (xs : List ℕ) (x : ℕ) → Contains xs x → f x ≡ true → list_any f xs ≡ true
any_from_listed f [] x listed holds = absurd (not_in_empty x listed)
any_from_listed f (y ∷ xs) x listed holds = elim (first_or_later y xs x listed) [
  | inl same ↦ ap (λ b. b || list_any f xs) (ap f same ∙ holds)
  | inr rest ↦ or_true (f y) (list_any f xs) (any_from_listed f xs x rest holds)
]

listed_from_any : (f : ℕ → Bool) (xs : List ℕ) → list_any f xs ≡ true → (x : ℕ) × Contains xs x × (f x ≡ true)
listed_from_any f [] any = absurd cc
listed_from_any f (y ∷ xs) any = elim (true_of_either (f y) (list_any f xs) any) [
  | inl here ↦ (y, first y xs, here)
  | inr there ↦
      let found = listed_from_any f xs there in
      (found.0, later y xs found.0 found.1, found.2)
]

seed_that_covers : (o : Option Seed) (p : Pixel) → covers_if o p ≡ true
    → (seed : Seed) × (o ≡ Some seed) × (covers seed p ≡ true)
seed_that_covers None p covered = absurd cc
seed_that_covers (Some seed) p covered = (seed, refl, covered)

under_covers : (s : State) (tags : List ℕ) (p : Pixel) → IsUnder s tags p → some_covers s tags p ≡ true
under_covers s tags p under =
    any_from_listed (λ tag. covers_if (map.get s.strokes tag) p) tags under.tag under.listed
    (ap (λ o. covers_if o p) under.has ∙ under.covered)

covers_under : (s : State) (tags : List ℕ) (p : Pixel) → some_covers s tags p ≡ true → IsUnder s tags p
covers_under s tags p covered =
    let found = listed_from_any (λ tag. covers_if (map.get s.strokes tag) p) tags covered in
    let at = seed_that_covers (map.get s.strokes found.0) p found.2 in
    record { tag = found.0; seed = at.0; listed = found.1; has = at.1; covered = at.2 }

not_under : (s : State) (tags : List ℕ) (p : Pixel) (b : Bool) → (IsUnder s tags p → ⊥) → some_covers s tags p ≡ b
    → some_covers s tags p ≡ false
not_under s tags p true out is = absurd (out (covers_under s tags p is))
not_under s tags p false out is = is

-- raised where one of the strokes covers the pixel
pub raised_under : (s : State) (tags : List ℕ) (marker old new : Raster)
    → IsMadeWhere (some_covers s tags) greater_value marker old new → IsRaisedUnder s tags marker old new
raised_under s tags marker old new made = record {
  under = λ p inside under.
      made.values p inside
      ∙ ap (λ t. made_if t greater_value (value_at old p) (value_at marker p)) (under_covers s tags p under);
  beyond = λ p inside out.
      made.values p inside
      ∙ ap (λ t. made_if t greater_value (value_at old p) (value_at marker p))
      (not_under s tags p (some_covers s tags p) out refl);
}

-- raised everywhere, where the marker is low where none of the strokes covers the pixel
pub raised_beyond_low : (s : State) (tags : List ℕ) (marker old new : Raster) → IsLowBeyond s tags marker old
    → IsMadeWhere (λ p. true) greater_value marker old new → IsRaisedUnder s tags marker old new
raised_beyond_low s tags marker old new low made = record {
  under = λ p inside under. made.values p inside;
  beyond = λ p inside out. omega (arith, made.values p inside, low p inside out);
}

-- ---- row by row

pub no_row : (p : Pixel) → nat_lt p.y 0 ≡ false
no_row p = grind (arith, nat_tests)

pub row_more : (y end : ℕ) (p : Pixel) → p.x < end
    → nat_lt p.y (y + 1) ≡ (nat_lt p.y y || span_has (record { y = y; first = 0; end = end }) p)
row_more y end p within = grind (arith, nat_tests)

pub row_before : (y : ℕ) (p : Pixel) → p.y < y → true ≡ nat_lt p.y y
row_before y p before = grind (arith, nat_tests)
