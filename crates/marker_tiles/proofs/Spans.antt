-- The spans of a stroke that have pixels in a window.
use Rattle.std.proofs.Common.{◌≡◌, ℕ, zero, suc, ◌+◌, ◌<◌, ◌≤◌, ◌⊎◌, inl, inr, Bool, true, false, List, [], ◌∷◌, length}
use Rattle.std.proofs.Common.{take, Some, refl, ap, subst, ◌∙◌, arith, ◌||◌, ◌&&◌, slice_get}
use Rattle.std.proofs.{lemmas.Bool.Decides.nat_tests, lemmas.List.Folds.list_any_more}
use Rattle.std.proofs.lemmas.Option.{slice_get_within, get_or_from_slice_get}
use Rattle.std.specs.List.{list_any, AllWithin}
use Rattle.grid_core.specs.declared.pixel.Pixel.{Pixel}
use Rattle.stroke_core.specs.{declared.span.Span.Span, Spans.span_has}
use Rattle.marker_tiles.specs.{declared.window.Window.Window, Painting.in_window}

-- the window has the pixel, and so has one of the spans
abbrev pub span_of_some : Window → List Span → Pixel → Bool
span_of_some w spans p = in_window w p && list_any (λ s. span_has s p) spans

-- what is said of the spans between two numbers is so of each
pub span_between : (P : Span → Type 0) (spans : List Span) (low high i : ℕ) (span : Span) → AllWithin P spans low high
    → slice_get spans i ≡ Some span → low ≤ i → i < high → P span
span_between P spans low high i span all found above below =
    subst P (get_or_from_slice_get spans i span span found) (all i span above below)

and_or : (a b c : Bool) → (a && (b || c)) ≡ ((a && b) || (a && c))
and_or true b c = refl
and_or false b c = refl

-- one more span
pub one_span_more : (w : Window) (spans : List Span) (i : ℕ) (span : Span) (p : Pixel) → slice_get spans i ≡ Some span
    → span_of_some w (take (i + 1) spans) p ≡ (span_of_some w (take i spans) p || (in_window w p && span_has span p))
one_span_more w spans i span p found =
    ap (λ t. in_window w p && t)
    (list_any_more (λ s. span_has s p) spans i span (slice_get_within spans i span found)
    ∙ ap (λ (s : Span). list_any (λ s. span_has s p) (take i spans) || span_has s p)
    (get_or_from_slice_get spans i span span found))
    ∙ and_or (in_window w p) (list_any (λ s. span_has s p) (take i spans)) (span_has span p)

off_rows : (w : Window) (s : Span) (p : Pixel) → (s.y < w.top) ⊎ (w.bottom ≤ s.y)
    → (in_window w p && span_has s p) ≡ false
off_rows w s p (inl above) = grind (arith, nat_tests)
off_rows w s p (inr below) = grind (arith, nat_tests)

none_of_either : (a b c : Bool) → (a && b) ≡ false → (a && c) ≡ false → (a && (b || c)) ≡ false
none_of_either true true c b_none c_none = b_none
none_of_either true false c b_none c_none = c_none
none_of_either false b c b_none c_none = refl

-- spans above a window have no pixel in it
pub spans_above : (w : Window) (spans : List Span) (n : ℕ) (p : Pixel) → AllWithin (λ s. s.y < w.top) spans 0 n
    → span_of_some w (take n spans) p ≡ false
spans_above w [] zero p all = grind (arith, nat_tests)
spans_above w [] (suc n) p all = grind (arith, nat_tests)
spans_above w (s ∷ rest) zero p all = grind (arith, nat_tests)
spans_above w (s ∷ rest) (suc n) p all =
    none_of_either (in_window w p) (span_has s p) (list_any (λ s. span_has s p) (take n rest))
    (off_rows w s p (inl (all 0 s (omega arith) (omega arith))))
    (spans_above w rest n p (λ k d low high. all (suc k) d (omega arith) (omega arith)))

only_the_other : (a b c : Bool) → (a && b) ≡ false → (a && c) ≡ (a && false) → (a && (b || c)) ≡ (a && false)
only_the_other true true c none same = absurd cc
only_the_other true false c none same = same
only_the_other false b c none same = refl

with_one_more : (a b c d : Bool) → (a && c) ≡ (a && d) → (a && (b || c)) ≡ (a && (b || d))
with_one_more true true c d same = refl
with_one_more true false c d same = same
with_one_more false b c d same = refl

-- nor have those below it
pub spans_below : (w : Window) (spans : List Span) (n : ℕ) (p : Pixel)
    → AllWithin (λ s. w.bottom ≤ s.y) spans n (length spans)
    → span_of_some w spans p ≡ span_of_some w (take n spans) p
spans_below w [] zero p all = refl
spans_below w [] (suc n) p all = refl
spans_below w (s ∷ rest) zero p all =
    only_the_other (in_window w p) (span_has s p) (list_any (λ s. span_has s p) rest)
    (off_rows w s p (inr (all 0 s (omega arith) (omega arith))))
    (spans_below w rest zero p (λ k d low high. all (suc k) d (omega arith) (omega arith)))
spans_below w (s ∷ rest) (suc n) p all =
    with_one_more (in_window w p) (span_has s p) (list_any (λ s. span_has s p) rest)
    (list_any (λ s. span_has s p) (take n rest))
    (spans_below w rest n p (λ k d low high. all (suc k) d (omega arith) (omega arith)))
