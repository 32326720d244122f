-- The windows round runs and discs.
use Rattle.std.proofs.Common.{◌≡◌, ℕ, ◌+◌, ◌-◌, ◌*◌, ◌<◌, ◌≤◌, ◌⊎◌, inl, inr, Bool, true, false, List, length, get_or}
use Rattle.std.proofs.Common.{take, sym, ap, ◌∙◌, arith, ◌||◌, IsTrue, ◌++◌, ◌∷◌, [], refl}
use Rattle.std.proofs.{Math.Nat.mul-le-mul, lemmas.Bool.cases_lt, lemmas.Bool.Decides.nat_tests}
use Rattle.std.proofs.{lemmas.List.Folds.list_any_more}
use Rattle.std.specs.List.{list_any}
use Rattle.grid_core.specs.{declared.pixel.Pixel.Pixel, Neighbours.apart}
use Rattle.grid_core.proofs.Common.{either}
use Rattle.stroke_core.specs.Seed.{disc_covers}
use Rattle.marker_tiles.specs.{declared.window.Window.Window, Painting.WindowFits, Painting.WindowsFit}
use Rattle.marker_tiles.specs.Painting.{in_window, in_some}

pub square_le : (a b : ℕ) → a ≤ b → a * a ≤ b * b
square_le a b h = mul-le-mul h h

-- a disc has no pixel on a row farther from its centre than the radius
beyond_radius : (x y r : ℕ) (p : Pixel) → r < apart y p.y → disc_covers x y r p ≡ false
beyond_radius x y r p far =
    let more : (r + 1) * (r + 1) ≤ apart y p.y * apart y p.y = square_le (r + 1) (apart y p.y) (omega arith) in
    let least : r * r < (r + 1) * (r + 1) = omega arith in
    grind (arith, nat_tests)

-- nor in a column farther from its centre
beyond_column : (x y r : ℕ) (p : Pixel) → r < apart x p.x → disc_covers x y r p ≡ false
beyond_column x y r p far =
    let more : (r + 1) * (r + 1) ≤ apart x p.x * apart x p.x = square_le (r + 1) (apart x p.x) (omega arith) in
    let least : r * r < (r + 1) * (r + 1) = omega arith in
    grind (arith, nat_tests)

-- a pixel of a disc is on a row, and in a column, at most the radius away
disc_near_row : (x y r : ℕ) (p : Pixel) → disc_covers x y r p ≡ true → apart y p.y ≤ r
disc_near_row x y r p has = elim (cases_lt r (apart y p.y)) [
  | inl far ↦ absurd (let none = beyond_radius x y r p far in let both : true ≡ false = sym has ∙ none in cc)
  | inr near ↦ near
]

disc_near_column : (x y r : ℕ) (p : Pixel) → disc_covers x y r p ≡ true → apart x p.x ≤ r
disc_near_column x y r p has = elim (cases_lt r (apart x p.x)) [
  | inl far ↦ absurd (let none = beyond_column x y r p far in let both : true ≡ false = sym has ∙ none in cc)
  | inr near ↦ near
]

pub disc_in_window : (x y r : ℕ) (w : Window) (p : Pixel) → w.left ≡ x - r → w.right ≡ x + r + 1 → w.top ≡ y - r
    → w.bottom ≡ y + r + 1 → IsTrue (disc_covers x y r p) → IsTrue (in_window w p)
disc_in_window x y r w p left right top bottom has =
    let row : apart y p.y ≤ r = disc_near_row x y r p has in
    let column : apart x p.x ≤ r = disc_near_column x y r p has in
    grind (arith, nat_tests)

-- what one of some elements passes, one of those before the last or the last does
pub any_of_more : {X : Type 0} (test : X → Bool) (xs : List X) (i : ℕ) (x : X) → i < length xs
    → x ≡ get_or xs i x → IsTrue (list_any test (take (i + 1) xs))
    → IsTrue (list_any test (take i xs)) ⊎ IsTrue (test x)
any_of_more test xs i x within read has =
    either (list_any test (take i xs)) (test x)
    (ap (λ y. list_any test (take i xs) || test y) read ∙ sym (list_any_more test xs i x within) ∙ has)

-- ---- a window more

pub one_more_fits : (width height : ℕ) (ws : List Window) (w : Window) → WindowsFit width height ws
    → WindowFits width height w → WindowsFit width height (ws ++ w ∷ [])
one_more_fits width height [] w fit fits = (fits, tt)
one_more_fits width height (v ∷ ws) w fit fits = (fit.0, one_more_fits width height ws w fit.1 fits)

or_true : (b : Bool) → (b || true) ≡ true
or_true true = refl
or_true false = refl

-- the pixels of the windows before, and those of the last
pub of_earlier : (ws : List Window) (w : Window) (p : Pixel) → IsTrue (in_some ws p) → IsTrue (in_some (ws ++ w ∷ []) p)
of_earlier [] w p has = absurd (let none : false ≡ true = has in cc)
of_earlier (v ∷ ws) w p has = elim (either (in_window v p) (in_some ws p) has) [
  | inl here ↦ ap (λ b. b || in_some (ws ++ w ∷ []) p) here
  | inr later ↦ ap (λ b. in_window v p || b) (of_earlier ws w p later) ∙ or_true (in_window v p)
]

pub of_last : (ws : List Window) (w : Window) (p : Pixel) → IsTrue (in_window w p) → IsTrue (in_some (ws ++ w ∷ []) p)
of_last [] w p has = ap (λ b. b || false) has
of_last (v ∷ ws) w p has = ap (λ b. in_window v p || b) (of_last ws w p has) ∙ or_true (in_window v p)
