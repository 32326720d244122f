-- A line of pixels cut into spans of one length, the last of which may be shorter.
use Rattle.std.proofs.Common.{◌≡◌, ℕ, ◌+◌, ◌-◌, ◌*◌, ◌/◌, ◌<◌, ◌≤◌, arith, inl, inr, min}
use Rattle.std.proofs.{lemmas.Bool.cases_lt, lemmas.Grind.div_ceil_times}
use Rattle.std.proofs.lemmas.Nat.{div-add-mod', div_below, le-div, mod_below, mul-le}
use Rattle.std.specs.Int.{div_ceil}
use Rattle.grid_core.specs.Neighbours.{apart}

-- there are no more spans than pixels
pub spans-le : (w s : ℕ) → 0 < s → div_ceil w s ≤ w
spans-le w s positive = elim (cases_lt w (div_ceil w s)) [
  | inl more ↦
      let more_spans : w + 1 ≤ div_ceil w s = omega arith in
      let long : (w + 1) * s ≤ div_ceil w s * s = mul-le (w + 1) s (div_ceil w s) s more_spans (omega arith) in
      let wide : w * 1 ≤ w * s = mul-le w 1 w s (omega arith) positive in
      absurd (omega (arith, long, wide, (div_ceil_times w s positive).1))
  | inr at_most ↦ at_most
]

-- a pixel lies in one of the spans
pub span_of-within : (x w s : ℕ) → 0 < s → x < w → x / s < div_ceil w s
span_of-within x w s positive within =
    div_below x s (div_ceil w s) positive (omega (arith, within, (div_ceil_times w s positive).0))

-- there is a span
pub some_span : (w s : ℕ) → 0 < s → 0 < w → 0 < div_ceil w s
some_span w s positive some = omega (arith, span_of-within 0 w s positive some)

-- a span begins at a pixel
pub span_begins : (k w s : ℕ) → 0 < s → k < div_ceil w s → k * s < w
span_begins k w s positive within =
    let last : (k + 1) * s ≤ div_ceil w s * s = mul-le (k + 1) s (div_ceil w s) s (omega arith) (omega arith) in
    omega (arith, last, (div_ceil_times w s positive).1)

-- a pixel lies in its span
pub in_span : (x w s : ℕ) → 0 < s → x < w → (x / s * s ≤ x) × (x < x / s * s + min s (w - x / s * s))
in_span x w s positive within =
    let whole = div-add-mod' x s in
    let rest = mod_below x s positive in
    (omega (arith, whole), omega (arith, whole, rest, within))

-- a span holds no pixel of another
pub span_from : (x w s k : ℕ) → 0 < s → k * s ≤ x → x < k * s + min s (w - k * s) → x / s ≡ k
span_from x w s k positive from before =
    let below : x / s < k + 1 = div_below x s (k + 1) positive (omega arith) in
    omega (arith, below, le-div k x s positive from)

-- the spans of pixels that are next to one another are one, or next to one another
next_span : (a b s : ℕ) → 0 < s → a ≤ b → b ≤ a + 1 → (a / s ≤ b / s) × (b / s ≤ a / s + 1)
next_span a b s positive low high =
    let whole = div-add-mod' a s in
    let rest = mod_below a s positive in
    let below : b / s < a / s + 2 = div_below b s (a / s + 2) positive (omega (arith, whole, rest)) in
    (le-div (a / s) b s positive (omega (arith, whole)), omega (arith, below))

pub near_spans : (a b s : ℕ) → 0 < s → apart a b ≤ 1 → apart (a / s) (b / s) ≤ 1
near_spans a b s positive near = elim (cases_lt a b) [
  | inl less ↦ omega (arith, next_span a b s positive (omega arith) (omega arith))
  | inr at_least ↦ omega (arith, next_span b a s positive (omega arith) (omega arith))
]
