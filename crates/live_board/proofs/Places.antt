-- Pixels have words of their own, and a number is a generation and a value.
use Rattle.std.proofs.Common.{◌%◌, ◌*◌, ◌+◌, ◌/◌, ◌<◌, List, ap, arith, div-add-mod', get_or-set_other, get_or-set_same}
use Rattle.std.proofs.Common.{length, max, mod-lt, set, slice_index, sym, ℕ, ◌∙◌, ◌≡◌, ◌≢◌}
use Rattle.std.proofs.lemmas.Nat.{div-mul-add, mod-mul-add, mul-add-lt}
use Rattle.grid_core.proofs.Cells.{same_place}
use Rattle.grid_core.specs.declared.pixel.Pixel.{Pixel}
use Rattle.live_board.specs.Words.{IsOn, fact, fact_of, mask_of, number, place_of, size_of}
use Rattle.live_board.specs.declared.rule.Ground.{Ground}

-- the word of a pixel is one of the board, and not word 0
pub place_within : (base : Ground) (p : Pixel) → IsOn base p → place_of base p < size_of base + 1
place_within base p on =
    omega (arith, mul-add-lt p.y (mask_of base).width p.x (mask_of base).height on.1 on.0)

pub place_after_0 : (base : Ground) (p : Pixel) → 0 ≢ place_of base p
place_after_0 base p e = absurd (omega (arith, e))

-- other pixels have other words
pub place_differs : (base : Ground) (p q : Pixel) → IsOn base p → IsOn base q → (p ≡ q → ⊥)
    → place_of base q ≢ place_of base p
place_differs base p q on_p on_q other e =
    other (same_place (mask_of base).width (mask_of base).height p q on_p on_q (omega (arith, sym e)))

-- a number, cut in two and put together
pub number_is : (p : Pixel) (n : ℕ) → number (fact_of p n) ≡ n
number_is p n = div-add-mod' n 65536

pub small_value : (n : ℕ) → n % 65536 < 65536
small_value n = mod-lt n (omega arith)

-- a fact, made a number and read again
pub fact_is : (p : Pixel) (g v n : ℕ) → v < 65536 → n ≡ g * 65536 + v → fact_of p n ≡ fact p g v
fact_is p g v n small e = λ i. fact p
    ((ap (λ (k : ℕ). k / 65536) e ∙ div-mul-add g 65536 v small) i)
    ((ap (λ (k : ℕ). k % 65536) e ∙ mod-mul-add g 65536 v small) i)

-- the words after a fetch_max
abbrev pub risen : List ℕ → ℕ → ℕ → List ℕ
risen words i k = set words i (max (slice_index words i) k)

pub risen_here : (words : List ℕ) (i k : ℕ) → i < length words
    → slice_index (risen words i k) i ≡ max (slice_index words i) k
risen_here words i k h = get_or-set_same words i (max (slice_index words i) k) 0 h

pub risen_else : (words : List ℕ) (i j k : ℕ) → j ≢ i → slice_index (risen words i k) j ≡ slice_index words j
risen_else words i j k n = get_or-set_other words i j (max (slice_index words i) k) 0 n
