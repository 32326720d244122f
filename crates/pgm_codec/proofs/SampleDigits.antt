-- A sample in decimal: how many digits it has, and each of them.
use Rattle.std.proofs.Common.{◌≡◌, ℕ, ◌+◌, ◌/◌, ◌%◌, ◌^◌, ◌<◌, ◌≤◌, List, [], ◌∷◌, ◌++◌, length, decimal, nat_lt}
use Rattle.std.proofs.Common.{if◌then◌else◌, refl, sym, ap, subst, ◌∙◌, arith, inl, inr, append_assoc, length-append}
use Rattle.std.proofs.lemmas.Bool.{cond-true, cond-false, cases_lt, lt-ltb, le-ltb}
use Rattle.std.proofs.lemmas.Fmt.{decimal_digit, decimal_step, length-decimal-le}
use Rattle.std.specs.Int.{from_bool}
use Rattle.grid_core.specs.Raster.{max_level}
use Rattle.pgm_codec.specs.PlainWriting.{last_digit}

-- ---- how many

one_digit : (n : ℕ) → n < 10 → length (decimal n) ≡ 1
one_digit n lt = ap length (decimal_digit n lt)

one_more_digit : (n : ℕ) → 10 ≤ n → n < 2 ^ 64 → length (decimal n) ≡ length (decimal (n / 10)) + 1
one_more_digit n le lt = ap length (decimal_step n le lt) ∙ length-append (decimal (n / 10)) ((48 + n % 10) ∷ [])

two_digits : (n : ℕ) → 10 ≤ n → n < 100 → length (decimal n) ≡ 2
two_digits n le lt = omega (arith, one_more_digit n, one_digit (n / 10))

three_digits : (n : ℕ) → 100 ≤ n → n < 1000 → length (decimal n) ≡ 3
three_digits n le lt = omega (arith, one_more_digit n, two_digits (n / 10))

four_digits : (n : ℕ) → 1000 ≤ n → n < 10000 → length (decimal n) ≡ 4
four_digits n le lt = omega (arith, one_more_digit n, three_digits (n / 10))

five_digits : (n : ℕ) → 10000 ≤ n → n < 100000 → length (decimal n) ≡ 5
five_digits n le lt = omega (arith, one_more_digit n, four_digits (n / 10))

not_beyond : (k n b : ℕ) → b ≡ from_bool (nat_lt k n) → n ≤ k → b ≡ 0
not_beyond k n b e le = e ∙ ap from_bool (le-ltb k n le)

beyond : (k n b : ℕ) → b ≡ from_bool (nat_lt k n) → k < n → b ≡ 1
beyond k n b e lt = e ∙ ap from_bool (lt-ltb k n lt)

-- one digit, and one more beyond each of 9, 99, 999 and 9999
pub digit_count : (n a b c d : ℕ) → n ≤ max_level → a ≡ from_bool (nat_lt 9 n) → b ≡ from_bool (nat_lt 99 n)
    → c ≡ from_bool (nat_lt 999 n) → d ≡ from_bool (nat_lt 9999 n) → 1 + a + (b + c + d) ≡ length (decimal n)
digit_count n a b c d small ea eb ec ed =
    elim (cases_lt n 10) [
      | inl lt ↦
          let za = not_beyond 9 n a ea (omega arith) in
          let zb = not_beyond 99 n b eb (omega arith) in
          let zc = not_beyond 999 n c ec (omega arith) in
          let zd = not_beyond 9999 n d ed (omega arith) in
          let all = one_digit n lt in omega (arith, za, zb, zc, zd, all)
      | inr ten ↦ elim (cases_lt n 100) [
        | inl lt ↦
            let za = beyond 9 n a ea (omega arith) in
            let zb = not_beyond 99 n b eb (omega arith) in
            let zc = not_beyond 999 n c ec (omega arith) in
            let zd = not_beyond 9999 n d ed (omega arith) in
            let all = two_digits n ten lt in omega (arith, za, zb, zc, zd, all)
        | inr hundred ↦ elim (cases_lt n 1000) [
          | inl lt ↦
              let za = beyond 9 n a ea (omega arith) in
              let zb = beyond 99 n b eb (omega arith) in
              let zc = not_beyond 999 n c ec (omega arith) in
              let zd = not_beyond 9999 n d ed (omega arith) in
              let all = three_digits n hundred lt in omega (arith, za, zb, zc, zd, all)
          | inr thousand ↦ elim (cases_lt n 10000) [
            | inl lt ↦
                let za = beyond 9 n a ea (omega arith) in
                let zb = beyond 99 n b eb (omega arith) in
                let zc = beyond 999 n c ec (omega arith) in
                let zd = not_beyond 9999 n d ed (omega arith) in
                let all = four_digits n thousand lt in omega (arith, za, zb, zc, zd, all)
            | inr le ↦
                let za = beyond 9 n a ea (omega arith) in
                let zb = beyond 99 n b eb (omega arith) in
                let zc = beyond 999 n c ec (omega arith) in
                let zd = beyond 9999 n d ed (omega arith) in
                let all = five_digits n le (omega arith) in omega (arith, za, zb, zc, zd, all)
          ]
        ]
      ]
    ]

-- at most five
pub five_at_most : (n d : ℕ) → n ≤ max_level → d ≡ length (decimal n) → d ≤ 5
five_at_most n d small e =
    let fits = length-decimal-le 5 n (omega arith) (omega arith) (omega arith) in omega (arith, e, fits)

-- ---- each

-- all digits of a number that is not 0
abbrev leading : ℕ → List ℕ
leading k = if nat_lt 0 k then decimal k else []

last_some : (k : ℕ) → 0 < k → last_digit k ≡ (48 + k % 10) ∷ []
last_some k lt = cond-true _ _ _ (lt-ltb 0 k lt)

leading_some : (k : ℕ) → 0 < k → leading k ≡ decimal k
leading_some k lt = cond-true _ _ _ (lt-ltb 0 k lt)

leading_none : (k : ℕ) → k ≤ 0 → leading k ≡ []
leading_none k le = cond-false _ _ _ (le-ltb 0 k le)

last_of_one : (n : ℕ) → n < 10 → (48 + n % 10) ∷ [] ≡ decimal n
last_of_one n lt = let e : n % 10 ≡ n = omega arith in ap (λ (d : ℕ). (48 + d) ∷ []) e ∙ sym (decimal_digit n lt)

leading_step : (k : ℕ) → k < 2 ^ 64 → leading (k / 10) ++ last_digit k ≡ leading k
leading_step k fits =
    elim (cases_lt 0 k) [
      | inr none ↦ let e : k ≡ 0 = omega arith in
          subst (λ (n : ℕ). leading (n / 10) ++ last_digit n ≡ leading n) (sym e) refl
      | inl some ↦ elim (cases_lt k 10) [
        | inl lt ↦ ap (λ (t : List ℕ). t ++ last_digit k) (leading_none (k / 10) (omega arith)) ∙ last_some k some
            ∙ last_of_one k lt ∙ sym (leading_some k some)
        | inr le ↦ ap (λ (t : List ℕ). t ++ last_digit k) (leading_some (k / 10) (omega arith))
            ∙ ap (λ (t : List ℕ). decimal (k / 10) ++ t) (last_some k some)
            ∙ sym (decimal_step k le fits) ∙ sym (leading_some k some)
      ]
    ]

-- one more digit is written
digit_put : (out before after : List ℕ) (k q : ℕ) → k < 2 ^ 64 → q ≡ k / 10 → before ≡ out ++ leading q
    → after ≡ before ++ last_digit k → after ≡ out ++ leading k
digit_put out before after k q fits tenth so_far e =
    e ∙ ap (λ (t : List ℕ). t ++ last_digit k) so_far
    ∙ ap (λ (n : ℕ). (out ++ leading n) ++ last_digit k) tenth
    ∙ append_assoc out (leading (k / 10)) (last_digit k)
    ∙ ap (λ (t : List ℕ). out ++ t) (leading_step k fits)

first_put : (out after : List ℕ) (k : ℕ) → k < 10 → after ≡ out ++ last_digit k → after ≡ out ++ leading k
first_put out after k lt e =
    e ∙ ap (λ (t : List ℕ). out ++ (t ++ last_digit k)) (sym (leading_none (k / 10) (omega arith)))
    ∙ ap (λ (t : List ℕ). out ++ t) (leading_step k (omega arith))

last_put : (out before after : List ℕ) (n : ℕ) → n < 2 ^ 64 → before ≡ out ++ leading (n / 10)
    → after ≡ before ++ (48 + n % 10) ∷ [] → after ≡ out ++ decimal n
last_put out before after n fits so_far e =
    let last : List ℕ = (48 + n % 10) ∷ [] in
    e ∙ ap (λ (t : List ℕ). t ++ last) so_far ∙ append_assoc out (leading (n / 10)) last
    ∙ ap (λ (t : List ℕ). out ++ t) (elim (cases_lt n 10) [
      | inl lt ↦ ap (λ (t : List ℕ). t ++ last) (leading_none (n / 10) (omega arith)) ∙ last_of_one n lt
      | inr le ↦ ap (λ (t : List ℕ). t ++ last) (leading_some (n / 10) (omega arith)) ∙ sym (decimal_step n le fits)
    ])

-- a sample of up to five digits is written digit by digit
pub sample_put : (n : ℕ) (out a b c d e : List ℕ) → n ≤ max_level → a ≡ out ++ last_digit (n / 10000)
    → b ≡ a ++ last_digit (n / 1000) → c ≡ b ++ last_digit (n / 100) → d ≡ c ++ last_digit (n / 10)
    → e ≡ d ++ (48 + n % 10) ∷ [] → e ≡ out ++ decimal n
sample_put n out a b c d e small ea eb ec ed ee =
    let pa = first_put out a (n / 10000) (omega arith) ea in
    let pb = digit_put out a b (n / 1000) (n / 10000) (omega arith) (omega arith) pa eb in
    let pc = digit_put out b c (n / 100) (n / 1000) (omega arith) (omega arith) pb ec in
    let pd = digit_put out c d (n / 10) (n / 100) (omega arith) (omega arith) pc ed in
    last_put out d e n (omega arith) pd ee
