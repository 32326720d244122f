-- Numbers in digits, read from the front.
use Rattle.std.proofs.Common.{◌≡◌, ℕ, ◌<◌, ◌≤◌, Bool, true, false, cond, ◌&&◌, List, length, take, drop, Some, None}
use Rattle.std.proofs.Common.{refl, ap, sym, ◌∙◌, drop_of_length-le, arith}
use Rattle.std.proofs.lemmas.Bool.{lt-ltb, le-ltb, le-leb, lt-leb, and_left, and_right}
use Rattle.std.proofs.lemmas.List.{take_all}
use Rattle.std.specs.{List.list_all, Char.is_ascii_digit, Str.Parse.digits_value, Str.Parse.digits_value_after}
use Rattle.edit_lang.specs.Numbers.{is_number, number_of}

pub no_number : (word : List ℕ) → is_number word ≡ false → None ≡ number_of word
unfolding number_of
no_number word e = ap (λ b. cond b (Some (digits_value 10 word)) None) (sym e)

-- a word without bytes
pub no_digits : (word : List ℕ) → length word ≡ 0 → None ≡ number_of word
no_digits word h = no_number word (and_left _ _ (le-ltb 0 (length word) (omega arith)))

-- a word with too many bytes
pub many_digits : (word : List ℕ) → 5 < length word → None ≡ number_of word
many_digits word h = no_number word (and_right _ _ (and_left _ _ (lt-leb (length word) 5 h)))

-- a word with a byte that is no digit
pub wrong_byte : (word : List ℕ) → list_all is_ascii_digit word ≡ false → None ≡ number_of word
wrong_byte word h = no_number word (and_right _ _ (and_right _ _ h))

pub all_three : (a b c : Bool) → a ≡ true → b ≡ true → c ≡ true → (a && (b && c)) ≡ true
all_three a b c p q r = rw (p, q, r) refl

-- one to five digits, of which the last has been read
pub is_value : (word : List ℕ) (i n : ℕ) → 0 < length word → length word ≤ 5 → length word ≤ i
    → list_all is_ascii_digit (take i word) ≡ true
    → digits_value_after 10 n (drop i word) ≡ digits_value 10 word → Some n ≡ number_of word
unfolding number_of
is_value word i n some few end digits value =
    let all : list_all is_ascii_digit word ≡ true =
    ap (list_all is_ascii_digit) (sym (take_all i word end)) ∙ digits in
    let same : n ≡ digits_value 10 word = ap (λ ds. digits_value_after 10 n ds) (sym (drop_of_length-le word end)) ∙
    value in
    let test : is_number word ≡ true = all_three _ _ _ (lt-ltb 0 (length word) some) (le-leb (length word) 5 few) all
    in
    ap Some same ∙ sym (ap (λ b. cond b (Some (digits_value 10 word)) None) test)
