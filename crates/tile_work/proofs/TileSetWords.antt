-- Words of bits: what a write of one bit does, where the lowest bit stands, and what the summary says.
use Rattle.std.proofs.Common.{◌≡◌, ◌≢◌, ℕ, ◌+◌, ◌-◌, ◌*◌, ◌/◌, ◌%◌, ◌^◌, ◌<◌, ◌≤◌, Bool, false, List, length, get_or}
use Rattle.std.proofs.Common.{set, replicate, bit_and, bit_or, w64, sym, ap, subst, ◌∙◌, inl, inr, arith, length-set}
use Rattle.std.proofs.Common.{get_or-set_same, get_or-set_other, ◌==◌}
use Rattle.std.proofs.lemmas.Bool.{cases_eq, cases_lt, eqb-true, eq-eqb, ne_eqb}
use Rattle.std.proofs.lemmas.Nat.{shr-shr}
use Rattle.std.proofs.lemmas.Nat.Bits.{bit_at-zero, bit_at-lt, bit_at_above, bit_at-trailing_zeros, bit_at_set_same}
use Rattle.std.proofs.lemmas.Nat.Bits.{bit_at_set_other, bit_at_clear_same, bit_at_clear_other}
use Rattle.std.proofs.lemmas.List.{get_or_past, get_or_default, get_or-replicate, length-replicate, ext_get_or}
use Rattle.std.proofs.lemmas.List.FromFn.{length-map-range_with_len, get_or-map-range_with_len}
use Rattle.std.specs.Int.{bit_at, bit_not, trailing_zeros}
use Rattle.tile_work.specs.TileSet.{Has, HasNoneFrom, IsFirstFrom, bit_of, tiles_of, IsLowestFrom, IsWritten, IsSummed}

-- ---- a write of one bit

module _ (words : List ℕ) (place : ℕ) (within : place < 64 * length words) where
  IsWritten-word : (word bit : ℕ) → bit_at word (place % 64) ≡ bit
      → ((i : ℕ) → i < 64 → i ≢ place % 64 → bit_at word i ≡ bit_at (get_or words (place / 64) 0) i)
      → IsWritten words (set words (place / 64) word) place bit
  IsWritten-word word bit written kept =
      let index : place / 64 < length words = omega arith in
      let here = get_or-set_same words (place / 64) word 0 index in
      record {
        count = length-set words _ _;
        written = ap (λ n. bit_at n (place % 64)) here ∙ written;
        others = λ other differs.
            elim (cases_eq (other / 64) (place / 64)) [
              | inl same ↦
                  rw (same, here) (kept (other % 64) (omega arith) (λ index. differs (omega arith)))
              | inr apart ↦
                  ap (λ n. bit_at n (other % 64)) (get_or-set_other words (place / 64) (other / 64) word 0 apart)
            ];
        words = λ other differs. get_or-set_other words (place / 64) other word 0 differs;
      }

  pub IsWritten-set : IsWritten words
      (set words (place / 64) (bit_or (get_or words (place / 64) 0) (1 * 2 ^ (place % 64) % 2 ^ 64))) place 1
  IsWritten-set =
      let word = get_or words (place / 64) 0 in
      let index : place % 64 < 64 = omega arith in
      IsWritten-word _ 1 (bit_at_set_same w64 word (place % 64) index)
      (λ i below differs. bit_at_set_other w64 word (place % 64) index i differs)

  pub IsWritten-clear : IsWritten words
      (set words (place / 64) (bit_and (get_or words (place / 64) 0) (bit_not w64 (1 * 2 ^ (place % 64) % 2 ^ 64))))
      place 0
  IsWritten-clear =
      let word = get_or words (place / 64) 0 in
      let index : place % 64 < 64 = omega arith in
      IsWritten-word _ 0 (bit_at_clear_same w64 word (place % 64) index)
      (λ i below differs. bit_at_clear_other w64 word (place % 64) index i below differs)

-- ---- the lowest bit of a word

bit_at-shifted : (word from i : ℕ) → from ≤ i → bit_at word i ≡ bit_at (word / 2 ^ from) (i - from)
bit_at-shifted word from i le =
    let parts : i ≡ from + (i - from) = omega arith in
    ap (bit_at word) parts ∙ ap (λ n. n % 2) (sym (shr-shr word from (i - from)))

pub none_in_word : (word from : ℕ) → word / 2 ^ from ≡ 0 → (bit : ℕ) → from ≤ bit → bit_at word bit ≡ 0
none_in_word word from none bit le =
    bit_at-shifted word from bit le ∙ ap (λ n. bit_at n (bit - from)) none ∙ bit_at-zero (bit - from)

module _ (word from : ℕ) (fits : word < 2 ^ 64) (some : word / 2 ^ from ≢ 0) where
  pub lowest_in_word : IsLowestFrom (bit_at word) from (from + trailing_zeros w64 (word / 2 ^ from))
  lowest_in_word =
      let at = bit_at-trailing_zeros w64 (word / 2 ^ from) (omega arith) (omega arith) in
      let place = from + trailing_zeros w64 (word / 2 ^ from) in
      record {
        bit = bit_at-shifted word from place (omega arith) ∙ ap (bit_at (word / 2 ^ from)) (omega arith) ∙ at.1;
        from = omega arith;
        lowest = λ other le set.
            elim (cases_lt other place) [
              | inl before ↦
                  absurd (omega (arith, bit_at-shifted word from other le, at.2 (other - from) (omega arith)))
              | inr after ↦ after
            ];
      }

  pub lowest_within : from + trailing_zeros w64 (word / 2 ^ from) < 64
  lowest_within =
      let place = from + trailing_zeros w64 (word / 2 ^ from) in
      elim (cases_lt place 64) [
        | inl within ↦ within
        | inr above ↦ absurd (omega (arith, lowest_in_word.bit, bit_at_above word 64 place fits above))
      ]

-- ---- the lowest place of words

-- a place in the word that the walk starts in
module _ (words : List ℕ) (start : ℕ) where
  pub none_in_first : ((bit : ℕ) → start % 64 ≤ bit → bit_at (get_or words (start / 64) 0) bit ≡ 0)
      → (place : ℕ) → start ≤ place → place / 64 < start / 64 + 1 → bit_of words place ≡ 0
  none_in_first none place le first =
      let same : place / 64 ≡ start / 64 = omega arith in
      rw same (none (place % 64) (omega arith))

  pub lowest_in_first : (bit : ℕ) → IsLowestFrom (bit_at (get_or words (start / 64) 0)) (start % 64) bit → bit < 64
      → IsLowestFrom (bit_of words) start (start / 64 * 64 + bit)
  lowest_in_first bit found within =
      let word : (start / 64 * 64 + bit) / 64 ≡ start / 64 = omega arith in
      let index : (start / 64 * 64 + bit) % 64 ≡ bit = omega arith in
      record {
        bit = rw (word, index) found.bit;
        from = omega (arith, found.from);
        lowest = λ other le set.
            elim (cases_eq (other / 64) (start / 64)) [
              | inl same ↦ omega (arith, found.lowest (other % 64) (omega arith) (rw same at set))
              | inr apart ↦ omega arith
            ];
      }

  -- a place in a later word, where all before it are clear
  pub lowest_in_later : (next : ℕ) → start / 64 < next → get_or words next 0 ≢ 0 → get_or words next 0 < 2 ^ 64
      → ((place : ℕ) → start ≤ place → place / 64 < next → bit_of words place ≡ 0)
      → IsLowestFrom (bit_of words) start (next * 64 + trailing_zeros w64 (get_or words next 0))
  lowest_in_later next later some fits clear =
      let at = bit_at-trailing_zeros w64 (get_or words next 0) (omega arith) fits in
      let zeros = trailing_zeros w64 (get_or words next 0) in
      let word : (next * 64 + zeros) / 64 ≡ next = omega (arith, at.0) in
      let index : (next * 64 + zeros) % 64 ≡ zeros = omega (arith, at.0) in
      record {
        bit = rw (word, index) at.1;
        from = omega arith;
        lowest = λ other le set.
            elim (cases_lt (other / 64) next) [
              | inl before ↦ absurd (omega (arith, clear other le before))
              | inr after ↦
                  elim (cases_eq (other / 64) next) [
                    | inl same ↦
                        elim (cases_lt (other % 64) zeros) [
                          | inl low ↦ absurd (omega (arith, at.2 (other % 64) low, rw same at set))
                          | inr high ↦ omega arith
                        ]
                    | inr apart ↦ omega (arith, at.0)
                  ]
            ];
      }

-- a word that is 0 has no bit
pub none_in_zero : (words : List ℕ) (place : ℕ) → get_or words (place / 64) 0 ≡ 0 → bit_of words place ≡ 0
none_in_zero words place none = ap (λ n. bit_at n (place % 64)) none ∙ bit_at-zero (place % 64)

pub some_in_word : (words : List ℕ) (place : ℕ) → bit_of words place ≡ 1 → 0 < get_or words (place / 64) 0
some_in_word words place set =
    elim (cases_eq (get_or words (place / 64) 0) 0) [
      | inl none ↦ absurd (omega (arith, none_in_zero words place none))
      | inr some ↦ omega arith
    ]

-- there is no place past the last word
pub none_past : (words : List ℕ) (place : ℕ) → length words ≤ place / 64 → bit_of words place ≡ 0
none_past words place past = none_in_zero words place (get_or_past words (place / 64) 0 past)

pub bit_of-replicate : (count place : ℕ) → bit_of (replicate count 0) place ≡ 0
bit_of-replicate count place =
    elim (cases_lt (place / 64) count) [
      | inl within ↦ none_in_zero (replicate count 0) place (get_or-replicate count (place / 64) 0 0 within)
      | inr past ↦ none_past (replicate count 0) place (omega (arith, length-replicate {A = ℕ} count 0))
    ]

-- ---- the set of the tiles whose bits are set

module _ (count : ℕ) (words : List ℕ) where
  pub length-tiles : length (tiles_of count words) ≡ count
  length-tiles = length-map-range_with_len (λ t. bit_of words t == 1) 0 count

  pub count_is : (now : List Bool) → tiles_of count words ≡ now → count ≡ length now
  count_is now view = sym length-tiles ∙ ap length view

  pub below_count : (now : List Bool) → tiles_of count words ≡ now → (t : ℕ) → t < length now → t < count
  below_count now view t within = omega (arith, count_is now view)

  pub tile_of : (t : ℕ) → t < count → get_or (tiles_of count words) t false ≡ (bit_of words t == 1)
  tile_of t within = get_or-map-range_with_len (λ u. bit_of words u == 1) 0 count t t false within (omega arith)

  pub Has-bit : (t : ℕ) → Has (tiles_of count words) t → bit_of words t ≡ 1
  Has-bit t has =
      let within : t < count = omega (arith, length-tiles) in
      eqb-true _ 1 (sym (tile_of t within) ∙ has.1)

  pub Has-from_bit : (t : ℕ) → t < count → bit_of words t ≡ 1 → Has (tiles_of count words) t
  Has-from_bit t within set = (omega (arith, length-tiles), tile_of t within ∙ eq-eqb _ 1 set)

  pub HasNoneFrom-count : (start : ℕ) → count ≤ start → HasNoneFrom (tiles_of count words) start
  HasNoneFrom-count start past t le has = omega (arith, length-tiles)

  pub HasNoneFrom-clear : (start : ℕ) → ((place : ℕ) → start ≤ place → bit_of words place ≡ 0)
      → HasNoneFrom (tiles_of count words) start
  HasNoneFrom-clear start clear t le has = omega (arith, clear t le, Has-bit t has)

  pub IsFirstFrom-lowest : ((t : ℕ) → bit_of words t ≡ 1 → t < count) → (start t : ℕ)
      → IsLowestFrom (bit_of words) start t → IsFirstFrom (tiles_of count words) start t
  IsFirstFrom-lowest tiles start t found =
      record {
        has = Has-from_bit t (tiles t found.bit) found.bit;
        from = found.from;
        first = λ u le has. found.lowest u le (Has-bit u has);
      }

  pub tiles_of-clear : ((place : ℕ) → bit_of words place ≡ 0) → tiles_of count words ≡ replicate count false
  tiles_of-clear clear =
      ext_get_or false _ _ (length-tiles ∙ sym (length-replicate count false))
      (λ t below.
      let within : t < count = omega (arith, length-tiles) in
      tile_of t within ∙ ap (λ n. n == 1) (clear t) ∙ sym (get_or-replicate count t false false within))

pub tiles_of-written : (count : ℕ) (old new : List ℕ) (t bit : ℕ) → t < count → IsWritten old new t bit
    → tiles_of count new ≡ set (tiles_of count old) t (bit == 1)
tiles_of-written count old new t bit tile write =
    ext_get_or false _ _
    (length-tiles count new ∙ sym (length-tiles count old) ∙ sym (length-set (tiles_of count old) t (bit == 1)))
    (λ u below.
    let within : u < count = omega (arith, length-tiles count new) in
    let index : t < length (tiles_of count old) = omega (arith, length-tiles count old) in
    elim (cases_eq u t) [
      | inl same ↦
          rw same (tile_of count new t tile ∙ ap (λ n. n == 1) write.written
          ∙ sym (get_or-set_same (tiles_of count old) t (bit == 1) false index))
      | inr apart ↦
          tile_of count new u within ∙ ap (λ n. n == 1) (write.others u apart) ∙ sym (tile_of count old u within)
          ∙ sym (get_or-set_other (tiles_of count old) t u (bit == 1) false apart)
    ])

-- ---- what the summary says

module _ (count : ℕ) (words summary : List ℕ) (sound : IsSummed count words summary) where
  -- a tile is in the set exactly where its bit is set
  pub tile_bit : (t : ℕ) → get_or (tiles_of count words) t false ≡ (bit_of words t == 1)
  tile_bit t =
      elim (cases_lt t count) [
        | inl within ↦ tile_of count words t within
        | inr past ↦
            get_or_past (tiles_of count words) t false (omega (arith, length-tiles count words))
            ∙ sym (ne_eqb (bit_of words t) 1 (λ set. let below = sound.tiles t set in omega arith))
      ]

  pub in_words : (t : ℕ) → t < count → t < 64 * length words
  in_words t tile = omega (arith, sound.word_count)

  pub in_summary : (t : ℕ) → t < count → t / 64 < 64 * length summary
  in_summary t tile = omega (arith, sound.word_count, sound.summary_count)

  pub word_within : (word : ℕ) → bit_of summary word ≡ 1 → word < length words
  word_within word set =
      elim (cases_lt word (length words)) [
        | inl within ↦ within
        | inr past ↦ absurd (omega (arith, sound.some word set, get_or_past words word 0 past))
      ]

  -- the word that the walk starts in, as it is read
  module _ (start word : ℕ) (within : start < count) (read : word ≡ get_or words (start / 64) word) where
    is_first : word ≡ get_or words (start / 64) 0
    is_first = read ∙ get_or_default words (start / 64) word 0 (omega (arith, sound.word_count))

    pub IsFirstFrom-here : (bit : ℕ) → IsLowestFrom (bit_at word) (start % 64) bit → bit < 64
        → IsFirstFrom (tiles_of count words) start (start / 64 * 64 + bit)
    IsFirstFrom-here bit found below =
        let P : ℕ → Type 0 = λ n. IsLowestFrom (bit_at n) (start % 64) bit in
        IsFirstFrom-lowest count words sound.tiles start (start / 64 * 64 + bit)
        (lowest_in_first words start bit (subst P is_first found) below)

    module _ (none : (bit : ℕ) → start % 64 ≤ bit → bit_at word bit ≡ 0) where
      clear : (bit : ℕ) → start % 64 ≤ bit → bit_at (get_or words (start / 64) 0) bit ≡ 0
      clear bit le = ap (λ n. bit_at n bit) (sym is_first) ∙ none bit le

      none_until : (place : ℕ) → start ≤ place
          → (start / 64 + 1 ≤ place / 64 → bit_of summary (place / 64) ≡ 1 → ⊥) → bit_of words place ≡ 0
      none_until place le later =
          elim (cases_lt (place / 64) (start / 64 + 1)) [
            | inl before ↦ none_in_first words start clear place le before
            | inr after ↦
                elim (cases_eq (bit_of words place) 1) [
                  | inl set ↦ absurd (later after (sound.summed place set))
                  | inr unset ↦ omega (arith, bit_at-lt (get_or words (place / 64) 0) (place % 64))
                ]
          ]

      -- no later word has a tile
      pub HasNoneFrom-after : ((later : ℕ) → start / 64 + 1 ≤ later → bit_of summary later ≡ 0)
          → HasNoneFrom (tiles_of count words) start
      HasNoneFrom-after later =
          HasNoneFrom-clear count words start
          (λ place le. none_until place le (λ after set. omega (arith, later (place / 64) after)))

      -- the first later word that has a tile, as it is read
      module _ (next other : ℕ) (found : IsLowestFrom (bit_of summary) (start / 64 + 1) next)
          (again : other ≡ get_or words next other) (fits : other < 2 ^ 64) where
        is_next : other ≡ get_or words next 0
        is_next = again ∙ get_or_default words next other 0 (word_within next found.bit)

        lowest_after : IsLowestFrom (bit_of words) start (next * 64 + trailing_zeros w64 (get_or words next 0))
        lowest_after =
            lowest_in_later words start next (omega (arith, found.from)) (omega (arith, sound.some next found.bit))
            (omega (arith, is_next))
            (λ place le before. none_until place le (λ after set. omega (arith, found.lowest (place / 64) after set)))

        pub IsFirstFrom-after : IsFirstFrom (tiles_of count words) start (next * 64 + trailing_zeros w64 other)
        IsFirstFrom-after =
            let P : ℕ → Type 0 = λ n. IsLowestFrom (bit_of words) start (next * 64 + trailing_zeros w64 n) in
            IsFirstFrom-lowest count words sound.tiles start (next * 64 + trailing_zeros w64 other)
            (subst P (sym is_next) lowest_after)

        pub tile_after : next * 64 + trailing_zeros w64 other < count
        tile_after = omega (arith, IsFirstFrom-after.has.0, length-tiles count words)

  module _ (t : ℕ) (tile : t < count) (words' : List ℕ) where
    pub IsSummed-insert : (summary' : List ℕ) → IsWritten words words' t 1 → IsWritten summary summary' (t / 64) 1
        → IsSummed count words' summary'
    IsSummed-insert summary' write noted =
        record {
          word_count = write.count ∙ sound.word_count;
          summary_count = omega (arith, write.count, noted.count, sound.summary_count);
          tiles = λ u set.
              elim (cases_eq u t) [
                | inl same ↦ omega arith
                | inr apart ↦ sound.tiles u (sym (write.others u apart) ∙ set)
              ];
          summed = λ u set.
              elim (cases_eq (u / 64) (t / 64)) [
                | inl same ↦ ap (bit_of summary') same ∙ noted.written
                | inr apart ↦
                    noted.others (u / 64) apart
                    ∙ sound.summed u (sym (write.others u (λ same. apart (ap (λ n. n / 64) same))) ∙ set)
              ];
          some = λ word set.
              elim (cases_eq word (t / 64)) [
                | inl same ↦ rw same (some_in_word words' t write.written)
                | inr apart ↦
                    omega (arith, sound.some word (sym (noted.others word apart) ∙ set), write.words word apart)
              ];
        }

    module _ (write : IsWritten words words' t 0) where
      kept : (u : ℕ) → bit_of words' u ≡ 1 → bit_of words u ≡ 1
      kept u set =
          elim (cases_eq u t) [
            | inl same ↦ absurd (omega (arith, write.written, sym (ap (bit_of words') same) ∙ set))
            | inr apart ↦ sym (write.others u apart) ∙ set
          ]

      -- the tile's word, as it is read then
      module _ (word : ℕ) (read : word ≡ get_or words' (t / 64) word) where
        is_left : word ≡ get_or words' (t / 64) 0
        is_left = read ∙ get_or_default words' (t / 64) word 0 (omega (arith, write.count, sound.word_count))

        -- the tile was the last of its word
        pub IsSummed-last : (summary' : List ℕ) → word ≡ 0 → IsWritten summary summary' (t / 64) 0
            → IsSummed count words' summary'
        IsSummed-last summary' none noted =
            record {
              word_count = write.count ∙ sound.word_count;
              summary_count = omega (arith, write.count, noted.count, sound.summary_count);
              tiles = λ u set. sound.tiles u (kept u set);
              summed = λ u set.
                  elim (cases_eq (u / 64) (t / 64)) [
                    | inl same ↦
                        let clear : get_or words' (u / 64) 0 ≡ 0 =
                        ap (λ n. get_or words' n 0) same ∙ sym is_left ∙ none in
                        absurd (omega (arith, none_in_zero words' u clear))
                    | inr apart ↦ noted.others (u / 64) apart ∙ sound.summed u (kept u set)
                  ];
              some = λ other set.
                  elim (cases_eq other (t / 64)) [
                    | inl same ↦ absurd (omega (arith, noted.written, sym (ap (bit_of summary') same) ∙ set))
                    | inr apart ↦
                        omega (arith, sound.some other (sym (noted.others other apart) ∙ set), write.words other apart)
                  ];
            }

        -- its word has another
        pub IsSummed-others : word ≢ 0 → IsSummed count words' summary
        IsSummed-others some =
            record {
              word_count = write.count ∙ sound.word_count;
              summary_count = omega (arith, write.count, sound.summary_count);
              tiles = λ u set. sound.tiles u (kept u set);
              summed = λ u set. sound.summed u (kept u set);
              some = λ other set.
                  elim (cases_eq other (t / 64)) [
                    | inl same ↦ rw same (omega (arith, is_left))
                    | inr apart ↦ omega (arith, sound.some other set, write.words other apart)
                  ];
            }

-- words and a summary with no bit
pub IsSummed-clear : (count : ℕ) (words summary : List ℕ) → length words ≡ count / 64 + 1
    → length summary ≡ length words / 64 + 1 → ((place : ℕ) → bit_of words place ≡ 0)
    → ((place : ℕ) → bit_of summary place ≡ 0) → IsSummed count words summary
IsSummed-clear count words summary word_count summary_count clear summary_clear =
    record {
      word_count = word_count;
      summary_count = summary_count;
      tiles = λ t set. absurd (omega (arith, clear t));
      summed = λ t set. absurd (omega (arith, clear t));
      some = λ word set. absurd (omega (arith, summary_clear word));
    }
