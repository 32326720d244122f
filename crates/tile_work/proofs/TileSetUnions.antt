-- Sets of tiles that are united word by word.
use Rattle.std.proofs.Common.{◌≡◌, ℕ, ◌+◌, ◌/◌, ◌%◌, ◌<◌, Bool, true, List, ◌∷◌, ◌++◌, length, get_or, set, max, refl}
use Rattle.std.proofs.Common.{sym, ap, subst, ◌∙◌, inl, inr, ◌⊎◌, arith, ◌↔◌, Contains, length-set, []}
use Rattle.std.proofs.{lemmas.Bool.cases_eq, lemmas.Bool.cases_lt, lemmas.Nat.le_or_l, lemmas.Nat.le_or_r}
use Rattle.std.proofs.{lemmas.Nat.Bits.bit_at-lt, lemmas.Nat.Bits.bit_at_or}
use Rattle.std.proofs.lemmas.List.Elements.{Contains-append_left, Contains-push, Contains-push_cases}
use Rattle.std.specs.Int.{bit_at}
use Rattle.tile_work.specs.TileSet.{Has, HasGained, bit_of, tiles_of, AreUnited, IsSummed}
use Rattle.tile_work.proofs.TileSets.{put_has}
use Rattle.tile_work.proofs.TileSetWords.{Has-bit, Has-from_bit, length-tiles, none_past, word_within}

module _ (old others new : List ℕ) (count : length others ≡ length old) (united : AreUnited old others new) where
  bit_united : (place : ℕ) → bit_of new place ≡ max (bit_of old place) (bit_of others place)
  bit_united place = elim (cases_lt (place / 64) (length old)) [
    | inl within ↦
        ap (λ n. bit_at n (place % 64)) (united.each (place / 64) within)
        ∙ bit_at_or (get_or old (place / 64) 0) (get_or others (place / 64) 0) (place % 64)
    | inr past ↦
        let long = united.count in
        let none = none_past old place past in
        let no_other = none_past others place (omega (arith, past, count)) in
        let no_new = none_past new place (omega (arith, past, long)) in
        omega (arith, none, no_other, no_new)
  ]

  -- a bit that is set afterwards was set in the one or in the other
  in_one : (place : ℕ) → bit_of new place ≡ 1 → (bit_of old place ≡ 1) ⊎ (bit_of others place ≡ 1)
  in_one place set =
      let both = bit_united place in
      let most = bit_at-lt (get_or old (place / 64) 0) (place % 64) in
      elim (cases_eq (bit_of old place) 1) [
        | inl here ↦ inl here
        | inr not ↦ inr (omega (arith, both, set, most, not))
      ]

  from_old : (place : ℕ) → bit_of old place ≡ 1 → bit_of new place ≡ 1
  from_old place set =
      let both = bit_united place in
      let most = bit_at-lt (get_or others (place / 64) 0) (place % 64) in
      omega (arith, both, set, most)

  from_other : (place : ℕ) → bit_of others place ≡ 1 → bit_of new place ≡ 1
  from_other place set =
      let both = bit_united place in
      let most = bit_at-lt (get_or old (place / 64) 0) (place % 64) in
      omega (arith, both, set, most)

  word_stays : (word : ℕ) → word < length old → 0 < get_or old word 0 → 0 < get_or new word 0
  word_stays word within some =
      let is = united.each word within in
      let more = le_or_l (get_or old word 0) (get_or others word 0) in
      omega (arith, is, more, some)

  word_comes : (word : ℕ) → word < length old → 0 < get_or others word 0 → 0 < get_or new word 0
  word_comes word within some =
      let is = united.each word within in
      let more = le_or_r (get_or old word 0) (get_or others word 0) in
      omega (arith, is, more, some)

-- the words of two sets over as many tiles
module _ (count count' : ℕ) (words summary words' summary' : List ℕ) (sound : IsSummed count words summary)
    (other_sound : IsSummed count' words' summary') (counts : count' ≡ count) where
  sound' : IsSummed count words' summary'
  sound' = subst (λ n. IsSummed n words' summary') counts other_sound

  pub same_words : length words' ≡ length words
  same_words = sound'.word_count ∙ sym sound.word_count

  pub same_summaries : length summary' ≡ length summary
  same_summaries =
      sound'.summary_count ∙ ap (λ (n : ℕ). n / 64 + 1) same_words ∙ sym sound.summary_count

  module _ (new noted : List ℕ) (united : AreUnited words words' new) (united' : AreUnited summary summary' noted)
    where
      pub IsSummed-united : IsSummed count new noted
      IsSummed-united = record {
        word_count = united.count ∙ sound.word_count;
        summary_count =
            united'.count ∙ sound.summary_count ∙ ap (λ (n : ℕ). n / 64 + 1) (sym united.count);
        tiles = λ t set. elim (in_one words words' new same_words united t set) [
          | inl was ↦ sound.tiles t was
          | inr came ↦ sound'.tiles t came
        ];
        summed = λ t set. elim (in_one words words' new same_words united t set) [
          | inl was ↦ from_old summary summary' noted same_summaries united' (t / 64) (sound.summed t was)
          | inr came ↦ from_other summary summary' noted same_summaries united' (t / 64) (sound'.summed t came)
        ];
        some = λ word set. elim (in_one summary summary' noted same_summaries united' word set) [
          | inl was ↦
              word_stays words words' new same_words united word (word_within count words summary sound word was)
              (sound.some word was)
          | inr came ↦
              let within = word_within count words' summary' sound' word came in
              let same = same_words in
              word_comes words words' new same_words united word (omega (arith, within, same)) (sound'.some word came)
        ];
      }

  module _ (new : List ℕ) (united : AreUnited words words' new) where
    each_united : (t : ℕ) → Has (tiles_of count new) t ↔ (Has (tiles_of count words) t ⊎ Has (tiles_of count words') t)
    each_united t = (
      λ has.
          let within : t < count = let h = has.0 in let long = length-tiles count new in omega (arith, h, long) in
          elim (in_one words words' new same_words united t (Has-bit count new t has)) [
            | inl was ↦ inl (Has-from_bit count words t within was)
            | inr came ↦ inr (Has-from_bit count words' t within came)
          ],
      λ has. elim has [
        | inl was ↦
            let within : t < count = let h = was.0 in let long = length-tiles count words in omega (arith, h, long) in
            Has-from_bit count new t within
            (from_old words words' new same_words united t (Has-bit count words t was))
        | inr came ↦
            let within : t < count = let h = came.0 in let long = length-tiles count words' in omega (arith, h, long) in
            Has-from_bit count new t within
            (from_other words words' new same_words united t (Has-bit count words' t came))
      ],
    )

    -- the same, by what the words are seen as
    pub HasGained-united : (old other : List Bool) → tiles_of count words ≡ old → tiles_of count' words' ≡ other
        → HasGained old (Has other) (tiles_of count new)
    HasGained-united old other view other_view = record {
      count = length-tiles count new ∙ sym (length-tiles count words) ∙ ap length view;
      each = λ t.
          let view' : tiles_of count words' ≡ other = subst (λ n. tiles_of n words' ≡ other) counts other_view in
          subst (λ (s : List Bool). Has (tiles_of count new) t ↔ (Has s t ⊎ Has other t)) view
          (subst (λ (s : List Bool). Has (tiles_of count new) t ↔ (Has (tiles_of count words) t ⊎ Has s t)) view'
          (each_united t));
    }

-- what holds of the same tiles is gained alike
pub HasGained-like : (old new : List Bool) (P Q : ℕ → Type 0) → ((t : ℕ) → P t ↔ Q t) → HasGained old P new
    → HasGained old Q new
HasGained-like old new P Q same gained = record {
  count = gained.count;
  each = λ t. (
    λ has. elim ((gained.each t).0 has) [ inl was ↦ inl was | inr came ↦ inr ((same t).0 came) ],
    λ has. (gained.each t).1 (elim has [ inl was ↦ inl was | inr came ↦ inr ((same t).1 came) ]),
  );
}

-- one tile more is gained where it is put in
pub HasGained-one : (old now : List Bool) (tiles : List ℕ) (t : ℕ) → t < length now → HasGained old (Contains tiles) now
    → HasGained old (Contains (tiles ++ t ∷ [])) (set now t true)
HasGained-one old now tiles t within gained =
    record {
      count = length-set now t true ∙ gained.count;
      each = λ u. (
        λ has. elim ((put_has now t within u).0 has) [
          | inl before ↦ elim ((gained.each u).0 before) [
            | inl was ↦ inl was
            | inr came ↦ inr (Contains-append_left tiles (t ∷ []) u came)
          ]
          | inr same ↦ inr (subst (Contains (tiles ++ t ∷ [])) (sym same) (Contains-push tiles t))
        ],
        λ has. (put_has now t within u).1 (elim has [
          | inl was ↦ inl ((gained.each u).1 (inl was))
          | inr came ↦ elim (Contains-push_cases tiles t u came) [
            | inl earlier ↦ inl ((gained.each u).1 (inr earlier))
            | inr same ↦ inr (sym same)
          ]
        ]),
      );
    }

-- a set gains nothing of an empty list
pub HasGained-none : (old : List Bool) → HasGained old (Contains []) old
HasGained-none old = record {
  count = refl;
  each = λ t. (
    λ has. inl has,
    λ has. elim has [ inl was ↦ was | inr (k, within, there) ↦ absurd (omega (arith, within)) ],
  );
}
