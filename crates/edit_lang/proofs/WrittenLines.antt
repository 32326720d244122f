-- Lines that place and withdraw, read back.
use Rattle.std.proofs.Common.{◌≡◌, ℕ, ◌+◌, ◌<◌, ◌≤◌, ◌^◌, true, ltb, List, [], ◌∷◌, ◌++◌, Option, Some, Ok, map, refl}
use Rattle.std.proofs.Common.{ap, subst, sym, ◌∙◌, arith, inl, decimal, codes, append-nil, flat_map, Result}
use Rattle.std.proofs.{lemmas.Bool.ltb-true, lemmas.Fmt.decimal_nonempty}
use Rattle.std.specs.List.{AllByRecursion, join_by, list_all}
use Rattle.grid_core.proofs.Common.{both_true}
use Rattle.stroke_core.specs.{Seed.Seed, Seed.Shape, Seed.Runs, Seed.Disc, Seed.IsCanonicalShape, Tag.text_of}
use Rattle.stroke_core.proofs.TagLemmas.{tag_of-text_of}
use Rattle.stroke_lattice.specs.State.{State, placed, withdrawn}
use Rattle.stroke_lattice.specs.Pieces.{Item, Placed, Withdrawn}
use Rattle.edit_lang.specs.{declared.error.EditError.EditError, Lines.blank, Lines.lines_of, Lines.words_of}
use Rattle.edit_lang.specs.{Lines.line_feed}
use Rattle.edit_lang.specs.Edit.{Edit, Place, Withdraw, three_of, runs_edit, disc_edit, withdrawal, edit_named, edit_of}
use Rattle.edit_lang.specs.Edit.{PlaceMeans, WithdrawMeans, EditMeans, LineMeans, LinesMean, EditSpells}
use Rattle.edit_lang.specs.Writing.{verb_of, shape_text, placement_words, placement_text, withdrawal_words}
use Rattle.edit_lang.specs.Writing.{withdrawal_text, item_text, ShapeHasCoordinates, IsHeld, ItemIsHeld, delta_of}
use Rattle.edit_lang.proofs.Bytes.{Above, above_less, decimal_above, tag_length, tag_above}
use Rattle.edit_lang.proofs.WrittenWords.{number_read, IsWord, words_read, line_above, line_read}
use Rattle.edit_lang.proofs.WrittenShapes.{runs_read, disc_read, shape_word}
use Rattle.edit_lang.proofs.Cutting.{lines-nil}

-- what an edit of a line may mean
abbrev Meaning : Type 0
Meaning = Result (Option State) EditError

-- ---- the words

tag_word : (tag : ℕ) → IsWord (text_of tag)
tag_word tag = record { some = omega (arith, tag_length tag); above = tag_above tag }

level_word : (n : ℕ) → n ≤ 65535 → IsWord (decimal n)
level_word n le = record {
  some = decimal_nonempty n (omega arith);
  above = above_less 32 47 (decimal n) (omega arith) (decimal_above n le);
}

letters_above : (word : List ℕ) → list_all (λ b. ltb 32 b) word ≡ true → Above 32 word
letters_above [] all = tt
letters_above (b ∷ word) all =
    let both = both_true (ltb 32 b) (list_all (λ c. ltb 32 c) word) all in
    (ltb-true 32 b both.0, letters_above word both.1)

verb_word : (shape : Shape) → IsWord (verb_of shape)
verb_word (Runs runs) = record { some = omega arith; above = letters_above (codes "place") refl }
verb_word (Disc x y r) = record { some = omega arith; above = letters_above (codes "disc") refl }

placement_are_words : (tag : ℕ) (seed : Seed) → IsHeld (tag, seed) → AllByRecursion IsWord (placement_words tag seed)
placement_are_words tag seed held = (
  verb_word seed.shape,
  (
    tag_word tag,
    (
      level_word seed.level held.canonical.level_high,
      (shape_word seed.shape held.canonical.shape held.coordinates, tt),
    ),
  ),
)

withdrawal_are_words : (tag : ℕ) → AllByRecursion IsWord (withdrawal_words tag)
withdrawal_are_words tag =
    (record { some = omega arith; above = letters_above (codes "withdraw") refl }, (tag_word tag, tt))

-- ---- the edits

edit_read : (tag : List ℕ) (level : ℕ) (shape : Shape) → level ≤ 65535 → IsCanonicalShape shape
    → ShapeHasCoordinates shape
    → edit_of (verb_of shape ∷ tag ∷ decimal level ∷ shape_text shape ∷ [])
    ≡ Some (Place tag (record { level = level; shape = shape }))
unfolding edit_of edit_named runs_edit disc_edit three_of
edit_read tag level (Runs runs) high canonical fit =
    rw (number_read level high, runs_read runs canonical.0 fit) refl
edit_read tag level (Disc x y r) high canonical fit =
    rw (number_read level high, disc_read x y r fit.0 fit.1 canonical) refl

withdrawal_read : (tag : List ℕ) → edit_of (codes "withdraw" ∷ tag ∷ []) ≡ Some (Withdraw tag)
unfolding edit_of edit_named withdrawal
withdrawal_read tag = refl

-- ---- the lines

place_means : (n tag : ℕ) (seed : Seed) → IsHeld (tag, seed)
    → EditMeans n (Some (Place (text_of tag) seed)) (Ok (Some (placed tag seed)))
place_means n tag seed held =
    subst (λ (t : Option ℕ). PlaceMeans n t seed (Ok (Some (placed tag seed)))) (sym (tag_of-text_of tag held.tag))
    (inl (held.canonical, refl))

abbrev words_behind : ℕ → Seed → List (List ℕ)
words_behind tag seed = text_of tag ∷ decimal seed.level ∷ shape_text seed.shape ∷ []

-- the line of a placement without its end
abbrev pub placement_body : ℕ → Seed → List ℕ
placement_body tag seed = join_by (λ word. word) (blank ∷ []) (placement_words tag seed)

placement_means : (n tag : ℕ) (seed : Seed) → IsHeld (tag, seed)
    → LineMeans n (placement_body tag seed) (Ok (Some (placed tag seed)))
placement_means n tag seed held =
    let words : words_of (placement_body tag seed) ≡ placement_words tag seed =
    words_read (verb_of seed.shape) (words_behind tag seed) (placement_are_words tag seed held) in
    let edit : edit_of (words_of (placement_body tag seed)) ≡ Some (Place (text_of tag) seed) =
    ap edit_of words
    ∙ edit_read (text_of tag) seed.level seed.shape held.canonical.level_high held.canonical.shape held.coordinates in
    subst (λ (e : Option Edit). EditMeans n e (Ok (Some (placed tag seed)))) (sym edit) (place_means n tag seed held)

abbrev withdrawal_body : ℕ → List ℕ
withdrawal_body tag = join_by (λ word. word) (blank ∷ []) (withdrawal_words tag)

withdrawal_means : (n tag : ℕ) → tag < 2 ^ 128
    → LineMeans n (withdrawal_body tag) (Ok (Some (withdrawn tag)))
withdrawal_means n tag fits =
    let words : words_of (withdrawal_body tag) ≡ withdrawal_words tag =
    words_read (codes "withdraw") (text_of tag ∷ []) (withdrawal_are_words tag) in
    let edit : edit_of (words_of (withdrawal_body tag)) ≡ Some (Withdraw (text_of tag)) =
    ap edit_of words ∙ withdrawal_read (text_of tag) in
    let read : EditMeans n (Some (Withdraw (text_of tag))) (Ok (Some (withdrawn tag))) =
    subst (λ (t : Option ℕ). WithdrawMeans n t (Ok (Some (withdrawn tag)))) (sym (tag_of-text_of tag fits)) refl in
    subst (λ (e : Option Edit). EditMeans n e (Ok (Some (withdrawn tag)))) (sym edit) read

-- ---- texts

-- a line that means a state, in front of a text
line_first : (n : ℕ) (body rest : List ℕ) (first : State) (others : List State) → Above 31 body
    → LineMeans n body (Ok (Some first)) → LinesMean (n + 1) (lines_of rest) (Ok others)
    → LinesMean n (lines_of ((body ++ line_feed ∷ []) ++ rest)) (Ok (first ∷ others))
line_first n body rest first others above line means =
    subst (λ (ls : List (List ℕ)). LinesMean n ls (Ok (first ∷ others))) (sym (line_read body rest above))
    (Some first, others, line, means, refl)

-- what was written of one, in front of a text
item_first : (n : ℕ) (item : Item) (rest : List ℕ) (others : List State) → ItemIsHeld item
    → LinesMean (n + 1) (lines_of rest) (Ok others)
    → LinesMean n (lines_of (item_text item ++ rest)) (Ok (delta_of item ∷ others))
unfolding placement_text withdrawal_text
item_first n (Placed tag seed) rest others held means =
    line_first n (placement_body tag seed) rest (placed tag seed) others
    (line_above (verb_of seed.shape) (words_behind tag seed) (placement_are_words tag seed held))
    (placement_means n tag seed held) means
item_first n (Withdrawn tag) rest others held means =
    line_first n (withdrawal_body tag) rest (withdrawn tag) others
    (line_above (codes "withdraw") (text_of tag ∷ []) (withdrawal_are_words tag)) (withdrawal_means n tag held) means

nothing_means : (n : ℕ) → LinesMean n (lines_of []) (Ok [])
nothing_means n = subst (λ (ls : List (List ℕ)). LinesMean n ls (Ok [])) (sym lines-nil) refl

-- what was written of each
each_read : {X : Type 0} (item : X → Item) (n : ℕ) (xs : List X) → AllByRecursion (λ x. ItemIsHeld (item x)) xs
    → LinesMean n (lines_of (flat_map (λ x. item_text (item x)) xs)) (Ok (map (λ x. delta_of (item x)) xs))
each_read item n [] held = nothing_means n
each_read item n (x ∷ xs) held =
    item_first n (item x) (flat_map (λ y. item_text (item y)) xs) (map (λ y. delta_of (item y)) xs) held.0
    (each_read item (n + 1) xs held.1)

-- what was written of strokes and withdrawals is read
pub lines_read : (items : List Item) → AllByRecursion ItemIsHeld items
    → EditSpells (flat_map item_text items) (map delta_of items)
lines_read items held = each_read (λ (item : Item). item) 1 items held

one_item : (item : Item) → ItemIsHeld item → EditSpells (item_text item) (delta_of item ∷ [])
one_item item held =
    subst (λ (t : List ℕ). EditSpells t (delta_of item ∷ [])) (append-nil (item_text item))
    (lines_read (item ∷ []) (held, tt))

-- one placement
pub placement_read : (tag : ℕ) (seed : Seed) → IsHeld (tag, seed)
    → EditSpells (placement_text tag seed) (placed tag seed ∷ [])
placement_read tag seed held = one_item (Placed tag seed) held

-- one withdrawal
pub withdrawal_text_read : (tag : ℕ) → tag < 2 ^ 128 → EditSpells (withdrawal_text tag) (withdrawn tag ∷ [])
withdrawal_text_read tag fits = one_item (Withdrawn tag) fits

-- the deltas of placements
abbrev pub deltas_of : List (ℕ × Seed) → List State
deltas_of entries = map (λ entry. placed entry.0 entry.1) entries

-- placements that were written are read
pub placements_read : (entries : List (ℕ × Seed)) → AllByRecursion IsHeld entries
    → EditSpells (flat_map (λ entry. placement_text entry.0 entry.1) entries) (deltas_of entries)
placements_read entries held = each_read (λ (entry : ℕ × Seed). Placed entry.0 entry.1) 1 entries held
