-- A line, and a text, has one meaning.
use Rattle.std.proofs.Common.{◌≡◌, ℕ, ◌+◌, List, [], ◌∷◌, ◌++◌, Option, Some, None, Result, Ok, Err, refl, ap, sym, ◌∙◌}
use Rattle.std.proofs.Common.{◌⊎◌, inl, inr, option_to_list}
use Rattle.stroke_core.specs.{Seed.Seed, Seed.IsRefusal, Tag.tag_of, declared.error.StrokeError.StrokeError}
use Rattle.stroke_lattice.specs.State.{State, placed, withdrawn}
use Rattle.edit_lang.specs.{declared.error.EditError.EditError, Lines.words_of}
use Rattle.edit_lang.specs.declared.error.EditError.TheVariants.{BadLine, BadTag, BadStroke}
use Rattle.edit_lang.specs.Edit.{Edit, Nothing, Place, Withdraw, edit_of, SeedMeans, PlaceMeans, WithdrawMeans}
use Rattle.edit_lang.specs.Edit.{EditMeans, LineMeans, LinesMean}
use Rattle.edit_lang.proofs.Seeds.{not_refused, judged}

-- what an edit of a line may mean
abbrev Meaning : Type 0
Meaning = Result (Option State) EditError

-- each edit has a meaning
seed_means : (n tag : ℕ) (seed : Seed) → (r : Meaning) × SeedMeans n tag seed r
seed_means n tag seed = elim (judged seed) [
  | inl canonical ↦ (Ok (Some (placed tag seed)), inl (canonical, refl))
  | inr refused ↦ (Err (BadStroke n refused.0), inr (refused.0, refused.1, refl))
]

place_means : (n : ℕ) (tag : Option ℕ) (seed : Seed) → (r : Meaning) × PlaceMeans n tag seed r
place_means n None seed = (Err (BadTag n), refl)
place_means n (Some tag) seed = seed_means n tag seed

withdraw_means : (n : ℕ) (tag : Option ℕ) → (r : Meaning) × WithdrawMeans n tag r
withdraw_means n None = (Err (BadTag n), refl)
withdraw_means n (Some tag) = (Ok (Some (withdrawn tag)), refl)

edit_means : (n : ℕ) (edit : Option Edit) → (r : Meaning) × EditMeans n edit r
edit_means n None = (Err (BadLine n), refl)
edit_means n (Some Nothing) = (Ok None, refl)
edit_means n (Some (Place tag seed)) = place_means n (tag_of tag) seed
edit_means n (Some (Withdraw tag)) = withdraw_means n (tag_of tag)

one_line_more : (n : ℕ) (line : List ℕ) (lines : List (List ℕ)) (m : Meaning) → LineMeans n line m
    → (r : Result (List State) EditError) → LinesMean (n + 1) lines r
    → (s : Result (List State) EditError) × LinesMean n (line ∷ lines) s
one_line_more n line lines (Err e) means r rest = (Err e, inl means)
one_line_more n line lines (Ok first) means (Ok others) rest =
    (Ok (option_to_list first ++ others), (first, others, means, rest, refl))
one_line_more n line lines (Ok first) means (Err e) rest = (Err e, inr (first, means, rest))

-- the lines mean states, or one has the first fault
pub lines_mean : (n : ℕ) (lines : List (List ℕ)) → (r : Result (List State) EditError) × LinesMean n lines r
lines_mean n [] = (Ok [], refl)
lines_mean n (line ∷ lines) =
    let first = edit_means n (edit_of (words_of line)) in
    let others = lines_mean (n + 1) lines in
    one_line_more n line lines first.0 first.1 others.0 others.1

-- every text has a meaning
pub every_text : (n : ℕ) (lines : List (List ℕ)) (r : Result (List State) EditError) → LinesMean n lines r
    → ((deltas : List State) × LinesMean n lines (Ok deltas)) ⊎ ((e : EditError) × LinesMean n lines (Err e))
every_text n lines (Ok deltas) h = inl (deltas, h)
every_text n lines (Err e) h = inr (e, h)

module _ (one_reason : (s : Seed) (d e : StrokeError) → IsRefusal s d → IsRefusal s e → d ≡ e) where
  seed_once : (n tag : ℕ) (seed : Seed) (r s : Meaning) → SeedMeans n tag seed r → SeedMeans n tag seed s → r ≡ s
  seed_once n tag seed r s (inl h) (inl k) = h.1 ∙ sym k.1
  seed_once n tag seed r s (inl h) (inr k) = absurd (not_refused seed k.0 h.0 k.1)
  seed_once n tag seed r s (inr h) (inl k) = absurd (not_refused seed h.0 k.0 h.1)
  seed_once n tag seed r s (inr h) (inr k) = h.2 ∙ ap (λ why. Err (BadStroke n why)) (one_reason seed h.0 k.0 h.1
      k.1) ∙ sym k.2

  place_once : (n : ℕ) (tag : Option ℕ) (seed : Seed) (r s : Meaning) → PlaceMeans n tag seed r
      → PlaceMeans n tag seed s → r ≡ s
  place_once n None seed r s h k = h ∙ sym k
  place_once n (Some tag) seed r s h k = seed_once n tag seed r s h k

  withdraw_once : (n : ℕ) (tag : Option ℕ) (r s : Meaning) → WithdrawMeans n tag r → WithdrawMeans n tag s → r ≡ s
  withdraw_once n None r s h k = h ∙ sym k
  withdraw_once n (Some tag) r s h k = h ∙ sym k

  -- an edit means one thing
  edit_once : (n : ℕ) (edit : Option Edit) (r s : Meaning) → EditMeans n edit r → EditMeans n edit s → r ≡ s
  edit_once n None r s h k = h ∙ sym k
  edit_once n (Some Nothing) r s h k = h ∙ sym k
  edit_once n (Some (Place tag seed)) r s h k = place_once n (tag_of tag) seed r s h k
  edit_once n (Some (Withdraw tag)) r s h k = withdraw_once n (tag_of tag) r s h k

  line_once : (n : ℕ) (line : List ℕ) (r s : Meaning) → LineMeans n line r → LineMeans n line s → r ≡ s
  line_once n line = edit_once n (edit_of (words_of line))

  -- lines mean one thing
  pub lines_once : (n : ℕ) (lines : List (List ℕ)) (r s : Result (List State) EditError) → LinesMean n lines r
      → LinesMean n lines s → r ≡ s
  lines_once n [] r s h k = h ∙ sym k
  lines_once n (line ∷ lines) (Ok ds) (Ok es) (first, ds', m, h, d) (second, es', l, k, e) =
      let head = line_once n line (Ok first) (Ok second) m l in
      let tail = lines_once (n + 1) lines (Ok ds') (Ok es') h k in
      cc
  lines_once n (line ∷ lines) (Ok ds) (Err e) (first, ds', m, h, d) (inl k) = absurd (let head =
      line_once n line (Ok first) (Err e) m k in cc)
  lines_once n (line ∷ lines) (Ok ds) (Err e) (first, ds', m, h, d) (inr (second, l, k)) =
      absurd (let tail = lines_once (n + 1) lines (Ok ds') (Err e) h k in cc)
  lines_once n (line ∷ lines) (Err e) (Ok ds) (inl h) (second, ds', l, k, d) = absurd (let head =
      line_once n line (Err e) (Ok second) h l in cc)
  lines_once n (line ∷ lines) (Err e) (Ok ds) (inr (first, m, h)) (second, ds', l, k, d) =
      absurd (let tail = lines_once (n + 1) lines (Err e) (Ok ds') h k in cc)
  lines_once n (line ∷ lines) (Err d) (Err e) (inl h) (inl k) = let head = line_once n line (Err d) (Err e) h k in cc
  lines_once n (line ∷ lines) (Err d) (Err e) (inl h) (inr (second, l, k)) = absurd (let head =
      line_once n line (Err d) (Ok second) h l in cc)
  lines_once n (line ∷ lines) (Err d) (Err e) (inr (first, m, h)) (inl k) = absurd (let head =
      line_once n line (Ok first) (Err e) m k in cc)
  lines_once n (line ∷ lines) (Err d) (Err e) (inr (first, m, h)) (inr (second, l, k)) =
      lines_once (n + 1) lines (Err d) (Err e) h k
