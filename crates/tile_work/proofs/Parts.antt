-- Parts of a list, cut out and put back.
use Rattle.std.proofs.Common.{◌≡◌, ℕ, ◌+◌, ◌-◌, ◌<◌, ◌≤◌, ◌⊎◌, inl, inr, List, [], ◌∷◌, ◌++◌, length, get_or, set}
use Rattle.std.proofs.Common.{take, drop, slice_range, sym, ap, ◌∙◌, arith, refl}
use Rattle.std.proofs.lemmas.List.{append_assoc, length-append, length-take, length-drop, length_push, take-append-drop}
use Rattle.std.proofs.lemmas.List.{drop-drop, drop_more, set_at, get_or-take, get_or-drop, get_or_append_left}
use Rattle.std.proofs.lemmas.List.{get_or-append_right}
use Rattle.tile_work.specs.Cutting.{with_part}

module _ {X : Type 0} (whole : List X) (first end : ℕ) (order : first ≤ end) (within : end ≤ length whole) where
  pub length_part : length (slice_range whole first end) ≡ end - first
  length_part = simp (length-take, length-drop) (omega arith)

  -- the whole is what stands before the part, the part, and what stands behind it
  pub whole_of_part : take first whole ++ (slice_range whole first end ++ drop end whole) ≡ whole
  whole_of_part =
      let behind : drop end whole ≡ drop (end - first) (drop first whole) =
      ap (λ n. drop n whole) (omega arith) ∙ sym (drop-drop (end - first) first whole) in
      ap (λ (xs : List X). take first whole ++ (slice_range whole first end ++ xs)) behind
      ∙ ap (λ (xs : List X). take first whole ++ xs) (take-append-drop (end - first) (drop first whole))
      ∙ take-append-drop first whole

  -- so it stays the same where the part is put back
  pub part_put_back : with_part first (slice_range whole first end) whole ≡ whole
  part_put_back =
      let long = length_part in
      ap (λ n. take first whole ++ (slice_range whole first end ++ drop n whole)) (omega (arith, long)) ∙ whole_of_part

  pub get_or_part : (u : ℕ) (d : X) → u < end - first
      → get_or (slice_range whole first end) u d ≡ get_or whole (first + u) d
  get_or_part u d below = get_or-take (end - first) (drop first whole) u d below ∙ get_or-drop first whole u d

module _ {X : Type 0} (whole part : List X) (first : ℕ) (within : first + length part ≤ length whole) where
  length_before : length (take first whole) ≡ first
  length_before = simp length-take (omega arith)

  pub length_with_part : length (with_part first part whole) ≡ length whole
  length_with_part = simp (length-append, length-take, length-drop) (omega arith)

  pub get_or_in_part : (u : ℕ) (d : X) → u < length part
      → get_or (with_part first part whole) (first + u) d ≡ get_or part u d
  get_or_in_part u d below =
      get_or-append_right (take first whole) _ first (first + u) d length_before (omega arith)
      ∙ ap (λ n. get_or (part ++ drop (first + length part) whole) n d) (omega arith)
      ∙ get_or_append_left part _ d u below

  pub get_or_beside_part : (t : ℕ) (d : X) → (t < first) ⊎ (first + length part ≤ t)
      → get_or (with_part first part whole) t d ≡ get_or whole t d
  get_or_beside_part t d beside = elim beside [
    | inl before ↦
        let long = length_before in
        get_or_append_left (take first whole) _ d t (omega (arith, before, long)) ∙ get_or-take first whole t d before
    | inr behind ↦
        get_or-append_right (take first whole) _ first t d length_before (omega (arith, behind))
        ∙ get_or-append_right part _ (length part) (t - first) d refl (omega (arith, behind))
        ∙ get_or-drop (first + length part) whole (t - first - length part) d
        ∙ ap (λ n. get_or whole n d) (omega (arith, behind))
  ]

-- a part with no element
pub with_no_part : {X : Type 0} (whole : List X) (first : ℕ) → with_part first [] whole ≡ whole
with_no_part {X} whole first =
    ap (λ n. take first whole ++ drop n whole) (omega arith) ∙ take-append-drop first whole

-- the part gets one more element at its end
pub with_one_more : {X : Type 0} (whole part : List X) (first : ℕ) (x : X) → first + length part < length whole
    → set (with_part first part whole) (first + length part) x ≡ with_part first (part ++ x ∷ []) whole
with_one_more {X} whole part first x within =
    let place = first + length part in
    let before = take first whole in
    let y = get_or whole place x in
    let rest = drop (place + 1) whole in
    let long : length (before ++ part) ≡ place = simp (length-append, length-take) (omega arith) in
    let more = length_push part x in
    ap (λ (xs : List X). set (before ++ (part ++ xs)) place x) (drop_more whole place x within)
    ∙ ap (λ (xs : List X). set xs place x) (sym (append_assoc before part (y ∷ rest)))
    ∙ set_at (before ++ part) y rest x place long ∙ append_assoc before part (x ∷ rest)
    ∙ ap (λ (xs : List X). before ++ xs) (sym (append_assoc part (x ∷ []) rest))
    ∙ ap (λ n. before ++ (part ++ x ∷ [] ++ drop n whole)) (omega (arith, more))

-- the place of the next element is one of the whole
pub next_within : {X : Type 0} (whole part now : List X) (first i : ℕ) → first + length part ≤ length whole
    → i < length part → now ≡ with_part first (take i part) whole → first + i < length now
next_within whole part now first i within here so_far =
    let long : length (take i part) ≡ i = simp length-take (omega arith) in
    let same = ap length so_far ∙ length_with_part whole (take i part) first (omega (arith, long, within, here)) in
    omega (arith, same, within, here)
