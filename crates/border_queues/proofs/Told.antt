-- Hints that are told part by part.
use Rattle.std.proofs.Common.{◌≡◌, ℕ, ◌+◌, ◌-◌, ◌≤◌, List, [], ◌∷◌, ◌++◌, map, refl, ap, sym, ◌∙◌, arith, append_assoc}
use Rattle.std.proofs.Common.{append-nil, filter, flat_map, Bool, true, false, cond}
use Rattle.std.proofs.lemmas.List.{map-append, flat_map_more, map-id}
use Rattle.std.proofs.{lemmas.List.Concat.flat_map-append, lemmas.List.Folds.flat_map-map}
use Rattle.std.proofs.{lemmas.List.FromFn.map-range_with_len_more, lemmas.List.Elements.filter-append}
use Rattle.std.specs.List.{range_with_len}
use Rattle.grid_core.specs.{declared.pixel.Pixel.Pixel, declared.rect.Rect.Rect}
use Rattle.border_queues.specs.declared.hint.Hint.{Hint}
use Rattle.border_queues.specs.OpenEdges.{Sender, hint_to, is_open, hints_to, hints_from, row_of, pixels_of}

pub hints_to-append : (s : Sender) (value : ℕ) (qs rs : List Pixel)
    → hints_to s value (qs ++ rs) ≡ hints_to s value qs ++ hints_to s value rs
hints_to-append s value qs rs =
    ap (map (hint_to s value)) (filter-append (is_open s value) qs rs)
    ∙ map-append (hint_to s value) (filter (is_open s value) qs) (filter (is_open s value) rs)

-- the hint to a pixel, if it can be raised
abbrev pub hint_if : Sender → ℕ → Pixel → List Hint
hint_if s value q = cond (is_open s value q) (hint_to s value q ∷ []) []

map_one : (f : Pixel → Hint) (kept : Bool) (q : Pixel) → map f (cond kept (q ∷ []) []) ≡ cond kept (f q ∷ []) []
map_one f true q = refl
map_one f false q = refl

-- pixels are told one by one
pub told_each : (s : Sender) (value : ℕ) (qs : List Pixel) → hints_to s value qs ≡ flat_map (hint_if s value) qs
told_each s value [] = refl
told_each s value (q ∷ qs) =
    hints_to-append s value (q ∷ []) qs
    ∙ (λ i. map_one (hint_to s value) (is_open s value q) q i ++ told_each s value qs i)

pub told_two : (s : Sender) (value : ℕ) (old : List Hint) (qs rs : List Pixel)
    → (old ++ hints_to s value qs) ++ hints_to s value rs ≡ old ++ hints_to s value (qs ++ rs)
told_two s value old qs rs =
    append_assoc old (hints_to s value qs) (hints_to s value rs)
    ∙ ap (λ hs. old ++ hs) (sym (hints_to-append s value qs rs))

-- the neighbours of a pixel are told row by row
pub told_around : (s : Sender) (value : ℕ) (old : List Hint) (above left right below : List Pixel)
    → (((old ++ hints_to s value above) ++ hints_to s value left) ++ hints_to s value right) ++ hints_to s value below
    ≡ old ++ hints_to s value (above ++ (left ++ [] ++ right) ++ below)
told_around s value old above left right below =
    let to : List Pixel → List Hint = hints_to s value in
    ap (λ hs. (hs ++ to right) ++ to below) (told_two s value old above left)
    ∙ ap (λ hs. hs ++ to below) (told_two s value old (above ++ left) right)
    ∙ told_two s value old (above ++ left ++ right) below
    ∙ ap (λ qs. old ++ to (qs ++ below)) (append_assoc above left right)
    ∙ ap (λ qs. old ++ to (above ++ (qs ++ right) ++ below)) (sym (append-nil left))

pub range_more : (a n : ℕ) → range_with_len a n ++ (a + n) ∷ [] ≡ range_with_len a (n + 1)
range_more a n =
    let same : ℕ → ℕ = λ k. k in
    ap (λ ks. ks ++ (a + n) ∷ []) (sym (map-id (range_with_len a n)))
    ∙ sym (map-range_with_len_more same a n (a + n) refl) ∙ map-id (range_with_len a (n + 1))

-- what the numbers from one on tell, up to before another, which is told next
pub told_next : (f : ℕ → List Hint) (old : List Hint) (from k : ℕ) → from ≤ k
    → (old ++ flat_map f (range_with_len from (k - from))) ++ f k
    ≡ old ++ flat_map f (range_with_len from (k + 1 - from))
told_next f old from k reached =
    let here : k ≡ from + (k - from) = omega arith in
    let more : k - from + 1 ≡ k + 1 - from = omega arith in
    let before : List ℕ = range_with_len from (k - from) in
    flat_map_more f old before k
    ∙ ap (λ j. old ++ flat_map f (before ++ j ∷ [])) here
    ∙ ap (λ ks. old ++ flat_map f ks) (range_more from (k - from))
    ∙ ap (λ n. old ++ flat_map f (range_with_len from n)) more

-- the hints of a row, column by column
pub by_columns : (s : Sender) (rect : Rect) (y : ℕ)
    → flat_map (hints_from s) (row_of rect y)
    ≡ flat_map (λ x. hints_from s (record { x = x; y = y })) (range_with_len rect.x rect.w)
by_columns s rect y = flat_map-map (hints_from s) (λ x. record { x = x; y = y }) (range_with_len rect.x rect.w)

flat_map_rows : (f : Pixel → List Hint) (row : ℕ → List Pixel) (ys : List ℕ)
    → flat_map f (flat_map row ys) ≡ flat_map (λ y. flat_map f (row y)) ys
flat_map_rows f row [] = refl
flat_map_rows f row (y ∷ ys) =
    flat_map-append f (row y) (flat_map row ys) ∙ ap (λ hs. flat_map f (row y) ++ hs) (flat_map_rows f row ys)

-- the hints of a rectangle, row by row
pub by_rows : (s : Sender) (rect : Rect)
    → flat_map (hints_from s) (pixels_of rect)
    ≡ flat_map (λ y. flat_map (hints_from s) (row_of rect y)) (range_with_len rect.y rect.h)
by_rows s rect = flat_map_rows (hints_from s) (row_of rect) (range_with_len rect.y rect.h)
