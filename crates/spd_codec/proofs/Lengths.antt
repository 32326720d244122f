-- The lengths of frames and of their parts.
use Rattle.std.proofs.Common.{◌≡◌, ℕ, ◌+◌, ◌*◌, ◌^◌, ◌<◌, ◌≤◌, List, [], ◌∷◌, ◌++◌, map, length, refl, sym, ap, ◌∙◌}
use Rattle.std.proofs.Common.{append_assoc, arith, flat_map, sum_by}
use Rattle.std.proofs.{lemmas.List.length-append, lemmas.List.Sums.sum_by-append, lemmas.List.Sums.sum_by-cons}
use Rattle.std.specs.List.{AllByRecursion}
use Rattle.grid_core.specs.declared.conn.Conn.{Conn}
use Rattle.stroke_core.specs.{declared.run.Run.Run, Seed.Seed, Seed.Shape, Seed.Runs, Seed.Disc, Seed.byte_len_of}
use Rattle.stroke_lattice.specs.State.{State}
use Rattle.stroke_lattice.specs.Pieces.{item_length, stroke_items, tombstone_items, Placed, Withdrawn, frame_length}
use Rattle.stroke_lattice.specs.Pieces.{strokes_of, tombstones_of}
use Rattle.spd_codec.specs.declared.version.Version.TheVariants.{Second}
use Rattle.spd_codec.specs.Spelling.{stroke_text, tag_text, run_text, frame_text, magic, conn_byte, short, max_bytes}
use Rattle.spd_codec.specs.Spelling.{StrokeFits, Spells}

-- how many bytes strokes take
abbrev pub strokes_length : List (ℕ × Seed) → ℕ
strokes_length es = sum_by (λ e. byte_len_of e.1.shape) es

of_strokes : (es : List (ℕ × Seed)) → sum_by item_length (map (λ entry. Placed entry.0 entry.1) es) ≡ strokes_length es
of_strokes [] = refl
of_strokes (e ∷ es) =
    sum_by-cons item_length (Placed e.0 e.1) (map (λ entry. Placed entry.0 entry.1) es)
    ∙ ap (λ n. byte_len_of e.1.shape + n) (of_strokes es)
    ∙ sym (sum_by-cons (λ x. byte_len_of x.1.shape) e es)

of_tombstones : (tags : List ℕ) → sum_by item_length (map (λ tag. Withdrawn tag) tags) ≡ 16 * length tags
of_tombstones [] = refl
of_tombstones (tag ∷ tags) =
    let rest = of_tombstones tags in
    let first = sum_by-cons item_length (Withdrawn tag) (map (λ t. Withdrawn t) tags) in
    omega arith

-- the length of a frame, by its strokes and its tombstones
pub frame_length_is : (s : State) → frame_length s ≡ 41 + strokes_length (strokes_of s) + 16 * length (tombstones_of s)
frame_length_is s =
    let both = sum_by-append item_length (stroke_items s) (tombstone_items s) in
    let strokes = of_strokes (strokes_of s) in
    let tombstones = of_tombstones (tombstones_of s) in
    omega arith

-- a stroke has some bytes
one_at_least : (shape : Shape) → 1 ≤ byte_len_of shape
one_at_least (Runs runs) = omega arith
one_at_least (Disc x y r) = omega arith

pub as_many_bytes : (es : List (ℕ × Seed)) → length es ≤ strokes_length es
as_many_bytes [] = omega arith
as_many_bytes (e ∷ es) =
    let rest = as_many_bytes es in
    let here = one_at_least e.1.shape in
    let first = sum_by-cons (λ x. byte_len_of x.1.shape) e es in
    omega arith

-- ---- of the bytes

runs_text_length : (runs : List Run) → length (flat_map run_text runs) ≡ 6 * length runs
runs_text_length [] = refl
runs_text_length (run ∷ runs) =
    let rest = runs_text_length runs in
    omega (arith, length-append (run_text run) (flat_map run_text runs))

stroke_text_length : (entry : ℕ × Seed) → length (stroke_text Second entry) ≡ byte_len_of entry.1.shape
stroke_text_length (tag, seed) =
    elim seed.shape as (λ shape. length
    (stroke_text Second (tag, record { level = seed.level; shape = shape })) ≡ byte_len_of shape) [
      | Runs runs ↦ let rest = runs_text_length runs in omega arith
      | Disc x y r ↦ refl
    ]

strokes_text_length : (es : List (ℕ × Seed)) → length (flat_map (stroke_text Second) es) ≡ strokes_length es
strokes_text_length [] = refl
strokes_text_length (e ∷ es) =
    let here = stroke_text_length e in
    let rest = strokes_text_length es in
    length-append (stroke_text Second e) (flat_map (stroke_text Second) es)
    ∙ omega arith
    ∙ sym (sum_by-cons (λ x. byte_len_of x.1.shape) e es)

tags_text_length : (tags : List ℕ) → length (flat_map tag_text tags) ≡ 16 * length tags
tags_text_length [] = refl
tags_text_length (tag ∷ tags) =
    let rest = tags_text_length tags in
    omega (arith, length-append (tag_text tag) (flat_map tag_text tags))

-- the frame of a state has the state's length
pub frame_text_length : (conn : Conn) (print : List ℕ) (s : State) → length print ≡ 32
    → length (frame_text Second conn print s) ≡ frame_length s
unfolding frame_text
frame_text_length conn print s long =
    let strokes = strokes_text_length (strokes_of s) in
    let tombstones = tags_text_length (tombstones_of s) in
    let whole = frame_length_is s in
    simp length-append (omega arith)

-- ---- the parts of a frame

-- parts that are put one behind the other make a frame
pub frame_put : (conn : Conn) (print : List ℕ) (s : State) (strokes tombstones : ℕ) (out a b c d e : List ℕ)
    → strokes ≡ length (strokes_of s) → tombstones ≡ length (tombstones_of s)
    → a ≡ out ++ magic Second ++ conn_byte conn ∷ [] ++ print → b ≡ a ++ short strokes → c ≡ b ++ short tombstones
    → d ≡ c ++ flat_map (stroke_text Second) (strokes_of s) → e ≡ d ++ flat_map tag_text (tombstones_of s)
    → e ≡ out ++ frame_text Second conn print s
unfolding frame_text
frame_put conn print s strokes tombstones out a b c d e es et ea eb ec ed ee =
    rw (ee, ed, ec, eb, ea, es, et) (simp append_assoc)

-- a frame that is not too long, of what has a spelling, spells it
pub frame_spells : (conn : Conn) (print : List ℕ) (s : State) → length print ≡ 32 → frame_length s ≤ max_bytes
    → AllByRecursion (StrokeFits Second) (strokes_of s) → AllByRecursion (λ tag. tag < 2 ^ 128) (tombstones_of s)
    → Spells (frame_text Second conn print s) conn print s
frame_spells conn print s long within strokes tombstones = record {
  version = Second;
  text = refl;
  within = let is = frame_text_length conn print s long in omega arith;
  print_length = long;
  strokes = strokes;
  tombstones = tombstones;
}
