-- How many bytes what is written has.
use Rattle.std.proofs.Common.{◌≡◌, ℕ, ◌+◌, ◌/◌, ◌%◌, ◌^◌, ◌<◌, ◌≤◌, List, [], ◌∷◌, ◌++◌, length, decimal, refl, sym, ap}
use Rattle.std.proofs.Common.{◌∙◌, arith, length-append, flat_map, sum_by}
use Rattle.std.proofs.lemmas.Fmt.{decimal_digit, decimal_step, length-decimal-le}
use Rattle.std.proofs.lemmas.List.Sums.{sum_by-cons}
use Rattle.stroke_core.specs.{declared.run.Run.Run, Seed.Seed, Seed.Runs, Tag.text_of}
use Rattle.edit_lang.specs.{Lines.line_feed, Lines.blank, Shapes.comma}
use Rattle.edit_lang.specs.Writing.{run_text, shape_text, verb_of, placement_text}
use Rattle.edit_lang.proofs.Bytes.{tag_length}

-- ---- digits

pub one_digit : (n : ℕ) → n < 10 → length (decimal n) ≡ 1
one_digit n lt = ap length (decimal_digit n lt)

-- a number has one digit more than its tenth
pub next_digit : (n tenth : ℕ) → tenth ≡ n / 10 → 10 ≤ n → n < 2 ^ 64
    → length (decimal n) ≡ length (decimal tenth) + 1
next_digit n tenth e le lt =
    ap length (decimal_step n le lt) ∙ length-append (decimal (n / 10)) ((48 + n % 10) ∷ [])
    ∙ ap (λ (t : ℕ). length (decimal t) + 1) (sym e)

pub few_digits : (n : ℕ) → n ≤ 65535 → length (decimal n) ≤ 5
few_digits n le = length-decimal-le 5 n (omega arith) (omega arith) (omega arith)

-- ---- runs

-- a run with a byte behind it
abbrev pub run_room : Run → ℕ
run_room run = length (run_text run) + 1

runs_behind : (runs : List Run)
    → length (flat_map (λ run. (comma ∷ []) ++ run_text run) runs) ≡ sum_by run_room runs
runs_behind [] = refl
runs_behind (run ∷ runs) =
    omega (
      arith,
      length-append ((comma ∷ []) ++ run_text run) (flat_map (λ r. (comma ∷ []) ++ run_text r) runs),
      runs_behind runs,
      sum_by-cons run_room run runs,
    )

-- runs have a comma less than there are runs
pub runs_length : (runs : List Run) → 0 < length runs → length (shape_text (Runs runs)) + 1 ≡ sum_by run_room runs
runs_length [] some = absurd (omega arith)
runs_length (run ∷ runs) some =
    omega (
      arith,
      length-append (run_text run) (flat_map (λ r. (comma ∷ []) ++ run_text r) runs),
      runs_behind runs,
      sum_by-cons run_room run runs,
    )

-- ---- lines

-- a word, a tag, a level and a shape, with three blanks and LF
pub placement_length : (tag : ℕ) (seed : Seed)
    → length (placement_text tag seed)
    ≡ length (verb_of seed.shape) + 36 + length (decimal seed.level) + 4 + length (shape_text seed.shape)
unfolding placement_text
placement_length tag seed =
    let verb = verb_of seed.shape in
    let tag_text = text_of tag in
    let level = decimal seed.level in
    let shape = shape_text seed.shape in
    let last : List ℕ = blank ∷ (shape ++ []) in
    let third : List ℕ = blank ∷ (level ++ last) in
    let second : List ℕ = blank ∷ (tag_text ++ third) in
    omega (
      arith,
      length-append (verb ++ second) (line_feed ∷ []),
      length-append verb second,
      length-append tag_text third,
      length-append level last,
      length-append shape [],
      tag_length tag,
    )
