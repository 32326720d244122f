-- Lines that are put behind a text, one after another.
use Rattle.std.proofs.Common.{◌≡◌, ℕ, ◌+◌, ◌<◌, List, ◌++◌, length, get_or, take, ap, sym, ◌∙◌, flat_map}
use Rattle.std.proofs.{Math.Seq.take-length, lemmas.List.flat_map_more, lemmas.List.take_more}

pub line_more : {X : Type 0} (line : X → List ℕ) (xs : List X) (i : ℕ) (none : X) (before now after : List ℕ)
    → i < length xs → now ≡ before ++ flat_map line (take i xs) → after ≡ now ++ line (get_or xs i none)
    → after ≡ before ++ flat_map line (take (i + 1) xs)
line_more line xs i none before now after within so_far put =
    put
    ∙ ap (λ (text : List ℕ). text ++ line (get_or xs i none)) so_far
    ∙ flat_map_more line before (take i xs) (get_or xs i none)
    ∙ ap (λ ys. before ++ flat_map line ys) (sym (take_more xs i none within))

pub all_lines : {X : Type 0} (line : X → List ℕ) (xs : List X) (i : ℕ) (before now : List ℕ) → i ≡ length xs
    → now ≡ before ++ flat_map line (take i xs) → now ≡ before ++ flat_map line xs
all_lines line xs i before now all is =
    is ∙ ap (λ ys. before ++ flat_map line ys) (ap (λ n. take n xs) all ∙ take-length xs)
