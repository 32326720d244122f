-- The lines of a text, read one after the other.
use Rattle.std.proofs.Common.{◌≡◌, ℕ, ◌+◌, List, [], ◌∷◌, ◌++◌, length, Option, Result, Ok, Err, refl, ap, ◌⊎◌, inl}
use Rattle.std.proofs.Common.{inr, subst, append_assoc, option_to_list}
use Rattle.std.proofs.lemmas.List.{append-nil, nil_from_length}
use Rattle.stroke_lattice.specs.State.{State}
use Rattle.edit_lang.specs.{declared.error.EditError.EditError, declared.error.EditError.TheVariants.Memory}
use Rattle.edit_lang.specs.{Lines.lines_of, Edit.LineMeans, Edit.LinesMean, Edit.IsFirstFault}
use Rattle.edit_lang.proofs.Cutting.{lines-nil}

-- what lines mean, behind the states that the lines before them mean
abbrev pub behind : List State → Result (List State) EditError → Result (List State) EditError
behind before (Ok deltas) = Ok (before ++ deltas)
behind before (Err e) = Err e

-- what the whole text means, where the lines that are left mean r, and those before them mean these states
abbrev pub IsRead : List ℕ → List State → ℕ → List ℕ → Type 0
IsRead text before n rest = (r : Result (List State) EditError) → LinesMean n (lines_of rest) r
    → LinesMean 1 (lines_of text) (behind before r)

behind_both : (before more : List State) (r : Result (List State) EditError)
    → behind (before ++ more) r ≡ behind before (behind more r)
behind_both before more (Ok deltas) = ap Ok (append_assoc before more deltas)
behind_both before more (Err e) = refl

one_line_more : (n : ℕ) (line : List ℕ) (lines : List (List ℕ)) (first : Option State) (r : Result (List State)
    EditError)
    → LineMeans n line (Ok first) → LinesMean (n + 1) lines r
    → LinesMean n (line ∷ lines) (behind (option_to_list first) r)
one_line_more n line lines first (Ok deltas) m h = (first, deltas, m, h, refl)
one_line_more n line lines first (Err e) m h = inr (first, m, h)

-- a line without a fault
pub reads_on : (text rest line after : List ℕ) (n : ℕ) (before : List State) (first : Option State)
    → lines_of rest ≡ line ∷ lines_of after
    → LineMeans n line (Ok first) → IsRead text before n rest
    → IsRead text (before ++ option_to_list first) (n + 1) after
reads_on text rest line after n before first e m h = λ r means.
    let longer : LinesMean n (lines_of rest) (behind (option_to_list first) r) =
    rw e (one_line_more n line (lines_of after) first r m means) in
    rw (behind_both before (option_to_list first) r) (h (behind (option_to_list first) r) longer)

-- a line with a fault, unless memory ran out
pub faults : (text rest line after : List ℕ) (n : ℕ) (before : List State) (fault : EditError)
    → lines_of rest ≡ line ∷ lines_of after
    → (fault ≡ Memory) ⊎ LineMeans n line (Err fault) → IsRead text before n rest
    → (fault ≡ Memory) ⊎ IsFirstFault text fault
faults text rest line after n before fault e (inl m) h = inl m
faults text rest line after n before fault e (inr m) h = inr (h (Err fault) (rw e (inl m)))

-- no line is left
pub reads_all : (text rest : List ℕ) (n : ℕ) (before : List State) → length rest ≡ 0 → IsRead text before n rest
    → LinesMean 1 (lines_of text) (Ok before)
reads_all text rest n before e h =
    let none : LinesMean n (lines_of rest) (Ok []) = rw (nil_from_length rest e, lines-nil) refl in
    subst (λ (deltas : List State). LinesMean 1 (lines_of text) (Ok deltas)) (append-nil before) (h (Ok []) none)
