-- Runs, read one after the other.
use Rattle.std.proofs.Common.{◌≡◌, ℕ, eqb, List, [], ◌∷◌, ◌++◌, Option, Some, None, refl, ap, sym, ◌∙◌, append_assoc}
use Rattle.std.proofs.lemmas.List.Splits.{slice_split_none, slice_split_first}
use Rattle.stroke_core.specs.declared.run.Run.{Run}
use Rattle.edit_lang.specs.{Lines.cut_at, Numbers.◌>>=◌, Shapes.comma, Shapes.run_of, Shapes.runs_of, Shapes.each_run}
use Rattle.edit_lang.proofs.{Lists.all_fail, Cutting.cut_found, Cutting.cut_missed}

-- the runs read before, and those still to be read
abbrev pub with_front : List Run → Option (List Run) → Option (List Run)
with_front front read = read >>= λ more. Some (front ++ more)

cut_runs : (rest piece after : List ℕ) → Some (piece, after) ≡ cut_at comma rest
    → runs_of rest ≡ (run_of piece >>= λ first. runs_of after >>= λ others. Some (first ∷ others))
unfolding runs_of
cut_runs rest piece after e =
    let cut = cut_found comma rest piece after e in
    rw (cut.1, cut.2) (ap each_run (slice_split_first (λ b. eqb b comma) rest 0 cut.0))

last_run : (rest : List ℕ) → None ≡ cut_at comma rest → runs_of rest ≡ (run_of rest >>= λ first. Some (first ∷ []))
unfolding runs_of
last_run rest e = ap each_run (slice_split_none (λ b. eqb b comma) rest (all_fail (λ b. eqb b comma) rest (cut_missed
    comma rest e)))

regroup : (front : List Run) (run : Run) (read : Option (List Run))
    → with_front front (read >>= λ others. Some (run ∷ others)) ≡ with_front (front ++ run ∷ []) read
regroup front run (Some more) = ap Some (sym (append_assoc front (run ∷ []) more))
regroup front run None = refl

-- a run before a comma
pub goes_on : (front : List Run) (rest piece after : List ℕ) (run : Run)
    → Some (piece, after) ≡ cut_at comma rest → Some run ≡ run_of piece
    → with_front (front ++ run ∷ []) (runs_of after) ≡ with_front front (runs_of rest)
goes_on front rest piece after run e h =
    sym (ap (with_front front) (cut_runs rest piece after e) ∙ rw (← h) (regroup front run (runs_of after)))

-- something else before a comma
pub stops : (front : List Run) (rest piece after : List ℕ) → Some (piece, after) ≡ cut_at comma rest
    → None ≡ run_of piece → None ≡ with_front front (runs_of rest)
stops front rest piece after e h = sym (ap (with_front front) (cut_runs rest piece after e) ∙ rw (← h) refl)

-- the run after the last comma
pub ends : (front : List Run) (rest : List ℕ) (run : Run) → None ≡ cut_at comma rest → Some run ≡ run_of rest
    → Some (front ++ run ∷ []) ≡ with_front front (runs_of rest)
ends front rest run e h = sym (ap (with_front front) (last_run rest e) ∙ rw (← h) refl)

-- something else after the last comma
pub ends_wrong : (front : List Run) (rest : List ℕ) → None ≡ cut_at comma rest → None ≡ run_of rest
    → None ≡ with_front front (runs_of rest)
ends_wrong front rest e h = sym (ap (with_front front) (last_run rest e) ∙ rw (← h) refl)
