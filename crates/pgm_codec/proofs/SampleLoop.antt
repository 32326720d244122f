-- Reading samples one after the other, as a loop does.
use Rattle.std.proofs.Common.{◌≡◌, ℕ, suc, ◌-◌, ◌+◌, ◌≤◌, ◌<◌, List, [], ◌∷◌, ◌++◌, Result, Ok, Err, refl, sym, ap, ◌∙◌}
use Rattle.std.proofs.Common.{append_assoc, arith}
use Rattle.std.proofs.lemmas.List.{append-nil}
use Rattle.pgm_codec.specs.{declared.error.PgmError.PgmError, declared.grammar.Encoding.Encoding}
use Rattle.pgm_codec.specs.Reading.{◌>>=◌, sample_at, samples_at}

-- the samples read, and the text behind them
abbrev pub Read : Type 0
Read = Result (List ℕ × List ℕ) PgmError

-- what was read before, and what is still read
abbrev pub with_front : List ℕ → Read → Read
with_front front read = read >>= λ x. Ok (front ++ x.0, x.1)

regroup : (front : List ℕ) (s : ℕ) (read : Read)
    → with_front front (read >>= λ x. Ok (s ∷ x.0, x.1)) ≡ with_front (front ++ s ∷ []) read
regroup front s (Ok x) = ap (λ (ss : List ℕ). Ok (ss, x.1)) (simp append_assoc)
regroup front s (Err e) = refl

-- one more sample was read: the whole answer stays as it was
pub goes_on : (k : Encoding) (m : ℕ) (front : List ℕ) (count i : ℕ) (text : List ℕ) (s : ℕ) (after : List ℕ)
    (total : Read) → i < count
    → sample_at k m text ≡ Ok (s, after)
    → with_front front (samples_at k m (count - i) text) ≡ total
    → with_front (front ++ s ∷ []) (samples_at k m (count - (i + 1)) after) ≡ total
unfolding samples_at
goes_on k m front count i text s after total lt h so_far =
    let n : count - i ≡ suc (count - (i + 1)) = omega arith in
    let one : with_front front (samples_at k m (count - i) text)
    ≡ with_front (front ++ s ∷ []) (samples_at k m (count - (i + 1)) after) =
    rw (n, h) (regroup front s (samples_at k m (count - (i + 1)) after)) in
    sym one ∙ so_far

-- a sample is faulty: its fault is the whole answer
pub fails : (k : Encoding) (m : ℕ) (e : PgmError) (front : List ℕ) (count i : ℕ) (text : List ℕ) (total : Read)
    → i < count
    → sample_at k m text ≡ Err e
    → with_front front (samples_at k m (count - i) text) ≡ total → total ≡ Err e
unfolding samples_at
fails k m e front count i text total lt h so_far =
    let n : count - i ≡ suc (count - (i + 1)) = omega arith in
    let one : with_front front (samples_at k m (count - i) text) ≡ Err e = rw (n, h) refl in
    sym so_far ∙ one

-- all samples were read: they are the whole answer
pub is_done : (k : Encoding) (m : ℕ) (front : List ℕ) (count i : ℕ) (text : List ℕ) (total : Read) → count ≤ i
    → with_front front (samples_at k m (count - i) text) ≡ total → total ≡ Ok (front, text)
unfolding samples_at
is_done k m front count i text total le so_far =
    let n : count - i ≡ 0 = omega arith in
    let one : with_front front (samples_at k m (count - i) text) ≡ Ok (front, text) = rw n
    (ap (λ (ss : List ℕ). Ok (ss, text)) (append-nil front)) in
    sym so_far ∙ one
