-- Reading one after the other, as a loop does.
use Rattle.std.proofs.Common.{◌≡◌, ℕ, suc, ◌-◌, ◌+◌, ◌≤◌, ◌<◌, List, [], ◌∷◌, ◌++◌, Option, Some, Ok, Err, refl, sym}
use Rattle.std.proofs.Common.{ap, ◌∙◌, append_assoc, arith, inl, inr, ◌⊎◌}
use Rattle.std.proofs.lemmas.List.{append-nil}
use Rattle.spd_codec.specs.declared.error.SpdError.{SpdError}
use Rattle.spd_codec.specs.Reading.{◌>>=◌, Read, many_at, gathered, onto}
use Rattle.spd_codec.specs.declared.error.SpdError.TheVariants as errors

-- the list with one more at its end
abbrev pub push : {X : Type 0} → List X → X → List X
push xs x = xs ++ x ∷ []

-- a list with others pushed one by one has them at its end
gathered_list : {X : Type 0} (all xs : List X) → gathered push all xs ≡ all ++ xs
gathered_list all [] = sym (append-nil all)
gathered_list all (x ∷ xs) = gathered_list (all ++ x ∷ []) xs ∙ append_assoc all (x ∷ []) xs

-- to add what is read to no others leaves it as it is
pub onto_none : {X : Type 0} (read : Read (List X)) → onto push [] read ≡ read
onto_none (Ok xs) = ap (λ all. Ok (all, xs.1)) (gathered_list [] xs.0)
onto_none (Err e) = refl

-- what is read first is added first
regroup : {A X : Type 0} (put : A → X → A) (all : A) (x : X) (read : Read (List X))
    → onto put all (read >>= λ xs. Ok (x ∷ xs.0, xs.1)) ≡ onto put (put all x) read
regroup put all x (Ok xs) = refl
regroup put all x (Err e) = refl

-- one more is read
pub goes_on : {A X K : Type 0} (put : A → X → A) (key : X → K) (one : Option K → List ℕ → Read X) (all : A)
    (count i : ℕ) (last : Option K) (text : List ℕ) (x : X) (after : List ℕ) (total : Read A) → i < count
    → one last text ≡ Ok (x, after) → onto put all (many_at key one (count - i) last text) ≡ total
    → onto put (put all x) (many_at key one (count - (i + 1)) (Some (key x)) after) ≡ total
unfolding many_at
goes_on put key one all count i last text x after total lt h so_far =
    let k : count - i ≡ suc (count - (i + 1)) = omega arith in
    let step : onto put all (many_at key one (count - i) last text)
    ≡ onto put (put all x) (many_at key one (count - (i + 1)) (Some (key x)) after) =
    rw (k, h) (regroup put all x (many_at key one (count - (i + 1)) (Some (key x)) after)) in
    sym step ∙ so_far

-- the next is faulty
pub ends : {A X K : Type 0} (put : A → X → A) (key : X → K) (one : Option K → List ℕ → Read X) (all : A)
    (count i : ℕ) (last : Option K) (text : List ℕ) (e : SpdError) (total : Read A) → i < count
    → one last text ≡ Err e → onto put all (many_at key one (count - i) last text) ≡ total → total ≡ Err e
unfolding many_at
ends put key one all count i last text e total lt h so_far =
    let k : count - i ≡ suc (count - (i + 1)) = omega arith in
    let step : onto put all (many_at key one (count - i) last text) ≡ Err e = rw (k, h) refl in
    sym so_far ∙ step

-- none is left
pub is_done : {A X K : Type 0} (put : A → X → A) (key : X → K) (one : Option K → List ℕ → Read X) (all : A)
    (count i : ℕ) (last : Option K) (text : List ℕ) (total : Read A) → count ≤ i
    → onto put all (many_at key one (count - i) last text) ≡ total → total ≡ Ok (all, text)
unfolding many_at
is_done put key one all count i last text total le so_far =
    let k : count - i ≡ 0 = omega arith in
    let step : onto put all (many_at key one (count - i) last text) ≡ Ok (all, text) = rw k refl in
    sym so_far ∙ step

-- none was read yet
pub starts : {X K : Type 0} (key : X → K) (one : Option K → List ℕ
    → Read X) (count : ℕ) (last : Option K) (text : List ℕ)
    → onto push [] (many_at key one (count - 0) last text) ≡ many_at key one count last text
starts key one count last text =
    let z : count - 0 ≡ count = omega arith in
    ap (λ (n : ℕ). onto push [] (many_at key one n last text)) z ∙ onto_none (many_at key one count last text)

-- the next is faulty, unless memory ran out
pub ends_or_memory : {A X K : Type 0} (put : A → X → A) (key : X → K) (one : Option K → List ℕ → Read X) (all : A)
    (count i : ℕ) (last : Option K) (text : List ℕ) (e : SpdError) (total : Read A) → i < count
    → ((e ≡ errors.Memory) ⊎ (one last text ≡ Err e)) → onto put all (many_at key one (count - i) last text) ≡ total
    → (e ≡ errors.Memory) ⊎ (total ≡ Err e)
ends_or_memory put key one all count i last text e total lt (inl h) so_far = inl h
ends_or_memory put key one all count i last text e total lt (inr h) so_far =
    inr (ends put key one all count i last text e total lt h so_far)
