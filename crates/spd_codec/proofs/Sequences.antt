-- Parts that follow one another.
use Rattle.std.proofs.Common.{◌≡◌, ℕ, zero, suc, List, [], ◌∷◌, Option, Some, Ok, refl, sym, ap, subst, ◌∙◌, inl, inr}
use Rattle.std.proofs.Common.{arith, ◌++◌, append_assoc, flat_map}
use Rattle.std.specs.List.{AllByRecursion}
use Rattle.spd_codec.specs.{declared.error.SpdError.SpdError, Faults.FaultIn, Faults.StartsMany, Faults.ManyFault}
use Rattle.spd_codec.specs.{Faults.StartsEach, Reading.◌>>=◌, Reading.Read, Reading.many_at}
use Rattle.spd_codec.proofs.Steps.{bind_ok, bind_err, ok_is, done, no_error}
use Rattle.spd_codec.proofs.Fields.{IsBytes, Reads}

-- a part, and behind it another
abbrev pub Behind : {X Z : Type 0} → (List ℕ → X → List ℕ → Type 0) → (X → List ℕ → Z → List ℕ → Type 0)
    → List ℕ → Z → List ℕ → Type 0
Behind {X} Begins Next text z rest = (x : X) × (middle : List ℕ) × Begins text x middle × Next x middle z rest

-- a part, whose value is seen by a function
abbrev pub SeenBy : {X Z : Type 0} → (X → Z) → (List ℕ → X → List ℕ → Type 0) → List ℕ → Z → List ℕ → Type 0
SeenBy {X} f Begins text z rest = (x : X) × Begins text x rest × (f x ≡ z)

-- a reader of a part, and behind it one of another
pub reads_behind : {X Z : Type 0} {read : List ℕ → Read X} {next : X → List ℕ → Read Z} {Begins : List ℕ → X → List ℕ
    → Type 0}
    {Next : X → List ℕ → Z → List ℕ → Type 0} {Fault : List ℕ → SpdError → Type 0} {NextFault : X → List ℕ → SpdError
    → Type 0}
    → Reads read Begins Fault → ((x : X) → Reads (next x) (Next x) (NextFault x))
    → Reads (λ text. read text >>= λ x. next x.0 x.1) (Behind Begins Next) (FaultIn Fault Begins NextFault)
reads_behind {X} {Z} {read} {next} {Begins} {Next} {Fault} {NextFault} a b = record {
  ok = λ text z rest bytes e.
      let s = bind_ok (read text) (λ x. next x.0 x.1) (z, rest) e in
      let first = a.ok text s.0.0 s.0.1 bytes s.1 in
      let second = (b s.0.0).ok s.0.1 z rest first.1 s.2 in
      ((s.0.0, s.0.1, first.0, second.0), second.1);
  err = λ text e bytes h.
      elim (bind_err (read text) (λ x. next x.0 x.1) e h) [
        | inl g ↦ inl (a.err text e bytes g)
        | inr s ↦ let first = a.ok text s.0.0 s.0.1 bytes s.1 in
            inr (s.0.0, s.0.1, first.0, (b s.0.0).err s.0.1 e first.1 s.2)
      ];
  again = λ text z rest h.
      ap (λ (r : Read X). r >>= λ x. next x.0 x.1) (a.again text h.0 h.1 h.2) ∙ (b h.0).again h.1 z rest h.3;
  fault = λ text e h.
      elim h [
        | inl g ↦ ap (λ (r : Read X). r >>= λ x. next x.0 x.1) (a.fault text e g)
        | inr s ↦ ap (λ (r : Read X). r >>= λ x. next x.0 x.1) (a.again text s.0 s.1 s.2) ∙ (b s.0).fault s.1 e s.3
      ];
  real = λ text e h. elim h [ inl g ↦ a.real text e g | inr s ↦ (b s.0).real s.1 e s.3 ];
}

-- a reader whose value is seen by a function
pub reads_seen : {X Z : Type 0} (f : X → Z) {read : List ℕ → Read X} {Begins : List ℕ → X → List ℕ
    → Type 0} {Fault : List ℕ → SpdError → Type 0}
    → Reads read Begins Fault → Reads (λ text. read text >>= λ x. Ok (f x.0, x.1)) (SeenBy f Begins) Fault
reads_seen {X} {Z} f {read} {Begins} {Fault} a = record {
  ok = λ text z rest bytes e.
      let s = bind_ok (read text) (λ x. Ok (f x.0, x.1)) (z, rest) e in
      let first = a.ok text s.0.0 s.0.1 bytes s.1 in
      let is = ok_is (f s.0.0, s.0.1) (z, rest) s.2 in
      let value : f s.0.0 ≡ z = ap (λ (y : Z × List ℕ). y.0) is in
      let end : s.0.1 ≡ rest = ap (λ (y : Z × List ℕ). y.1) is in
      subst (λ (r : List ℕ). SeenBy f Begins text z r × IsBytes r) end ((s.0.0, first.0, value), first.1);
  err = λ text e bytes h.
      elim (bind_err (read text) (λ x. Ok (f x.0, x.1)) e h) [
        | inl g ↦ a.err text e bytes g
        | inr s ↦ absurd (no_error (f s.0.0, s.0.1) e s.2)
      ];
  again = λ text z rest h.
      ap (λ (r : Read X). r >>= λ x. Ok (f x.0, x.1)) (a.again text h.0 rest h.1) ∙ ap (λ (y : Z). done (y, rest)) h.2;
  fault = λ text e h. ap (λ (r : Read X). r >>= λ x. Ok (f x.0, x.1)) (a.fault text e h);
  real = a.real;
}

-- other words for what stands first
pub reads_as : {X : Type 0} {read : List ℕ → Read X} {Begins Other : List ℕ → X → List ℕ → Type 0} {Fault : List ℕ
    → SpdError → Type 0}
    → Reads read Begins Fault
    → ((text : List ℕ) (x : X) (rest : List ℕ) → Begins text x rest → Other text x rest)
    → ((text : List ℕ) (x : X) (rest : List ℕ) → Other text x rest → Begins text x rest) → Reads read Other Fault
reads_as a there back = record {
  ok = λ text x rest bytes e. let s = a.ok text x rest bytes e in (there text x rest s.0, s.1);
  err = a.err;
  again = λ text x rest h. a.again text x rest (back text x rest h);
  fault = a.fault;
  real = a.real;
}

-- nothing is read
pub reads_nothing : {Z : Type 0} (z : Z)
    → Reads (λ text. Ok (z, text)) (λ text y rest. (z ≡ y) × (text ≡ rest)) (λ text e. ⊥)
reads_nothing {Z} z = record {
  ok = λ text y rest bytes e.
      let is = ok_is (z, text) (y, rest) e in
      let end : text ≡ rest = ap (λ (p : Z × List ℕ). p.1) is in
      ((ap (λ (p : Z × List ℕ). p.0) is, end), subst IsBytes end bytes);
  err = λ text e bytes h. absurd (no_error (z, text) e h);
  again = λ text y rest h. λ i. done (h.0 i, h.1 i);
  fault = λ text e h. absurd h;
  real = λ text e h. absurd h;
}

-- the same reader, in other words
pub reads_same : {X : Type 0} {read other : List ℕ → Read X} {Begins : List ℕ → X → List ℕ → Type 0} {Fault : List ℕ
    → SpdError → Type 0}
    → ((text : List ℕ) → other text ≡ read text) → Reads read Begins Fault → Reads other Begins Fault
reads_same is a = record {
  ok = λ text x rest bytes e. a.ok text x rest bytes (sym (is text) ∙ e);
  err = λ text e bytes h. a.err text e bytes (sym (is text) ∙ h);
  again = λ text x rest h. is text ∙ a.again text x rest h;
  fault = λ text e h. is text ∙ a.fault text e h;
  real = a.real;
}

-- none was read
none_there : {X K : Type 0} (key : X → K) (Begins : Option K → List ℕ → X → List ℕ
    → Type 0) (before : Option K) (text : List ℕ) (xs : List X) (rest : List ℕ)
    → ([] ≡ xs) × (text ≡ rest) → StartsMany key Begins 0 before text xs rest
none_there key Begins before text [] rest h = (refl, h.1)
none_there key Begins before text (x ∷ xs) rest h = absurd cc

-- none stands there
none_back : {X K : Type 0} (key : X → K) (Begins : Option K → List ℕ → X → List ℕ
    → Type 0) (before : Option K) (text : List ℕ) (xs : List X) (rest : List ℕ)
    → StartsMany key Begins 0 before text xs rest → ([] ≡ xs) × (text ≡ rest)
none_back key Begins before text [] rest h = (refl, h.1)
none_back key Begins before text (x ∷ xs) rest h = absurd (omega (arith, h.0))

-- the first and the others were read
some_there : {X K : Type 0} (key : X → K) (Begins : Option K → List ℕ → X → List ℕ
    → Type 0) (count : ℕ) (before : Option K) (text : List ℕ) (zs : List X) (rest : List ℕ)
    → Behind (Begins before) (λ x. SeenBy (λ xs. x ∷ xs) (StartsMany key Begins count (Some (key x)))) text zs rest
    → StartsMany key Begins (suc count) before text zs rest
some_there {X} key Begins count before text zs rest h =
    let tail = h.3 in
    subst (λ (l : List X). StartsMany key Begins (suc count) before text l rest) tail.2
    (ap suc tail.1.0, (h.1, h.2, tail.1.1))

-- the first stands there, and the others behind it
some_back : {X K : Type 0} (key : X → K) (Begins : Option K → List ℕ → X → List ℕ
    → Type 0) (count : ℕ) (before : Option K) (text : List ℕ) (zs : List X) (rest : List ℕ)
    → StartsMany key Begins (suc count) before text zs rest
    → Behind (Begins before) (λ x. SeenBy (λ xs. x ∷ xs) (StartsMany key Begins count (Some (key x)))) text zs rest
some_back key Begins count before text [] rest h = absurd (omega (arith, h.0))
some_back key Begins count before text (x ∷ xs) rest h = (x, h.1.0, h.1.1, (xs, (omega (arith, h.0), h.1.2), refl))

-- so many, each judged by the one before it
pub reads_many : {X K : Type 0} (key : X → K) {one : Option K → List ℕ → Read X} {Begins : Option K → List ℕ → X
    → List ℕ → Type 0}
    {Fault : Option K → List ℕ → SpdError → Type 0}
    → ((before : Option K) → Reads (one before) (Begins before) (Fault before))
    → (count : ℕ) (before : Option K)
    → Reads (many_at key one count before) (StartsMany key Begins count before)
    (ManyFault key Begins Fault count before)
unfolding many_at
reads_many {X} {K} key {one} {Begins} {Fault} each zero before = reads_as (reads_nothing {Z = List X} [])
    (none_there key Begins before) (none_back key Begins before)
reads_many {X} {K} key {one} {Begins} {Fault} each (suc count) before = reads_as
    (reads_behind (each before) (λ x. reads_seen (λ xs. x ∷ xs) (reads_many key each count (Some (key x)))))
    (some_there key Begins count before) (some_back key Begins count before)

-- ---- texts of many

-- each follows the one before it
abbrev pub Follow : {X K : Type 0} → (X → K) → (Option K → X → Type 0) → Option K → List X → Type 0
Follow key Next before [] = Unit {0}
Follow key Next before (x ∷ xs) = Next before x × Follow key Next (Some (key x)) xs

module _ {X K : Type 0} (key : X → K) (Begins : Option K → List ℕ → X → List ℕ → Type 0) (spelled : X → List ℕ)
    (Fits : X → Type 0) (Next : Option K → X → Type 0) where
  -- what stands there is the text of these, each of which fits and follows the one before it
  pub record AreThere (before : Option K) (text : List ℕ) (xs : List X) (rest : List ℕ) : Type 0 where
    pub parts : text ≡ flat_map spelled xs ++ rest
    pub fit : AllByRecursion Fits xs
    pub follow : Follow key Next before xs

  -- those that were read
  pub each_there : ((before : Option K) (text : List ℕ) (x : X) (rest : List ℕ) → Begins before text x rest
      → (text ≡ spelled x ++ rest) × Fits x × Next before x)
      → (before : Option K) (text : List ℕ) (xs : List X) (rest : List ℕ) → StartsEach key Begins before text xs rest
      → AreThere before text xs rest
  each_there one before text [] rest h = record { parts = h; fit = tt; follow = tt }
  each_there one before text (x ∷ xs) rest h =
      let first = one before text x h.0 h.1 in
      let others = each_there one (Some (key x)) h.0 xs rest h.2 in
      record {
        parts = first.0 ∙ ap (λ (t : List ℕ). spelled x ++ t) others.parts
            ∙ sym (append_assoc (spelled x) (flat_map spelled xs) rest);
        fit = (first.1, others.fit);
        follow = (first.2, others.follow);
      }

  -- those that stand there
  pub each_back : ((before : Option K) (text : List ℕ) (x : X) (rest : List ℕ) → text ≡ spelled x ++ rest → Fits x
      → Next before x → Begins before text x rest)
      → (before : Option K) (xs : List X) (rest : List ℕ) → AllByRecursion Fits xs → Follow key Next before xs
      → StartsEach key Begins before (flat_map spelled xs ++ rest) xs rest
  each_back one before [] rest fit follow = refl
  each_back one before (x ∷ xs) rest fit follow = (
    flat_map spelled xs ++ rest,
    one before (flat_map spelled (x ∷ xs) ++ rest) x (flat_map spelled xs ++ rest)
        (append_assoc (spelled x) (flat_map spelled xs) rest) fit.0 follow.0,
    each_back one (Some (key x)) xs rest fit.1 follow.1,
  )
