-- What a field reads is what stands there, and what stands there is read.
use Rattle.std.proofs.Common.{◌≡◌, ℕ, ◌+◌, ◌<◌, ◌≤◌, false, ltb, List, ◌++◌, length, get_or, take, drop, Option, Some}
use Rattle.std.proofs.Common.{Ok, Err, refl, sym, ap, subst, ◌∙◌, arith, inl, inr}
use Rattle.std.proofs.lemmas.Bool.{cases_lt, ltb-true, ltb-false, le-ltb, lt-ltb}
use Rattle.std.proofs.lemmas.List.{take_at, drop_at, take-append-drop, length-append, length-take, get_or-drop}
use Rattle.std.proofs.lemmas.List.{get_or-take, get_or_past}
use Rattle.spd_codec.specs.{declared.error.SpdError.SpdError, declared.error.SpdError.TheVariants.Truncated}
use Rattle.spd_codec.specs.Faults.{Field, Starts, StartsGood, FieldFault}
use Rattle.spd_codec.specs.Reading.{◌>>=◌, Read, taken_at, field_at, judged}
use Rattle.spd_codec.proofs.FaultKinds.{of_field, IsReal}
use Rattle.spd_codec.proofs.Steps.{bind_ok, bind_err, judged_ok, judged_err, guard_ok, guard_err}

-- each is below 256
abbrev pub IsBytes : List ℕ → Type 0
IsBytes bytes = (i : ℕ) → get_or bytes i 0 < 256

-- what is left of bytes are bytes
pub IsBytes-drop : (n : ℕ) (bytes : List ℕ) → IsBytes bytes → IsBytes (drop n bytes)
IsBytes-drop n bytes h i = rw get_or-drop (h (n + i))

-- the first of bytes are bytes
pub IsBytes-take : (n : ℕ) (bytes : List ℕ) → IsBytes bytes → IsBytes (take n bytes)
IsBytes-take n bytes h i =
    elim (cases_lt i n) [
      | inl lt ↦ rw (get_or-take n bytes i 0 lt) (h i)
      | inr le ↦ rw (get_or_past (take n bytes) i 0 (omega (arith, length-take n bytes))) (omega arith)
    ]

-- a reader answers what stands first, or the fault of what does
pub record Reads {X : Type 0} (read : List ℕ → Read X) (Begins : List ℕ → X → List ℕ → Type 0)
    (Fault : List ℕ → SpdError → Type 0) : Type 0 where
  pub ok : (text : List ℕ) (x : X) (rest : List ℕ) → IsBytes text → read text ≡ Ok (x, rest)
      → Begins text x rest × IsBytes rest
  pub err : (text : List ℕ) (e : SpdError) → IsBytes text → read text ≡ Err e → Fault text e
  pub again : (text : List ℕ) (x : X) (rest : List ℕ) → Begins text x rest → read text ≡ Ok (x, rest)
  pub fault : (text : List ℕ) (e : SpdError) → Fault text e → read text ≡ Err e
  pub real : (text : List ℕ) (e : SpdError) → Fault text e → IsReal e

-- the values of a field and their bytes are one to one, and each fault of a value is one that a field may have
pub record IsField {X : Type 0} (field : Field X) (value : List ℕ → X) : Type 0 where
  pub len : (x : X) → field.Fits x → length (field.spelled x) ≡ field.size
  pub back : (bytes : List ℕ) → length bytes ≡ field.size → IsBytes bytes → field.spelled (value bytes) ≡ bytes
  pub fits : (bytes : List ℕ) → length bytes ≡ field.size → IsBytes bytes → field.Fits (value bytes)
  pub again : (x : X) → field.Fits x → value (field.spelled x) ≡ x
  pub real : (x : X) (e : SpdError) → field.fault x ≡ Some e → IsReal e

-- what is taken stood there
taken_ok : {X : Type 0} (field : Field X) (value : List ℕ → X) → IsField field value
    → (text : List ℕ) (x : X) (rest : List ℕ)
    → IsBytes text → taken_at field.size value text ≡ Ok (x, rest) → Starts field text x rest × IsBytes rest
taken_ok {X} field value is text x rest bytes e =
    let size = field.size in
    let g = guard_ok (ltb (length text) size) Truncated (value (take size text), drop size text) (x, rest) e in
    let long : size ≤ length text = ltb-false _ _ g.0 in
    let len : length (take size text) ≡ size = omega (arith, length-take size text) in
    let front : field.spelled (value (take size text)) ≡ take size text =
    is.back (take size text) len (IsBytes-take size text bytes) in
    let parts : text ≡ field.spelled (value (take size text)) ++ drop size text =
    sym (ap (λ (t : List ℕ). t ++ drop size text) front ∙ take-append-drop size text) in
    subst (λ (y : X × List ℕ). Starts field text y.0 y.1 × IsBytes y.1) g.1
    ((is.fits (take size text) len (IsBytes-take size text bytes), parts), IsBytes-drop size text bytes)

-- what stands there is taken
taken_again : {X : Type 0} (field : Field X) (value : List ℕ → X) → IsField field value
    → (text : List ℕ) (x : X) (rest : List ℕ)
    → Starts field text x rest → taken_at field.size value text ≡ Ok (x, rest)
taken_again field value is text x rest h =
    let t = field.spelled x in
    let len : length t ≡ field.size = is.len x h.0 in
    let long : ltb (length (t ++ rest)) field.size ≡ false = le-ltb _ _ (omega (arith, length-append t rest)) in
    ap (taken_at field.size value) h.1
    ∙ rw (long, take_at t rest field.size len, drop_at t rest field.size len, is.again x h.0) refl

-- a field of a fixed size
pub reads_field : {X : Type 0} (field : Field X) (value : List ℕ → X) → IsField field value
    → Reads (field_at field value) (StartsGood field) (FieldFault field)
reads_field {X} field value is = record {
  ok = λ text x rest bytes e.
      let a = bind_ok (taken_at field.size value text) (λ y. judged (field.fault y.0) y) (x, rest) e in
      let t = taken_ok field value is text a.0.0 a.0.1 bytes a.1 in
      let j = judged_ok (field.fault a.0.0) a.0 (x, rest) a.2 in
      subst (λ (y : X × List ℕ). StartsGood field text y.0 y.1 × IsBytes y.1) j.1 ((t.0, j.0), t.1);
  err = λ text e bytes h.
      elim (bind_err (taken_at field.size value text) (λ y. judged (field.fault y.0) y) e h) [
        | inl g ↦ let short = guard_err (ltb (length text) field.size) Truncated e
            (value (take field.size text), drop field.size text) g in
            inl (ltb-true _ _ short.0, sym short.1)
        | inr a ↦ let t = taken_ok field value is text a.0.0 a.0.1 bytes a.1 in
            inr (a.0.0, a.0.1, t.0, judged_err (field.fault a.0.0) a.0 e a.2)
      ];
  again = λ text x rest h.
      ap (λ (r : Read X). r >>= λ y. judged (field.fault y.0) y) (taken_again field value is text x rest h.0)
      ∙ ap (λ (o : Option SpdError). judged o (x, rest)) h.1;
  fault = λ text e h.
      elim h [
        | inl short ↦ rw (lt-ltb _ _ short.0, short.1) refl
        | inr a ↦ ap (λ (r : Read X). r >>= λ y. judged (field.fault y.0) y)
            (taken_again field value is text a.0 a.1 a.2)
            ∙ ap (λ (o : Option SpdError). judged o (a.0, a.1)) a.3
      ];
  real = λ text e h. elim h [ inl short ↦ ap of_field short.1 | inr a ↦ is.real a.0 e a.3 ];
}
