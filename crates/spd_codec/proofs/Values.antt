-- The fields of fixed size, each by its value.
use Rattle.std.proofs.Common.{◌≡◌, ◌⊎◌, ℕ, ◌^◌, ◌<◌, List, [], ◌∷◌, ◌++◌, length, take, drop, Bool, Option, None, Some}
use Rattle.std.proofs.Common.{Result, Ok, Err, refl, sym, ap, ◌∙◌, arith, inl, inr, ◌==◌, ◌||◌, append_assoc}
use Rattle.std.proofs.Common.{take-append-drop, length-take-le, drop-drop}
use Rattle.std.proofs.lemmas.List.{length-take, length-drop}
use Rattle.std.proofs.{lemmas.Bool.eqb-true, lemmas.Nat.be_bytes_2, lemmas.Nat.from_be_bytes-to_be_bytes_2}
use Rattle.uuid.proofs.OrderLemmas.{from_be_bytes-to_be_bytes_16}
use Rattle.grid_core.specs.declared.conn.Conn.{Conn}
use Rattle.grid_core.specs.declared.conn.Conn.TheVariants.{Four, Eight}
use Rattle.stroke_core.specs.declared.run.Run.{Run}
use Rattle.spd_codec.specs.{declared.error.SpdError.SpdError, declared.version.Version.Version}
use Rattle.spd_codec.specs.{declared.version.Kind.Kind}
use Rattle.spd_codec.specs.declared.version.Version.TheVariants.{First, Second}
use Rattle.spd_codec.specs.declared.error.SpdError.TheVariants.{BadMagic, BadConn, TagOrder, BadStroke}
use Rattle.stroke_core.specs.declared.error.StrokeError.TheVariants.{BadLevel, BadKind, RunOrder}
use Rattle.spd_codec.specs.Spelling.{short, run_text, magic, conn_byte}
use Rattle.spd_codec.specs.Faults.{unless, StartsGood, FieldFault, byte_field, short_field, number_field, tag_field}
use Rattle.spd_codec.specs.Faults.{print_field, run_field, level_field, conn_field, kind_field, magic_field}
use Rattle.spd_codec.specs.Faults.{version_field, StartsConn, StartsKind, KindFault, StartsMagic, MagicFault}
use Rattle.spd_codec.specs.Reading.{◌>>=◌, judged, taken_at, byte_value, short_value, run_value, short_at, tag_at}
use Rattle.spd_codec.specs.Reading.{print_at, level_at, run_at, conn_at, conn_of, kind_at, kind_of, magic_at}
use Rattle.spd_codec.specs.Reading.{version_of}
use Rattle.spd_codec.proofs.{SixteenBytes.be_bytes_16, SixteenBytes.below_16, RunLists.unless_none}
use Rattle.grid_core.proofs.Common.{either}
use Rattle.spd_codec.proofs.FaultKinds.{IsReal, unless_real}
use Rattle.spd_codec.proofs.Fields.{IsBytes, IsBytes-take, IsBytes-drop, IsField, Reads, reads_field}
use Rattle.spd_codec.proofs.Sequences.{Behind, SeenBy, reads_behind, reads_seen, reads_as, reads_same, reads_nothing}
use Rattle.spd_codec.specs.declared.version.Kind.TheVariants as kinds

-- a byte alone
one_byte : (bytes : List ℕ) → length bytes ≡ 1 → byte_value bytes ∷ [] ≡ bytes
one_byte [] l = absurd (omega arith)
one_byte (b ∷ []) l = refl
one_byte (b ∷ c ∷ bytes) l = absurd (omega arith)

-- a field of one byte
pub byte_is : (test : ℕ → Bool) (d : SpdError) → IsReal d → IsField (byte_field (λ b. unless (test b) d)) byte_value
byte_is test d real = record {
  len = λ b h. refl;
  back = λ bytes len small. one_byte bytes len;
  fits = λ bytes len small. tt;
  again = λ b h. refl;
  real = λ b e h. unless_real (test b) d e real h;
}

-- the number of two bytes
short_fits : (bytes : List ℕ) → IsBytes bytes → short_value bytes < 2 ^ 16
short_fits bytes small = omega (arith, small 0, small 1)

-- a field of two bytes
pub short_is : (wrong : ℕ → Option SpdError) → ((n : ℕ) (e : SpdError) → wrong n ≡ Some e → IsReal e)
    → IsField (short_field wrong) short_value
short_is wrong real = record {
  len = λ n h. refl;
  back = λ bytes len small. be_bytes_2 bytes _ len small refl;
  fits = λ bytes len small. short_fits bytes small;
  again = λ n lt. from_be_bytes-to_be_bytes_2 n lt;
  real = real;
}

-- the same where the number is tested
pub tested_is : (test : ℕ → Bool) (d : SpdError) → IsReal d → IsField (short_field (λ n. unless (test n) d)) short_value
tested_is test d real = short_is (λ n. unless (test n) d) (λ n e h. unless_real (test n) d e real h)

-- the fingerprint
print_is : IsField print_field (λ print. print)
print_is = record {
  len = λ print h. h;
  back = λ bytes len small. refl;
  fits = λ bytes len small. len;
  again = λ print h. refl;
  real = λ print e h. absurd cc;
}

-- the text of a run, from its bytes
run_back : (bytes : List ℕ) → length bytes ≡ 6 → IsBytes bytes → run_text (run_value bytes) ≡ bytes
run_back bytes len small =
    let rest = drop 2 bytes in
    let rest_small = IsBytes-drop 2 bytes small in
    let y = be_bytes_2 (take 2 bytes) _ (length-take-le 2 bytes (omega arith)) (IsBytes-take 2 bytes small) refl in
    let x0 = be_bytes_2 (take 2 rest) _ (omega (arith, length-take 2 rest, length-drop 2 bytes))
    (IsBytes-take 2 rest rest_small) refl in
    let x1 = be_bytes_2 (drop 4 bytes) _ (omega (arith, length-drop 4 bytes)) (IsBytes-drop 4 bytes small) refl in
    (λ i. y i ++ x0 i ++ x1 i) ∙ append_assoc (take 2 bytes) (take 2 rest) (drop 4 bytes)
    ∙ ap (λ (t : List ℕ). take 2 bytes ++ (take 2 rest ++ t)) (sym (drop-drop 2 2 bytes))
    ∙ ap (λ (t : List ℕ). take 2 bytes ++ t) (take-append-drop 2 rest) ∙ take-append-drop 2 bytes

-- a run
run_is : (before : Option Run) → IsField (run_field before) run_value
run_is before = record {
  len = λ run h. refl;
  back = run_back;
  fits = λ bytes len small. record {
    y = short_fits (take 2 bytes) (IsBytes-take 2 bytes small);
    x0 = short_fits (take 2 (drop 2 bytes)) (IsBytes-take 2 (drop 2 bytes) (IsBytes-drop 2 bytes small));
    x1 = short_fits (drop 4 bytes) (IsBytes-drop 4 bytes small);
  };
  again = λ run h.
      let y = from_be_bytes-to_be_bytes_2 run.y h.y in
      let x0 = from_be_bytes-to_be_bytes_2 run.x0 h.x0 in
      let x1 = from_be_bytes-to_be_bytes_2 run.x1 h.x1 in
      λ i. record { y = y i; x0 = x0 i; x1 = x1 i };
  real = λ run e h. unless_real _ (BadStroke RunOrder) e refl h;
}

-- to judge what nothing can be wrong with changes nothing
undone : {A : Type 0} (r : Result A SpdError) → r ≡ (r >>= λ x. judged None x)
undone (Ok x) = refl
undone (Err e) = refl

-- the reader of a number
pub reads_short : Reads short_at (StartsGood number_field) (FieldFault number_field)
unfolding short_at
reads_short = reads_same (λ text. undone (taken_at 2 short_value text))
    (reads_field number_field short_value (short_is (λ n. None) (λ n e h. absurd cc)))

-- that of a fingerprint
pub reads_print : Reads print_at (StartsGood print_field) (FieldFault print_field)
unfolding print_at
reads_print = reads_same (λ text. undone (taken_at 32 (λ print. print) text))
    (reads_field print_field (λ print. print) print_is)

-- that of a tag
pub reads_tag : (before : Option ℕ)
    → Reads (tag_at before) (StartsGood (tag_field before)) (FieldFault (tag_field before))
unfolding tag_at
reads_tag before = reads_field (tag_field before) _ (record {
  len = λ tag h. refl;
  back = λ bytes len small. be_bytes_16 bytes len small;
  fits = λ bytes len small. below_16 bytes small;
  again = λ tag lt. from_be_bytes-to_be_bytes_16 tag lt;
  real = λ tag e h. unless_real _ TagOrder e refl h;
})

-- that of a level
pub reads_level : Reads level_at (StartsGood level_field) (FieldFault level_field)
unfolding level_at
reads_level = reads_field level_field short_value (tested_is _ (BadStroke BadLevel) refl)

-- that of a run
pub reads_run : (before : Option Run)
    → Reads (run_at before) (StartsGood (run_field before)) (FieldFault (run_field before))
unfolding run_at
reads_run before = reads_field (run_field before) run_value (run_is before)

-- ---- bytes that say something

-- a byte that may be one of two
one_of_two : (b one other : ℕ) (e : SpdError) → unless ((b == one) || (b == other)) e ≡ None → (b ≡ one) ⊎ (b ≡ other)
one_of_two b one other e h = elim (either (b == one) (b == other) (unless_none _ e h))
    [ inl is ↦ inl (eqb-true b one is) | inr is ↦ inr (eqb-true b other is) ]

-- the byte says the connectivity
conn_there : (text : List ℕ) (conn : Conn) (rest : List ℕ) → SeenBy conn_of (StartsGood conn_field) text conn rest
    → StartsConn text conn rest
conn_there text conn rest h =
    let b = h.0 in
    let is : b ≡ conn_byte conn = elim (one_of_two b 4 8 _ h.1.1) [
      | inl four ↦ four ∙ ap conn_byte (sym (ap conn_of four) ∙ h.2)
      | inr eight ↦ eight ∙ ap conn_byte (sym (ap conn_of eight) ∙ h.2)
    ] in
    h.1.0.1 ∙ ap (λ (c : ℕ). c ∷ rest) is

-- and is its byte
conn_back : (text : List ℕ) (conn : Conn) (rest : List ℕ) → StartsConn text conn rest
    → SeenBy conn_of (StartsGood conn_field) text conn rest
conn_back text Four rest h = (4, ((tt, h), refl), refl)
conn_back text Eight rest h = (8, ((tt, h), refl), refl)

-- the reader of a connectivity
pub reads_conn : Reads conn_at StartsConn (FieldFault conn_field)
unfolding conn_at
reads_conn = reads_as (reads_seen conn_of (reads_field conn_field byte_value (byte_is _ BadConn refl))) conn_there
    conn_back

-- the byte is that of the kind
kind_says : (text : List ℕ) (b : ℕ) (kind : Kind) (rest : List ℕ) → text ≡ b ∷ rest → (b ≡ 0) ⊎ (b ≡ 1)
    → kind_of b ≡ kind
    → StartsKind Second text kind rest
kind_says text b kinds.Runs rest e (inl nought) h = e ∙ ap (λ (c : ℕ). c ∷ rest) nought
kind_says text b kinds.Runs rest e (inr one) h =
    absurd (let g : kinds.Disc ≡ kinds.Runs = sym (ap kind_of one) ∙ h in cc)
kind_says text b kinds.Disc rest e (inl nought) h =
    absurd (let g : kinds.Runs ≡ kinds.Disc = sym (ap kind_of nought) ∙ h in cc)
kind_says text b kinds.Disc rest e (inr one) h = e ∙ ap (λ (c : ℕ). c ∷ rest) one

-- the byte says the kind
kind_there : (text : List ℕ) (kind : Kind) (rest : List ℕ) → SeenBy kind_of (StartsGood kind_field) text kind rest
    → StartsKind Second text kind rest
kind_there text kind rest h =
    kind_says text h.0 kind rest h.1.0.1 (one_of_two h.0 0 1 _ h.1.1) h.2

-- and is its byte
kind_back : (text : List ℕ) (kind : Kind) (rest : List ℕ) → StartsKind Second text kind rest
    → SeenBy kind_of (StartsGood kind_field) text kind rest
kind_back text kinds.Runs rest h = (0, ((tt, h), refl), refl)
kind_back text kinds.Disc rest h = (1, ((tt, h), refl), refl)

-- the reader of a kind
pub reads_kind : (version : Version) → Reads (kind_at version) (StartsKind version) (KindFault version)
unfolding kind_at
reads_kind First = reads_as (reads_nothing kinds.Runs) (λ text kind rest h. (sym h.0, h.1))
    (λ text kind rest h. (sym h.0, h.1))
reads_kind Second = reads_as (reads_seen kind_of (reads_field kind_field byte_value
    (byte_is _ (BadStroke BadKind) refl))) kind_there kind_back

-- ---- the magic

-- the last letter is that of the version
version_says : (text : List ℕ) (b : ℕ) (version : Version) (rest : List ℕ) → text ≡ b ∷ rest → (b ≡ 49) ⊎ (b ≡ 50)
    → version_of b ≡ version → 83 ∷ 80 ∷ 68 ∷ text ≡ magic version ++ rest
version_says text b First rest e (inl one) h = ap (λ (t : List ℕ). 83 ∷ 80 ∷ 68 ∷ t) (e ∙ ap (λ (c : ℕ). c ∷ rest) one)
version_says text b First rest e (inr two) h = absurd (let g : Second ≡ First = sym (ap version_of two) ∙ h in cc)
version_says text b Second rest e (inl one) h = absurd (let g : First ≡ Second = sym (ap version_of one) ∙ h in cc)
version_says text b Second rest e (inr two) h = ap (λ (t : List ℕ). 83 ∷ 80 ∷ 68 ∷ t) (e ∙ ap (λ (c : ℕ). c ∷ rest) two)

-- the letters of the magic, one behind the other
abbrev StartsLetters : List ℕ → Version → List ℕ → Type 0
StartsLetters = Behind (StartsGood (magic_field 83))
    (λ s. Behind (StartsGood (magic_field 80))
    (λ p. Behind (StartsGood (magic_field 68)) (λ d. SeenBy version_of (StartsGood version_field))))

-- a letter of the magic
letter : (text : List ℕ) (l b : ℕ) (rest : List ℕ) → StartsGood (magic_field l) text b rest → text ≡ l ∷ rest
letter text l b rest h = h.0.1 ∙ ap (λ (c : ℕ). c ∷ rest) (eqb-true b l (unless_none _ _ h.1))

-- the letters are a magic
magic_there : (text : List ℕ) (version : Version) (rest : List ℕ) → StartsLetters text version rest
    → StartsMagic text version rest
magic_there text version rest h =
    let p = h.3 in
    let d = p.3 in
    let v = d.3 in
    let b = v.0 in
    let last = version_says d.1 b version rest v.1.0.1 (one_of_two b 49 50 _ v.1.1) v.2 in
    letter text 83 h.0 h.1 h.2
    ∙ ap (λ (t : List ℕ). 83 ∷ t) (letter h.1 80 p.0 p.1 p.2)
    ∙ ap (λ (t : List ℕ). 83 ∷ 80 ∷ t) (letter p.1 68 d.0 d.1 d.2)
    ∙ last

-- three letters and one of two
letters : (text : List ℕ) (v : ℕ) (rest : List ℕ) → text ≡ 83 ∷ 80 ∷ 68 ∷ v ∷ rest
    → unless ((v == 49) || (v == 50)) BadMagic ≡ None → StartsLetters text (version_of v) rest
letters text v rest h good =
    let last : SeenBy version_of (StartsGood version_field) (v ∷ rest) (version_of v) rest =
    (v, ((tt, refl), good), refl) in
    let d : StartsGood (magic_field 68) (68 ∷ v ∷ rest) 68 (v ∷ rest) = ((tt, refl), refl) in (
      83,
      80 ∷ 68 ∷ v ∷ rest,
      ((tt, h), refl),
      (80, 68 ∷ v ∷ rest, ((tt, refl), refl), (68, v ∷ rest, d, last)),
    )

-- a magic is its letters
magic_back : (text : List ℕ) (version : Version) (rest : List ℕ) → StartsMagic text version rest
    → StartsLetters text version rest
magic_back text First rest h = letters text 49 rest h refl
magic_back text Second rest h = letters text 50 rest h refl

-- the reader of a magic
pub reads_magic : Reads magic_at StartsMagic MagicFault
unfolding magic_at
reads_magic = reads_as (reads_behind (reads_field (magic_field 83) byte_value (byte_is _ BadMagic refl)) (λ s.
    reads_behind (reads_field (magic_field 80) byte_value (byte_is _ BadMagic refl)) (λ p.
    reads_behind (reads_field (magic_field 68) byte_value (byte_is _ BadMagic refl)) (λ d.
    reads_seen version_of (reads_field version_field byte_value (byte_is _ BadMagic refl)))))) magic_there magic_back
