-- A whole text: what reading finds is what the text spells, or its fault.
use Rattle.std.proofs.Common.{◌≡◌, ℕ, ◌<◌, ◌≤◌, true, false, eqb, List, [], ◌∷◌, ◌++◌, length, take, Result, Ok, Err}
use Rattle.std.proofs.Common.{refl, sym, ap, subst, ◌∙◌, ◌⊎◌, inl, inr, arith, IfOk, IfErr}
use Rattle.std.proofs.lemmas.List.{append-nil, length-take}
use Rattle.std.proofs.lemmas.Bool.{cond-true, cond-false, cases_Bool, eqb-true, eqb-false}
use Rattle.grid_core.specs.Raster.{max_level}
use Rattle.pgm_codec.specs.{declared.error.PgmError.PgmError, declared.grammar.Encoding.Encoding, Graymap.Graymap}
use Rattle.pgm_codec.specs.declared.error.PgmError.TheVariants.{BadMagic, BadHeader, Truncated, Memory, Device}
use Rattle.pgm_codec.specs.declared.grammar.Encoding.TheVariants.{Plain, Raw}
use Rattle.pgm_codec.specs.Spelling.{is_white, magic, StartsMagic, StartsGoodField, StartsHeader, PgmSpells}
use Rattle.pgm_codec.specs.Spelling.{width_fault, height_fault, maxval_fault}
use Rattle.pgm_codec.specs.FirstFault.{MagicFault, PgmFault, in_magic, in_width, in_height, in_maxval, in_raster}
use Rattle.pgm_codec.specs.Reading.{◌>>=◌, GivesOrMemory, good_field_at, letter_p, digit_two, digit_five, magic_at}
use Rattle.pgm_codec.specs.Reading.{magic_end, raster_at, image_at}
use Rattle.pgm_codec.proofs.FaultKinds.{fault_kind}
use Rattle.pgm_codec.proofs.Fields.{Found, good_read, good_fault_read, IsGoodField, good_found, width_capped}
use Rattle.pgm_codec.proofs.Fields.{height_capped, maxval_capped}
use Rattle.pgm_codec.proofs.Rasters.{raster_read, raster_fault_read, IsRaster, raster_found}

-- ---- the magic

-- the encoding and the text behind its magic, or a fault
abbrev Begun : Type 0
Begun = Result (Encoding × List ℕ) PgmError

magic_behind : (k : Encoding) (rest : List ℕ) → magic_at (magic k ++ rest) ≡ magic_end k rest
unfolding magic_at
magic_behind Plain rest = refl
magic_behind Raw rest = refl

-- the first two bytes of a text: one of the magics and what is behind it, or none
abbrev MagicCases : List ℕ → Type 0
MagicCases text =
    ((k : Encoding) × (rest : List ℕ) × (text ≡ magic k ++ rest))
    ⊎ (((k : Encoding) → take 2 text ≡ magic k → ⊥) × (magic_at text ≡ Err BadMagic))

other_first : (a b : ℕ) (rest : List ℕ) → eqb a letter_p ≡ false → (k : Encoding) → take 2 (a ∷ b ∷ rest) ≡ magic k → ⊥
other_first a b rest n Plain e = let p : a ≡ letter_p = cc in eqb-false a letter_p n p
other_first a b rest n Raw e = let p : a ≡ letter_p = cc in eqb-false a letter_p n p

other_second : (a b : ℕ) (rest : List ℕ) → eqb b digit_two ≡ false → eqb b digit_five ≡ false
    → (k : Encoding) → take 2 (a ∷ b ∷ rest) ≡ magic k → ⊥
other_second a b rest n m Plain e = let p : b ≡ digit_two = cc in eqb-false b digit_two n p
other_second a b rest n m Raw e = let p : b ≡ digit_five = cc in eqb-false b digit_five m p

too_few : (text : List ℕ) → length text < 2 → (k : Encoding) → take 2 text ≡ magic k → ⊥
too_few text lt Plain e = omega (arith, ap length e, length-take 2 text)
too_few text lt Raw e = omega (arith, ap length e, length-take 2 text)

magic_cases : (text : List ℕ) → MagicCases text
unfolding magic_at
magic_cases [] = inr (too_few [] (omega arith), refl)
magic_cases (a ∷ []) = inr (too_few (a ∷ []) (omega arith), refl)
magic_cases (a ∷ b ∷ rest) =
    elim (cases_Bool (eqb a letter_p)) [
      | inr n ↦ inr (other_first a b rest n, cond-false (eqb a letter_p) _ _ n)
      | inl y ↦ let p : a ≡ letter_p = eqb-true a letter_p y in elim (cases_Bool (eqb b digit_two)) [
        | inl z ↦ inl (Plain, rest, let q : b ≡ digit_two = eqb-true b digit_two z in cc)
        | inr n ↦ elim (cases_Bool (eqb b digit_five)) [
          | inl z ↦ inl (Raw, rest, let q : b ≡ digit_five = eqb-true b digit_five z in cc)
          | inr m ↦ inr (
            other_second a b rest n m,
            cond-true (eqb a letter_p) _ _ y ∙ cond-false (eqb b digit_two) _ _ n ∙ cond-false (eqb b digit_five) _ _ m,
          )
        ]
      ]
    ]

-- a magic that stands there is read
pub magic_read : (text : List ℕ) (k : Encoding) (rest : List ℕ) → StartsMagic text k rest → magic_at text ≡ Ok (k, rest)
unfolding magic_end
magic_read text k rest (b, e, w) = ap magic_at e ∙ magic_behind k (b ∷ rest) ∙ cond-true (is_white b) _ _ w

take_magic : (k : Encoding) (rest : List ℕ) → take 2 (magic k ++ rest) ≡ magic k
take_magic Plain rest = refl
take_magic Raw rest = refl

magic_wrong : (text : List ℕ) → ((k : Encoding) → take 2 text ≡ magic k → ⊥) → MagicCases text
    → magic_at text ≡ Err BadMagic
magic_wrong text h (inl (k, rest, e)) = absurd (h k (ap (take 2) e ∙ take_magic k rest))
magic_wrong text h (inr (none, e)) = e

-- a fault of the magic is answered
pub magic_fault_read : (text : List ℕ) (e : PgmError) → MagicFault text e → magic_at text ≡ Err e
unfolding magic_end
magic_fault_read text BadMagic h = magic_wrong text h (magic_cases text)
magic_fault_read text Truncated (k, h) = ap magic_at (h ∙ sym (append-nil (magic k))) ∙ magic_behind k []
magic_fault_read text BadHeader (k, b, rest, e, w) = ap magic_at e ∙ magic_behind k (b ∷ rest) ∙ cond-false
    (is_white b) _ _ w
magic_fault_read text _ h = absurd h

-- what reading a magic says of the text
abbrev pub IsMagic : List ℕ → Begun → Type 0
IsMagic text (Ok x) = StartsMagic text x.0 x.1
IsMagic text (Err e) = MagicFault text e

magic_fails : (text : List ℕ) (e : PgmError) → MagicFault text e → IsMagic text (magic_at text)
magic_fails text e h = subst (IsMagic text) (sym (magic_fault_read text e h)) h

magic_right : (text : List ℕ) (k : Encoding) (rest : List ℕ) → text ≡ magic k ++ rest → IsMagic text (magic_at text)
magic_right text k [] e = magic_fails text Truncated (k, e ∙ append-nil (magic k))
magic_right text k (b ∷ rest) e =
    elim (cases_Bool (is_white b)) [
      | inl w ↦ subst (IsMagic text) (sym (magic_read text k rest (b, e, w))) (b, e, w)
      | inr w ↦ magic_fails text BadHeader (k, b, rest, e, w)
    ]

magic_by : (text : List ℕ) → MagicCases text → IsMagic text (magic_at text)
magic_by text (inl (k, rest, e)) = magic_right text k rest e
magic_by text (inr (none, e)) = magic_fails text BadMagic none

-- what reading a magic says is so
pub magic_found : (text : List ℕ) → IsMagic text (magic_at text)
magic_found text = magic_by text (magic_cases text)

-- ---- the parts in turn

abbrev Answer : Type 0
Answer = Result Graymap PgmError

abbrev at_raster : Encoding → ℕ → ℕ → Found → Answer
at_raster k w h r = r >>= λ m. raster_at k w h m.0 m.1

abbrev at_maxval : Encoding → ℕ → Found → Answer
at_maxval k w r = r >>= λ h. at_raster k w h.0 (good_field_at maxval_fault h.1)

abbrev at_height : Encoding → Found → Answer
at_height k r = r >>= λ w. at_maxval k w.0 (good_field_at (height_fault w.0) w.1)

abbrev at_width : Begun → Answer
at_width r = r >>= λ a. at_height a.0 (good_field_at width_fault a.1)

image_parts : (text : List ℕ) → image_at text ≡ at_width (magic_at text)
unfolding image_at
image_parts text = refl

width_read : (text : List ℕ) (k : Encoding) (a : List ℕ) → StartsMagic text k a
    → image_at text ≡ at_height k (good_field_at width_fault a)
width_read text k a h = image_parts text ∙ ap at_width (magic_read text k a h)

height_read : (text : List ℕ) (k : Encoding) (a b : List ℕ) (w : ℕ) → StartsMagic text k a
    → StartsGoodField width_fault a w b
    → image_at text ≡ at_maxval k w (good_field_at (height_fault w) b)
height_read text k a b w ha hw = width_read text k a ha ∙ ap (at_height k) (good_read width_fault width_capped a w b hw)

maxval_read : (text : List ℕ) (k : Encoding) (a b c : List ℕ) (w h : ℕ) → StartsMagic text k a
    → StartsGoodField width_fault a w b → StartsGoodField (height_fault w) b h c
    → image_at text ≡ at_raster k w h (good_field_at maxval_fault c)
maxval_read text k a b c w h ha hw hh =
    height_read text k a b w ha hw ∙ ap (at_maxval k w) (good_read (height_fault w) (height_capped w) b h c hh)

header_read : (text : List ℕ) (k : Encoding) (rest : List ℕ) (w h m : ℕ) → StartsHeader text k w h m rest
    → image_at text ≡ raster_at k w h m rest
header_read text k rest w h m e =
    maxval_read text k e.after_magic e.after_width e.after_height w h e.magic_bytes e.width_field e.height_field
    ∙ ap (at_raster k w h) (good_read maxval_fault maxval_capped e.after_height m rest e.maxval_field)

maxval_small : (c rest : List ℕ) (m : ℕ) → StartsGoodField maxval_fault c m rest → m ≤ max_level
maxval_small c rest m e = maxval_capped.small m e.1

-- what a text spells is read
pub image_read : (text : List ℕ) (g : Graymap) → PgmSpells text g → image_at text ≡ Ok g
image_read text g e =
    let small = maxval_small e.header.after_height e.raster g.maxval e.header.maxval_field in
    header_read text e.encoding e.raster g.raster.width g.raster.height g.maxval e.header
    ∙ raster_read e.encoding g.maxval small g.raster.width g.raster.height e.raster g.raster.cells e.rest e.samples
    e.count e.ended

-- the fault of a text is answered
pub fault_read : (text : List ℕ) (e : PgmError) → PgmFault text e → image_at text ≡ Err e
fault_read text e (in_magic f) = image_parts text ∙ ap at_width (magic_fault_read text e f)
fault_read text e (in_width k a ha f) = width_read text k a ha
    ∙ ap (at_height k) (good_fault_read width_fault width_capped a e f)
fault_read text e (in_height k a b w ha hw f) =
    height_read text k a b w ha hw ∙ ap (at_maxval k w) (good_fault_read (height_fault w) (height_capped w) b e f)
fault_read text e (in_maxval k a b c w h ha hw hh f) =
    maxval_read text k a b c w h ha hw hh ∙ ap (at_raster k w h) (good_fault_read maxval_fault maxval_capped c e f)
fault_read text e (in_raster k rest w h m head f) =
    header_read text k rest w h m head
    ∙ raster_fault_read k m (maxval_small head.after_height rest m head.maxval_field) w h rest e f

-- what reading finds is what the text spells, or its fault
abbrev pub IsAnswer : List ℕ → Answer → Type 0
IsAnswer text (Ok g) = PgmSpells text g
IsAnswer text (Err e) = PgmFault text e

raster_answer : (text : List ℕ) (k : Encoding) (rest : List ℕ) (w h m : ℕ) (small : m ≤ max_level)
    → StartsHeader text k w h m rest
    → (r : Answer) → IsRaster k m small w h rest r → IsAnswer text r
raster_answer text k rest w h m small head (Ok g) (ss, behind, made, all, len, end) =
    subst (PgmSpells text) made
    (record { encoding = k; raster = rest; rest = behind; header = head; samples = all; count = len; ended = end })
raster_answer text k rest w h m small head (Err e) f = in_raster k rest w h m head f

maxval_answer : (text : List ℕ) (k : Encoding) (a b c : List ℕ) (w h : ℕ) → StartsMagic text k a
    → StartsGoodField width_fault a w b → StartsGoodField (height_fault w) b h c
    → (r : Found) → IsGoodField maxval_fault maxval_capped c r → IsAnswer text (at_raster k w h r)
maxval_answer text k a b c w h ha hw hh (Ok x) hm =
    let head : StartsHeader text k w h x.0 x.1 = record {
      after_magic = a;
      after_width = b;
      after_height = c;
      magic_bytes = ha;
      width_field = hw;
      height_field = hh;
      maxval_field = hm;
    } in
    let small = maxval_small c x.1 x.0 hm in
    raster_answer text k x.1 w h x.0 small head (raster_at k w h x.0 x.1) (raster_found k x.0 small w h x.1)
maxval_answer text k a b c w h ha hw hh (Err e) f = in_maxval k a b c w h ha hw hh f

height_answer : (text : List ℕ) (k : Encoding) (a b : List ℕ) (w : ℕ) → StartsMagic text k a
    → StartsGoodField width_fault a w b
    → (r : Found) → IsGoodField (height_fault w) (height_capped w) b r → IsAnswer text (at_maxval k w r)
height_answer text k a b w ha hw (Ok x) hh =
    maxval_answer text k a b x.1 w x.0 ha hw hh (good_field_at maxval_fault x.1)
    (good_found maxval_fault maxval_capped x.1)
height_answer text k a b w ha hw (Err e) f = in_height k a b w ha hw f

width_answer : (text : List ℕ) (k : Encoding) (a : List ℕ) → StartsMagic text k a
    → (r : Found) → IsGoodField width_fault width_capped a r → IsAnswer text (at_height k r)
width_answer text k a ha (Ok x) hw =
    height_answer text k a x.1 x.0 ha hw (good_field_at (height_fault x.0) x.1)
    (good_found (height_fault x.0) (height_capped x.0) x.1)
width_answer text k a ha (Err e) f = in_width k a ha f

magic_answer : (text : List ℕ) (r : Begun) → IsMagic text r → IsAnswer text (at_width r)
magic_answer text (Ok x) ha = width_answer text x.0 x.1 ha (good_field_at width_fault x.1)
    (good_found width_fault width_capped x.1)
magic_answer text (Err e) f = in_magic f

-- what reading says of a text is so
pub image_found : (text : List ℕ) → IsAnswer text (image_at text)
image_found text = subst (IsAnswer text) (sym (image_parts text)) (magic_answer text (magic_at text) (magic_found text))

-- ---- what a call answers

-- an image that is answered is spelled
pub read_found : (text : List ℕ) (r : Answer) → GivesOrMemory (λ g. g) r (image_at text)
    → IfOk r (λ g. PgmSpells text g)
read_found text (Ok g) h = subst (IsAnswer text) h (image_found text)
read_found text (Err e) h = tt

-- a fault that is answered is the text's
pub read_fails : (text : List ℕ) (r : Answer) → GivesOrMemory (λ g. g) r (image_at text)
    → IfErr r (λ e. (e ≡ Memory) ⊎ PgmFault text e)
read_fails text (Ok g) h = tt
read_fails text (Err e) (inl m) = inl m
read_fails text (Err e) (inr h) = inr (subst (IsAnswer text) h (image_found text))

-- no device's failure is answered
pub read_without_device : (text : List ℕ) (r : Answer) → GivesOrMemory (λ g. g) r (image_at text) → r ≡ Err Device → ⊥
read_without_device text (Ok g) h d = absurd cc
read_without_device text (Err e) (inl m) d = absurd cc
read_without_device text (Err e) (inr h) d =
    let e' : image_at text ≡ Err Device = cc in fault_kind text Device (subst (IsAnswer text) e' (image_found text))

-- an image that is spelled is answered
pub read_only : (text : List ℕ) (r : Answer) → GivesOrMemory (λ g. g) r (image_at text) → (g : Graymap)
    → PgmSpells text g
    → (r ≡ Ok g) ⊎ (r ≡ Err Memory)
read_only text (Ok g) h other s = let e : image_at text ≡ Ok other = image_read text other s in inl cc
read_only text (Err e) (inl m) other s = inr (ap (λ (c : PgmError). Err c) m)
read_only text (Err e) (inr h) other s = let d : image_at text ≡ Ok other = image_read text other s in absurd cc

-- a text has at most one fault
pub same_fault : (text : List ℕ) (a b : PgmError) → PgmFault text a → PgmFault text b → a ≡ b
same_fault text a b f g = let e : image_at text ≡ Err a = fault_read text a f in let d : image_at text ≡ Err b =
    fault_read text b g in cc

-- a text that spells an image has no fault
pub no_fault : (text : List ℕ) (g : Graymap) (e : PgmError) → PgmSpells text g → PgmFault text e → ⊥
no_fault text g e s f = let a : image_at text ≡ Ok g = image_read text g s in let b : image_at text ≡ Err e =
    fault_read text e f in cc

-- a text spells at most one image
pub same_image : (text : List ℕ) (a b : Graymap) → PgmSpells text a → PgmSpells text b → a ≡ b
same_image text a b s t = let e : image_at text ≡ Ok a = image_read text a s in let d : image_at text ≡ Ok b =
    image_read text b t in cc

-- an image or a fault
either_by : (text : List ℕ) (r : Answer) → IsAnswer text r → ((g : Graymap) × PgmSpells text g)
    ⊎ ((e : PgmError) × PgmFault text e)
either_by text (Ok g) h = inl (g, h)
either_by text (Err e) h = inr (e, h)

-- each text spells an image or has a fault
pub either : (text : List ℕ) → ((g : Graymap) × PgmSpells text g) ⊎ ((e : PgmError) × PgmFault text e)
either text = either_by text (image_at text) (image_found text)
