-- Reading state files frame by frame.
use Rattle.std.proofs.Common.{◌≡◌, ℕ, zero, suc, ◌+◌, ◌-◌, ◌*◌, ◌/◌, ◌%◌, ◌<◌, ◌≤◌, ◌^◌, List, [], ◌∷◌, ◌++◌, length}
use Rattle.std.proofs.Common.{take, drop, slice_index, Fits, w8, refl, sym, ap, subst, ◌∙◌, ◌⊎◌, inl, inr, append_assoc}
use Rattle.std.proofs.Common.{arith, w16, Option, Some, None}
use Rattle.std.proofs.Math.Seq.{take-append_seam, drop-append_seam, take-length}
use Rattle.std.proofs.lemmas.List.{length-append, length-drop, length-take-le, append-nil, drop_all, take-append-drop}
use Rattle.std.proofs.{lemmas.Bool.cases_lt, lemmas.Nat.from_be_bytes-to_be_bytes_2}
use Rattle.std.specs.{Int.from_be_bytes, List.AllByRecursion}
use Rattle.grid_core.specs.declared.conn.Conn.{Conn}
use Rattle.stroke_lattice.specs.State.{State}
use Rattle.spd_codec.specs.{declared.error.SpdError.SpdError, declared.frame.Frame.Frame}
use Rattle.spd_codec.specs.{declared.version.Version.TheVariants.Second, Faults.IsFault}
use Rattle.spd_codec.specs.Spelling.{short, frame_text, max_bytes, Spells}
use Rattle.spd_codec.specs.StateFile.{with_length, file_text, frames_of, StartsFrame, SpellsFile, IsBodyFault, too_long}
use Rattle.spd_codec.specs.StateFile.{cut_short, in_frame, IsNextFault, in_length, behind_length, IsFileFault}
use Rattle.spd_codec.specs.declared.error.SpdError.TheVariants as errors

-- ---- lengths

-- bytes begin with one number of two bytes at most, and leave the same
short_once : (m n : ℕ) (xs ys : List ℕ) → m < 2 ^ 16 → n < 2 ^ 16 → short m ++ xs ≡ short n ++ ys → (m ≡ n) × (xs ≡ ys)
short_once m n xs ys small fits e = (
  sym (from_be_bytes-to_be_bytes_2 m small) ∙ ap (from_be_bytes w16) (ap (take 2) e)
      ∙ from_be_bytes-to_be_bytes_2 n fits,
  ap (drop 2) e,
)

-- a frame's length has two bytes
short_length : (bytes : List ℕ) (frame : Frame) (rest : List ℕ) (start : StartsFrame bytes frame rest)
    → length start.text < 2 ^ 16
short_length bytes frame rest start = let within = start.spells.within in omega arith

-- the bytes that are left behind a frame, as bytes behind its length
behind : (bytes : List ℕ) (frame : Frame) (rest : List ℕ) (start : StartsFrame bytes frame rest)
    → bytes ≡ short (length start.text) ++ (start.text ++ rest)
behind bytes frame rest start = start.parts ∙ append_assoc (short (length start.text)) start.text rest

not_empty : (frame : Frame) (rest : List ℕ) → StartsFrame [] frame rest → ⊥
not_empty frame rest start = let e = behind [] frame rest start in let n = ap length e in omega arith

two_bytes_of : (a b : ℕ) (rest : List ℕ) → a < 256 → b < 256 → a ∷ b ∷ rest ≡ short (a * 256 + b) ++ rest
two_bytes_of a b rest small lower =
    let high : a ≡ (a * 256 + b) / 256 % 256 = omega arith in
    let low : b ≡ (a * 256 + b) % 256 = omega arith in
    ap (λ (n : ℕ). n ∷ b ∷ rest) high ∙ ap (λ (n : ℕ). (a * 256 + b) / 256 % 256 ∷ n ∷ rest) low

pub two_bytes : (bytes : List ℕ) (long : ℕ) → 2 ≤ length bytes → ((i : ℕ) → Fits w8 (slice_index bytes i))
    → long ≡ slice_index bytes 0 * 256 + slice_index bytes 1 → bytes ≡ short long ++ drop 2 bytes
two_bytes [] long some small is = absurd (omega arith)
two_bytes (a ∷ []) long some small is = absurd (omega arith)
two_bytes (a ∷ b ∷ rest) long some small is =
    let low : a < 256 = omega (arith, small 0) in
    let lower : b < 256 = omega (arith, small 1) in
    two_bytes_of a b rest low lower ∙ ap (λ (n : ℕ). short n ++ rest) (sym is)

pub all_behind : (bytes : List ℕ) → take (length bytes - 2) (drop 2 bytes) ≡ drop 2 bytes
all_behind bytes = ap (λ n. take n (drop 2 bytes)) (sym (length-drop 2 bytes)) ∙ take-length (drop 2 bytes)

-- the bytes of that length, and what is left of the bytes
pub taken_behind : (bytes rest behind front back : List ℕ) (long : ℕ) → bytes ≡ short long ++ behind → rest ≡ behind
    → front ≡ take long rest → back ≡ drop long rest → length front ≡ long → bytes ≡ with_length front ++ back
taken_behind bytes rest behind front back long parts same taken left long_is =
    let joined : front ++ back ≡ behind = rw (taken, left) (take-append-drop long rest ∙ same) in
    parts ∙ ap (λ (text : List ℕ). short long ++ text) (sym joined)
    ∙ ap (λ (n : ℕ). short n ++ (front ++ back)) (sym long_is)

-- ---- joining

-- more bytes behind those that begin with a frame
pub more_behind : (bytes : List ℕ) (frame : Frame) (rest more : List ℕ) → StartsFrame bytes frame rest
    → StartsFrame (bytes ++ more) frame (rest ++ more)
more_behind bytes frame rest more start = record {
  text = start.text;
  spells = start.spells;
  parts = ap (λ (t : List ℕ). t ++ more) start.parts ∙ append_assoc (with_length start.text) rest more;
}

-- the bytes of frames, and behind them those of others
pub joined : (fs gs : List Frame) (a b : List ℕ) → SpellsFile a fs → SpellsFile b gs → SpellsFile (a ++ b) (fs ++ gs)
joined [] gs a b first second = subst (λ (t : List ℕ). SpellsFile (t ++ b) gs) (sym first) second
joined (f ∷ fs) gs a b (rest, start, others) second =
    (rest ++ b, more_behind a f rest b start, joined fs gs rest b others second)

-- ---- reading one frame after another

-- the frames are those of the bytes up to what is left
pub record IsRead (bytes : List ℕ) (frames : List Frame) (rest : List ℕ) : Type 0 where
  pub before : List ℕ
  pub read : SpellsFile before frames
  pub parts : bytes ≡ before ++ rest

pub none_read : (bytes : List ℕ) → IsRead bytes [] bytes
none_read bytes = record { before = []; read = refl; parts = refl }

pub one_more_read : (bytes : List ℕ) (frames : List Frame) (rest : List ℕ) (frame : Frame) (after : List ℕ)
    → StartsFrame rest frame after → IsRead bytes frames rest → IsRead bytes (frames ++ frame ∷ []) after
one_more_read bytes frames rest frame after start so_far =
    let one : StartsFrame (with_length start.text) frame [] = record {
      text = start.text;
      spells = start.spells;
      parts = sym (append-nil (with_length start.text));
    } in
    record {
      before = so_far.before ++ with_length start.text;
      read = joined frames (frame ∷ []) so_far.before (with_length start.text) so_far.read ([], one, refl);
      parts = so_far.parts ∙ ap (λ (t : List ℕ). so_far.before ++ t) start.parts
          ∙ sym (append_assoc so_far.before (with_length start.text) after);
    }

pub all_read : (bytes : List ℕ) (frames : List Frame) → IsRead bytes frames [] → SpellsFile bytes frames
all_read bytes frames so_far =
    subst (λ (t : List ℕ). SpellsFile t frames) (sym (so_far.parts ∙ append-nil so_far.before)) so_far.read

-- where something is left, there were bytes
pub some_bytes : (bytes : List ℕ) (frames : List Frame) (rest : List ℕ) → 0 < length rest → IsRead bytes frames rest
    → 0 < length bytes
some_bytes bytes frames rest left so_far =
    omega (arith, left, ap length so_far.parts, length-append so_far.before rest)

pub stopped : (bytes : List ℕ) (frames : List Frame) (rest : List ℕ) (e : SpdError) → IsNextFault rest e
    → IsRead bytes frames rest → IsFileFault bytes e
stopped bytes frames rest e fault so_far = record {
  frames = frames;
  before = so_far.before;
  rest = rest;
  read = so_far.read;
  parts = so_far.parts;
  fault = fault;
}

-- ---- what is written

pub written : (conn : Conn) (print : List ℕ) (pieces : List State)
    → AllByRecursion (λ piece. Spells (frame_text Second conn print piece) conn print piece) pieces
    → SpellsFile (file_text conn print pieces) (frames_of conn print pieces)
written conn print [] spell = refl
written conn print (piece ∷ pieces) spell = (
  file_text conn print pieces,
  record { text = frame_text Second conn print piece; spells = spell.0; parts = refl },
  written conn print pieces spell.1,
)

-- where nothing is left to write, all is written
pub all_written : (conn : Conn) (print : List ℕ) (pieces : List State) (done : ℕ) (out : List ℕ) → length pieces ≤ done
    → out ++ file_text conn print (drop done pieces) ≡ file_text conn print pieces
    → (AllByRecursion (λ piece. Spells (frame_text Second conn print piece) conn print piece) (drop done pieces)
    → AllByRecursion (λ piece. Spells (frame_text Second conn print piece) conn print piece) pieces)
    → SpellsFile out (frames_of conn print pieces)
all_written conn print pieces done out enough text spell =
    let none : drop done pieces ≡ [] = drop_all done pieces enough in
    let all : out ≡ file_text conn print pieces = sym (append-nil out)
    ∙ ap (λ (ps : List State). out ++ file_text conn print ps) (sym none) ∙ text in
    let each = spell (subst (AllByRecursion (λ piece. Spells (frame_text Second conn print piece) conn print piece))
    (sym none) tt) in
    subst (λ (t : List ℕ). SpellsFile t (frames_of conn print pieces)) (sym all) (written conn print pieces each)

-- ---- one file, or one fault

-- the bytes are those of frames, and behind them is the end, or a fault
abbrev Meets : List ℕ → List Frame → Option SpdError → Type 0
Meets bytes [] None = bytes ≡ []
Meets bytes [] (Some e) = IsNextFault bytes e
Meets bytes (f ∷ fs) end = (rest : List ℕ) × StartsFrame bytes f rest × Meets rest fs end

end_met : (fs : List Frame) (bytes : List ℕ) → SpellsFile bytes fs → Meets bytes fs None
end_met [] bytes read = read
end_met (f ∷ fs) bytes (rest, start, others) = (rest, start, end_met fs rest others)

fault_behind_frames : (fs : List Frame) (bytes before rest : List ℕ) (e : SpdError) → SpellsFile before fs
    → bytes ≡ before ++ rest → IsNextFault rest e → Meets bytes fs (Some e)
fault_behind_frames [] bytes before rest e read parts fault =
    subst (λ (t : List ℕ). IsNextFault t e) (sym (parts ∙ ap (λ (t : List ℕ). t ++ rest) read)) fault
fault_behind_frames (f ∷ fs) bytes before rest e (after, start, others) parts fault = (
  after ++ rest,
  subst (λ (t : List ℕ). StartsFrame t f (after ++ rest)) (sym parts) (more_behind before f after rest start),
  fault_behind_frames fs (after ++ rest) after rest e others refl fault,
)

fault_met : (bytes : List ℕ) (e : SpdError) (fault : IsFileFault bytes e) → Meets bytes fault.frames (Some e)
fault_met bytes e fault = fault_behind_frames fault.frames bytes fault.before fault.rest e fault.read fault.parts
    fault.fault

-- bytes spell at most one frame, and have at most one fault or spell a frame
module _ (one_frame : (text : List ℕ) (f g : Frame) → Spells text f.conn f.print f.delta
    → Spells text g.conn g.print g.delta → f ≡ g)
    (one_fault : (text : List ℕ) (d e : SpdError) → IsFault text d → IsFault text e → d ≡ e)
    (no_fault : (text : List ℕ) (f : Frame) (e : SpdError) → Spells text f.conn f.print f.delta → IsFault text e
    → ⊥) where
  -- bytes begin with one frame at most
  one_start : (bytes : List ℕ) (f g : Frame) (r q : List ℕ) → StartsFrame bytes f r → StartsFrame bytes g q
      → (f ≡ g) × (r ≡ q)
  one_start bytes f g r q a b =
      let lengths = short_once (length a.text) (length b.text) (a.text ++ r) (b.text ++ q) (short_length bytes f r a)
      (short_length bytes g q b) (sym (behind bytes f r a) ∙ behind bytes g q b) in
      let texts : a.text ≡ b.text =
      sym (take-append_seam a.text r) ∙ ap (take (length a.text)) lengths.1
      ∙ ap (λ n. take n (b.text ++ q)) lengths.0 ∙ take-append_seam b.text q in
      let rests : r ≡ q =
      sym (drop-append_seam a.text r) ∙ ap (drop (length a.text)) lengths.1
      ∙ ap (λ n. drop n (b.text ++ q)) lengths.0 ∙ drop-append_seam b.text q in
      (one_frame b.text f g (subst (λ (t : List ℕ). Spells t f.conn f.print f.delta) texts a.spells) b.spells, rests)

  -- and then they have no fault there
  no_next_fault : (bytes : List ℕ) (f : Frame) (r : List ℕ) (e : SpdError) → StartsFrame bytes f r → IsNextFault bytes e
      → ⊥
  no_next_fault bytes f r e start (in_length one is) =
      let n = ap length (behind bytes f r start) in omega arith
  no_next_fault bytes f r e start (behind_length long rest small parts body) =
      let lengths = short_once (length start.text) long (start.text ++ r) rest (short_length bytes f r start) small
      (sym (behind bytes f r start) ∙ parts) in
      let text : take long rest ≡ start.text =
      ap (take long) (sym lengths.1) ∙ ap (λ n. take n (start.text ++ r)) (sym lengths.0)
      ∙ take-append_seam start.text r in
      let within = start.spells.within in
      let room = ap length lengths.1 in
      elim body [
        | too_long much is ↦ omega arith
        | cut_short little short is ↦ omega (arith, length-append start.text r)
        | in_frame little enough fault ↦ no_fault start.text f e start.spells
            (subst (λ (t : List ℕ). IsFault t e) text fault)
      ]

  one_body_fault : (long : ℕ) (bytes : List ℕ) (d e : SpdError) → IsBodyFault long bytes d → IsBodyFault long bytes e
      → d ≡ e
  one_body_fault long bytes d e (too_long much is) (too_long much' also) = is ∙ sym also
  one_body_fault long bytes d e (too_long much is) (cut_short little short also) = absurd (omega arith)
  one_body_fault long bytes d e (too_long much is) (in_frame little enough fault) = absurd (omega arith)
  one_body_fault long bytes d e (cut_short little short is) (too_long much also) = absurd (omega arith)
  one_body_fault long bytes d e (cut_short little short is) (cut_short little' short' also) = is ∙ sym also
  one_body_fault long bytes d e (cut_short little short is) (in_frame little' enough fault) = absurd (omega arith)
  one_body_fault long bytes d e (in_frame little enough fault) (too_long much also) = absurd (omega arith)
  one_body_fault long bytes d e (in_frame little enough fault) (cut_short little' short also) = absurd (omega arith)
  one_body_fault long bytes d e (in_frame little enough fault) (in_frame little' enough' other) =
      one_fault (take long bytes) d e fault other

  one_next_fault : (bytes : List ℕ) (d e : SpdError) → IsNextFault bytes d → IsNextFault bytes e → d ≡ e
  one_next_fault bytes d e (in_length one is) (in_length one' also) = is ∙ sym also
  one_next_fault bytes d e (in_length one is) (behind_length long rest small parts body) =
      absurd (let n = ap length parts in omega arith)
  one_next_fault bytes d e (behind_length long rest small parts body) (in_length one also) =
      absurd (let n = ap length parts in omega arith)
  one_next_fault bytes d e (behind_length m xs small parts body) (behind_length n ys small' parts' other) =
      let same = short_once m n xs ys small small' (sym parts ∙ parts') in
      one_body_fault n ys d e (subst (λ (t : List ℕ). IsBodyFault n t d) same.1
      (subst (λ k. IsBodyFault k xs d) same.0 body)) other

  none_at_end : (e : SpdError) → IsNextFault [] e → ⊥
  none_at_end e (in_length one is) = omega arith
  none_at_end e (behind_length long rest small parts body) = let n = ap length parts in omega arith

  -- bytes meet frames, and an end or a fault, in one way
  once : (fs gs : List Frame) (bytes : List ℕ) (d e : Option SpdError) → Meets bytes fs d → Meets bytes gs e
      → (fs ≡ gs) × (d ≡ e)
  once [] [] bytes None None a b = (refl, refl)
  once [] [] bytes None (Some e) a b = absurd (none_at_end e (subst (λ (t : List ℕ). IsNextFault t e) a b))
  once [] [] bytes (Some d) None a b = absurd (none_at_end d (subst (λ (t : List ℕ). IsNextFault t d) b a))
  once [] [] bytes (Some d) (Some e) a b = (refl, ap (λ (x : SpdError). Some x) (one_next_fault bytes d e a b))
  once [] (g ∷ gs) bytes None e a (q, start, others) =
      absurd (not_empty g q (subst (λ (t : List ℕ). StartsFrame t g q) a start))
  once [] (g ∷ gs) bytes (Some d) e a (q, start, others) = absurd (no_next_fault bytes g q d start a)
  once (f ∷ fs) [] bytes d None (r, start, others) b =
      absurd (not_empty f r (subst (λ (t : List ℕ). StartsFrame t f r) b start))
  once (f ∷ fs) [] bytes d (Some e) (r, start, others) b = absurd (no_next_fault bytes f r e start b)
  once (f ∷ fs) (g ∷ gs) bytes d e (r, a, left) (q, b, right) =
      let same = one_start bytes f g r q a b in
      let rest = once fs gs q d e (subst (λ (t : List ℕ). Meets t fs d) same.1 left) right in
      ((λ i. same.0 i ∷ rest.0 i), rest.1)

  pub one_file : (fs gs : List Frame) (bytes : List ℕ) → SpellsFile bytes fs → SpellsFile bytes gs → fs ≡ gs
  one_file fs gs bytes a b = (once fs gs bytes None None (end_met fs bytes a) (end_met gs bytes b)).0

  pub no_file_fault : (bytes : List ℕ) (fs : List Frame) (e : SpdError) → SpellsFile bytes fs → IsFileFault bytes e → ⊥
  no_file_fault bytes fs e a fault =
      let same = (once fs fault.frames bytes None (Some e) (end_met fs bytes a) (fault_met bytes e fault)).1 in cc

  pub one_file_fault : (bytes : List ℕ) (d e : SpdError) → IsFileFault bytes d → IsFileFault bytes e → d ≡ e
  one_file_fault bytes d e a b =
      let same = (once a.frames b.frames bytes (Some d) (Some e) (fault_met bytes d a) (fault_met bytes e b)).1 in cc

-- want of memory is no fault of bytes
module _ (no_memory : (text : List ℕ) → IsFault text errors.Memory → ⊥) where
  not_of_body : (long : ℕ) (bytes : List ℕ) → IsBodyFault long bytes errors.Memory → ⊥
  not_of_body long bytes (too_long much is) = cc
  not_of_body long bytes (cut_short little short is) = cc
  not_of_body long bytes (in_frame little enough fault) = no_memory (take long bytes) fault

  not_of_next : (bytes : List ℕ) → IsNextFault bytes errors.Memory → ⊥
  not_of_next bytes (in_length one is) = cc
  not_of_next bytes (behind_length long rest small parts body) = not_of_body long rest body

  pub memory_is_no_file_fault : (bytes : List ℕ) → IsFileFault bytes errors.Memory → ⊥
  memory_is_no_file_fault bytes fault = not_of_next fault.rest fault.fault

-- ---- each file

all_take : (n : ℕ) (bytes : List ℕ) → AllByRecursion (λ b. b < 256) bytes → AllByRecursion (λ b. b < 256) (take n bytes)
all_take zero bytes all = tt
all_take (suc n) [] all = tt
all_take (suc n) (b ∷ bytes) all = (all.0, all_take n bytes all.1)

all_drop : (n : ℕ) (bytes : List ℕ) → AllByRecursion (λ b. b < 256) bytes → AllByRecursion (λ b. b < 256) (drop n bytes)
all_drop zero bytes all = all
all_drop (suc n) [] all = tt
all_drop (suc n) (b ∷ bytes) all = all_drop n bytes all.1

-- a fault at once, and one behind a frame
fault_at_once : (bytes : List ℕ) (e : SpdError) → IsNextFault bytes e → IsFileFault bytes e
fault_at_once bytes e fault = stopped bytes [] bytes e fault (none_read bytes)

fault_behind : (bytes : List ℕ) (f : Frame) (rest : List ℕ) (e : SpdError) → StartsFrame bytes f rest
    → IsFileFault rest e → IsFileFault bytes e
fault_behind bytes f rest e start fault = record {
  frames = f ∷ fault.frames;
  before = with_length start.text ++ fault.before;
  rest = fault.rest;
  read = (fault.before, record { text = start.text; spells = start.spells; parts = refl }, fault.read);
  parts = start.parts ∙ ap (λ (t : List ℕ). with_length start.text ++ t) fault.parts
      ∙ sym (append_assoc (with_length start.text) fault.before fault.rest);
  fault = fault.fault;
}

-- frames, or a fault
abbrev pub HasMeaning : List ℕ → Type 0
HasMeaning bytes = ((frames : List Frame) × SpellsFile bytes frames) ⊎ ((e : SpdError) × IsFileFault bytes e)

behind_frame : (bytes : List ℕ) (f : Frame) (rest : List ℕ) → StartsFrame bytes f rest → HasMeaning rest
    → HasMeaning bytes
behind_frame bytes f rest start meaning = elim meaning [
  | inl read ↦ inl (f ∷ read.0, (rest, start, read.1))
  | inr fault ↦ inr (fault.0, fault_behind bytes f rest fault.0 start fault.1)
]

-- bytes that spell a frame or have a fault
module _ (every_text : (text : List ℕ) → AllByRecursion (λ b. b < 256) text
    → ((f : Frame) × Spells text f.conn f.print f.delta) ⊎ ((e : SpdError) × IsFault text e)) where
  -- behind a length
  body : (bytes : List ℕ) (long : ℕ) (rest : List ℕ) → long < 2 ^ 16 → bytes ≡ short long ++ rest
      → AllByRecursion (λ b. b < 256) rest
      → (AllByRecursion (λ b. b < 256) (drop long rest) → HasMeaning (drop long rest))
      → HasMeaning bytes
  body bytes long rest small parts fit further =
      let faulty : (e : SpdError) → IsBodyFault long rest e → HasMeaning bytes =
      λ e fault. inr (e, fault_at_once bytes e (behind_length long rest small parts fault)) in
      elim (cases_lt max_bytes long) [
        | inl much ↦ faulty errors.TooLong (too_long much refl)
        | inr little ↦ elim (cases_lt (length rest) long) [
          | inl few ↦ faulty errors.Truncated (cut_short little few refl)
          | inr enough ↦ elim (every_text (take long rest) (all_take long rest fit)) [
            | inr fault ↦ faulty fault.0 (in_frame little enough fault.1)
            | inl read ↦
                let whole : take long rest ++ drop long rest ≡ rest = take-append-drop long rest in
                let count : length (take long rest) ≡ long = length-take-le long rest enough in
                behind_frame bytes read.0 (drop long rest) (record {
                  text = take long rest;
                  spells = read.1;
                  parts = parts ∙ ap (λ (n : ℕ). short n ++ rest) (sym count)
                      ∙ ap (λ (t : List ℕ). short (length (take long rest)) ++ t) (sym whole)
                      ∙ sym (append_assoc (short (length (take long rest))) (take long rest) (drop long rest));
                }) (further (all_drop long rest fit))
          ]
        ]
      ]

  each_within : (most : ℕ) (bytes : List ℕ) → length bytes ≤ most → AllByRecursion (λ b. b < 256) bytes
      → HasMeaning bytes
  each_within most [] within fit = inl ([], refl)
  each_within most (a ∷ []) within fit =
      inr (errors.Truncated, fault_at_once (a ∷ []) errors.Truncated (in_length refl refl))
  each_within zero (a ∷ b ∷ rest) within fit = absurd (omega arith)
  each_within (suc most) (a ∷ b ∷ rest) within fit =
      let long = a * 256 + b in
      let low = fit.0 in
      let lower = fit.1.0 in
      body (a ∷ b ∷ rest) long rest (omega arith)
      (two_bytes_of a b rest low lower)
      fit.1.1 (λ fits. each_within most (drop long rest) (omega (arith, length-drop long rest)) fits)

  pub every_file : (bytes : List ℕ) → AllByRecursion (λ b. b < 256) bytes → HasMeaning bytes
  every_file bytes fit = each_within (length bytes) bytes (omega arith) fit
