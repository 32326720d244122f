-- The laws of frames: one reader answers each text.
use Rattle.std.proofs.Common.{◌≡◌, ◌⊎◌, ℕ, zero, suc, ◌^◌, ◌<◌, ◌≤◌, List, [], ◌∷◌, ◌++◌, length, Result, Ok, Err, refl}
use Rattle.std.proofs.Common.{true, false, sym, ap, ◌∙◌, append_assoc, arith, inl, inr, flat_map}
use Rattle.std.proofs.{lemmas.Bool.le-ltb, lemmas.Bool.lt-ltb, lemmas.List.append-nil, lemmas.List.length-append}
use Rattle.std.specs.List.{AllByRecursion}
use Rattle.stroke_core.specs.Seed.{Seed}
use Rattle.stroke_lattice.specs.Pieces.{strokes_of, tombstones_of}
use Rattle.spd_codec.specs.{declared.error.SpdError.SpdError, declared.frame.Frame.Frame}
use Rattle.spd_codec.specs.{declared.version.Version.Version, Reading.end_at, Reading.frame_at}
use Rattle.spd_codec.specs.Spelling.{magic, conn_byte, short, tag_text, stroke_text, frame_text, StrokeFits, Spells}
use Rattle.spd_codec.specs.Spelling.{max_bytes}
use Rattle.spd_codec.specs.Faults.{StartsFields, EndFault, FrameFault, IsFault, too_long, in_frame}
use Rattle.spd_codec.proofs.{Fields.IsBytes, Frames.reads_fields, Frames.found, Frames.refused, Steps.failed}
use Rattle.spd_codec.proofs.{Steps.ok_is, Steps.err_is, Steps.no_error}
use Rattle.spd_codec.proofs.FaultKinds.{of_field, IsReal}
use Rattle.spd_codec.specs.declared.error.SpdError.TheVariants as errors

-- each stroke has a byte, and so has each tombstone
as_many_strokes : (version : Version) (entries : List (ℕ × Seed))
    → length entries ≤ length (flat_map (stroke_text version) entries)
as_many_strokes version [] = omega arith
as_many_strokes version (entry ∷ entries) =
    let rest = as_many_strokes version entries in
    let both = length-append (stroke_text version entry) (flat_map (stroke_text version) entries) in
    let some : 1 ≤ length (stroke_text version entry) = omega arith in
    omega (arith, rest, both, some)

-- tombstones likewise
as_many_tags : (tags : List ℕ) → length tags ≤ length (flat_map tag_text tags)
as_many_tags [] = omega arith
as_many_tags (tag ∷ tags) =
    let rest = as_many_tags tags in
    let both = length-append (tag_text tag) (flat_map tag_text tags) in
    omega (arith, rest, both)

-- a frame is longer than its strokes and its tombstones
frame_is_longer : (front strokes tags : List ℕ)
    → (length strokes ≤ length (front ++ strokes ++ tags)) × (length tags ≤ length (front ++ strokes ++ tags))
frame_is_longer front strokes tags =
    let a = length-append (front ++ strokes) tags in
    let b = length-append front strokes in
    (omega (arith, a, b), omega (arith, a, b))

-- what spells a frame begins with its fields, and nothing follows
pub fields_of_spelled : (bytes : List ℕ) (frame : Frame) → Spells bytes frame.conn frame.print frame.delta
    → StartsFields bytes frame []
unfolding frame_text
fields_of_spelled bytes frame h =
    let version = h.version in
    let entries = strokes_of frame.delta in
    let tags = tombstones_of frame.delta in
    let front = magic version ++ conn_byte frame.conn ∷ [] ++ frame.print ++ short (length entries) ++ short
    (length tags) in
    let long = frame_is_longer front (flat_map (stroke_text version) entries) (flat_map tag_text tags) in
    let len : length bytes ≡ length (front ++ flat_map (stroke_text version) entries ++ flat_map tag_text tags) =
    ap length h.text in
    let within = h.within in
    let strokes = as_many_strokes version entries in
    let tombstones = as_many_tags tags in
    record {
      version = version;
      parts = h.text ∙ sym (append-nil (frame_text version frame.conn frame.print frame.delta));
      print_length = h.print_length;
      stroke_count = omega (arith, long.0, len, within, strokes);
      tombstone_count = omega (arith, long.1, len, within, tombstones);
      strokes = h.strokes;
      tombstones = h.tombstones;
    }

-- what spells a frame is read
pub again : (bytes : List ℕ) (frame : Frame) → Spells bytes frame.conn frame.print frame.delta
    → frame_at bytes ≡ Ok frame
unfolding frame_at end_at
again bytes frame h =
    let read = reads_fields.again bytes frame [] (fields_of_spelled bytes frame h) in
    rw (le-ltb max_bytes (length bytes) h.within, read) refl

-- something where the end should be is refused
end_fails : (text : List ℕ) (e : SpdError) → EndFault text e → end_at text ≡ Err e
unfolding end_at
end_fails text e h = ap end_at h.2 ∙ ap (λ (d : SpdError). failed {A = Unit {0}} d) (sym h.3)

-- what has a fault is refused with it
pub fault_is : (bytes : List ℕ) (e : SpdError) → IsFault bytes e → frame_at bytes ≡ Err e
unfolding frame_at
fault_is bytes e (too_long long is) = rw (lt-ltb max_bytes (length bytes) long, is) refl
fault_is bytes e (in_frame within (inl h)) =
    rw (le-ltb max_bytes (length bytes) within, reads_fields.fault bytes e h) refl
fault_is bytes e (in_frame within (inr h)) =
    rw (le-ltb max_bytes (length bytes) within, reads_fields.again bytes h.0 h.1 h.2, end_fails h.1 e h.3) refl

-- ---- laws

-- equal faults
failed_is : (a b : SpdError) → failed {A = Frame} a ≡ failed b → a ≡ b
failed_is a b e = err_is {A = Frame} a b e

-- bytes spell one frame
pub one_frame : (bytes : List ℕ) (a b : Frame) → Spells bytes a.conn a.print a.delta
    → Spells bytes b.conn b.print b.delta → a ≡ b
one_frame bytes a b h g = ok_is a b (sym (again bytes a h) ∙ again bytes b g)

-- they have one fault
pub first_fault : (bytes : List ℕ) (a b : SpdError) → IsFault bytes a → IsFault bytes b → a ≡ b
first_fault bytes a b h g = failed_is a b (sym (fault_is bytes a h) ∙ fault_is bytes b g)

-- and none where they spell a frame
pub no_fault : (bytes : List ℕ) (frame : Frame) (e : SpdError) → Spells bytes frame.conn frame.print frame.delta
    → IsFault bytes e → ⊥
no_fault bytes frame e h g = no_error frame e (sym (again bytes frame h) ∙ fault_is bytes e g)

-- the fault of a frame that is not too long is that of a field, or of the end
frame_real : (bytes : List ℕ) (e : SpdError) → FrameFault bytes e → IsReal e
frame_real bytes e (inl h) = reads_fields.real bytes e h
frame_real bytes e (inr h) = ap of_field h.3.3

-- want of memory is no fault
pub no_memory : (bytes : List ℕ) → IsFault bytes errors.Memory → ⊥
no_memory bytes (too_long long is) = absurd cc
no_memory bytes (in_frame within h) = let no : false ≡ true = frame_real bytes errors.Memory h in absurd cc

-- too great a length is the fault of bytes that are too many
pub too_many : (bytes : List ℕ) → IsFault bytes errors.TooLong → max_bytes < length bytes
too_many bytes (too_long long is) = long
too_many bytes (in_frame within h) = let no : false ≡ true = frame_real bytes errors.TooLong h in absurd cc

-- what the reader answers, by cases
answered : (bytes : List ℕ) (read : Result Frame SpdError) → frame_at bytes ≡ read → IsBytes bytes
    → ((frame : Frame) × Spells bytes frame.conn frame.print frame.delta) ⊎ ((e : SpdError) × IsFault bytes e)
answered bytes (Ok frame) is small = inl (frame, found bytes frame small is)
answered bytes (Err e) is small = inr (e, refused bytes e small is)

-- they spell a frame or have a fault
pub every : (bytes : List ℕ) → IsBytes bytes
    → ((frame : Frame) × Spells bytes frame.conn frame.print frame.delta) ⊎ ((e : SpdError) × IsFault bytes e)
every bytes small = answered bytes (frame_at bytes) refl small

-- bytes may follow what stands first
fields_and_more : (bytes more : List ℕ) (frame : Frame) (rest : List ℕ) → StartsFields bytes frame rest
    → StartsFields (bytes ++ more) frame (rest ++ more)
fields_and_more bytes more frame rest h = record {
  version = h.version;
  parts = ap (λ (t : List ℕ). t ++ more) h.parts
      ∙ append_assoc (frame_text h.version frame.conn frame.print frame.delta) rest more;
  print_length = h.print_length;
  stroke_count = h.stroke_count;
  tombstone_count = h.tombstone_count;
  strokes = h.strokes;
  tombstones = h.tombstones;
}

-- no spelling begins another
pub none_begins : (bytes more : List ℕ) (a b : Frame) → Spells bytes a.conn a.print a.delta
    → Spells (bytes ++ more) b.conn b.print b.delta
    → (more ≡ []) × (a ≡ b)
none_begins bytes more a b h g =
    let one = reads_fields.again (bytes ++ more) a more (fields_and_more bytes more a [] (fields_of_spelled bytes a h))
    in
    let two = reads_fields.again (bytes ++ more) b [] (fields_of_spelled (bytes ++ more) b g) in
    let is = ok_is (a, more) (b, []) (sym one ∙ two) in
    (ap (λ (p : Frame × List ℕ). p.1) is, ap (λ (p : Frame × List ℕ). p.0) is)

-- a frame has one text in a version
pub one_text : (a b : List ℕ) (frame : Frame) (h : Spells a frame.conn frame.print frame.delta)
    (g : Spells b frame.conn frame.print frame.delta)
    → h.version ≡ g.version → a ≡ b
one_text a b frame h g e = h.text ∙ ap (λ (v : Version). frame_text v frame.conn frame.print frame.delta) e ∙ sym g.text

-- bytes, each by its place
pub bytes_from_each : (bytes : List ℕ) → AllByRecursion (λ b. b < 256) bytes → IsBytes bytes
bytes_from_each [] all i = omega arith
bytes_from_each (b ∷ bytes) all zero = all.0
bytes_from_each (b ∷ bytes) all (suc i) = bytes_from_each bytes all.1 i

-- the text of a frame spells it
pub spelled : (version : Version) (f : Frame) → length (frame_text version f.conn f.print f.delta) ≤ max_bytes
    → length f.print ≡ 32 → AllByRecursion (StrokeFits version) (strokes_of f.delta)
    → AllByRecursion (λ tag. tag < 2 ^ 128) (tombstones_of f.delta)
    → Spells (frame_text version f.conn f.print f.delta) f.conn f.print f.delta
spelled version f within len strokes tombstones = record {
  version = version;
  text = refl;
  within = within;
  print_length = len;
  strokes = strokes;
  tombstones = tombstones;
}
