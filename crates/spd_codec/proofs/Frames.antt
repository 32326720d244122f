-- The reader of frames.
use Rattle.std.proofs.Common.{◌≡◌, ◌⊎◌, ℕ, ◌^◌, ◌<◌, Bool, true, false, cond, ltb, List, [], ◌∷◌, ◌++◌, length, Option}
use Rattle.std.proofs.Common.{None, Result, Ok, Err, refl, sym, ap, subst, ◌∙◌, append_assoc, inl, inr, flat_map}
use Rattle.std.proofs.{lemmas.Bool.ltb-true, lemmas.Bool.ltb-false, lemmas.List.append-nil}
use Rattle.std.specs.List.{AllByRecursion}
use Rattle.grid_core.specs.declared.conn.Conn.{Conn}
use Rattle.stroke_core.specs.Seed.{Seed}
use Rattle.stroke_lattice.specs.{State.State, State.nothing, Pieces.strokes_of, Pieces.tombstones_of}
use Rattle.spd_codec.specs.{declared.error.SpdError.SpdError, declared.frame.Frame.Frame}
use Rattle.spd_codec.specs.{declared.version.Version.Version}
use Rattle.spd_codec.specs.Spelling.{magic, conn_byte, short, tag_text, stroke_text, frame_of, frame_text, StrokeFits}
use Rattle.spd_codec.specs.Spelling.{Spells, max_bytes}
use Rattle.spd_codec.specs.Faults.{is_above, StartsGood, StartsStroke, StartsStrokes, StrokesFault, StartsTombstones}
use Rattle.spd_codec.specs.Faults.{TombstonesFault, DeltaFault, FieldsFault, StartsMagic, StartsConn, StartsFields}
use Rattle.spd_codec.specs.Faults.{EndFault, IsFault, too_long, in_frame, tag_field, number_field, print_field}
use Rattle.spd_codec.specs.Reading.{◌>>=◌, Read, onto, with_stroke, with_tombstone, strokes_at, tombstones_at, delta_at}
use Rattle.spd_codec.specs.Reading.{fields_at, end_at, frame_at}
use Rattle.spd_codec.proofs.{Fields.IsBytes, Fields.Reads, RunLists.unless_none, RunLists.unless_from}
use Rattle.spd_codec.proofs.{StrokeParts.reads_stroke}
use Rattle.spd_codec.proofs.Steps.{bind_ok, bind_err, ok_is, err_is, done, no_error}
use Rattle.spd_codec.proofs.Sequences.{each_there, each_back, Behind, SeenBy, reads_behind, reads_seen, reads_as}
use Rattle.spd_codec.proofs.Sequences.{reads_same, reads_many}
use Rattle.spd_codec.proofs.Values.{reads_short, reads_print, reads_tag, reads_conn, reads_magic}
use Rattle.spd_codec.proofs.RisingTags.{Rise, key, state_of, strokes_made, tombstones_made, strokes_rise}
use Rattle.spd_codec.proofs.RisingTags.{tombstones_rise, state_made}
use Rattle.spd_codec.specs.declared.error.SpdError.TheVariants as errors

-- ---- strokes and tombstones

-- a tag stands first
abbrev StartsTag : Option ℕ → List ℕ → ℕ → List ℕ → Type 0
StartsTag before = StartsGood (tag_field before)

-- it is above the one before it
abbrev TagIsAbove : Option ℕ → ℕ → Type 0
TagIsAbove before tag = is_above before tag ≡ true

-- and so is that of a stroke
abbrev EntryIsAbove : Option ℕ → ℕ × Seed → Type 0
EntryIsAbove before entry = TagIsAbove before entry.0

-- the reader of strokes
reads_strokes : (version : Version) (count : ℕ)
    → Reads (strokes_at version count) (StartsStrokes version count) (StrokesFault version count)
reads_strokes version count = reads_many (λ entry. entry.0) (reads_stroke version) count None

-- that of tombstones
reads_tombstones : (count : ℕ) → Reads (tombstones_at count) (StartsTombstones count) (TombstonesFault count)
reads_tombstones count = reads_many (λ tag. tag) reads_tag count None

-- strokes and tombstones, added to no others
delta_is : (count : ℕ) (read : Read (List (ℕ × Seed)))
    → (onto with_stroke nothing read >>= λ s. onto with_tombstone s.0 (tombstones_at count s.1))
    ≡ (read >>= λ entries. tombstones_at count entries.1 >>= λ tags. Ok (state_of entries.0 tags.0, tags.1))
delta_is count (Ok entries) = refl
delta_is count (Err e) = refl

-- strokes and tombstones stand first
abbrev StartsDelta : Version → ℕ → ℕ → List ℕ → State → List ℕ → Type 0
StartsDelta version strokes tombstones =
    Behind (StartsStrokes version strokes) (λ entries. SeenBy (state_of entries) (StartsTombstones tombstones))

-- the reader of both
reads_delta : (version : Version) (strokes tombstones : ℕ)
    → Reads (delta_at version strokes tombstones) (StartsDelta version strokes tombstones)
    (DeltaFault version strokes tombstones)
unfolding delta_at
reads_delta version strokes tombstones = reads_same (λ text. delta_is tombstones (strokes_at version strokes text))
    (reads_behind (reads_strokes version strokes)
    (λ entries. reads_seen (state_of entries) (reads_tombstones tombstones)))

-- ---- the fields

-- a frame of its parts
abbrev frame_with : Conn → List ℕ → State → Frame
frame_with conn print delta = record { conn = conn; print = print; delta = delta }

-- all fields of a frame stand first
abbrev StartsAll : List ℕ → Frame → List ℕ → Type 0
StartsAll = Behind StartsMagic (λ version. Behind StartsConn (λ conn. Behind (StartsGood print_field) (λ print.
    Behind (StartsGood number_field) (λ strokes. Behind (StartsGood number_field) (λ tombstones.
    SeenBy (frame_with conn print) (StartsDelta version strokes tombstones))))))

-- seven parts and a rest
seven : (a b c d e f g rest : List ℕ)
    → (a ++ b ++ c ++ d ++ e ++ f ++ g) ++ rest ≡ a ++ (b ++ (c ++ (d ++ (e ++ (f ++ (g ++ rest))))))
seven a b c d e f g rest =
    append_assoc (a ++ b ++ c ++ d ++ e ++ f) g rest ∙ append_assoc (a ++ b ++ c ++ d ++ e) f (g ++ rest)
    ∙ append_assoc (a ++ b ++ c ++ d) e (f ++ (g ++ rest)) ∙ append_assoc (a ++ b ++ c) d (e ++ (f ++ (g ++ rest)))
    ∙ append_assoc (a ++ b) c (d ++ (e ++ (f ++ (g ++ rest))))
    ∙ append_assoc a b (c ++ (d ++ (e ++ (f ++ (g ++ rest)))))

-- the text of a frame, part by part
parts_of : (version : Version) (conn : Conn) (print : List ℕ) (entries : List (ℕ × Seed)) (tags rest : List ℕ)
    → frame_of version conn print entries tags ++ rest
    ≡ magic version ++ (conn_byte conn ∷ (print ++ (short (length entries) ++ (short (length tags)
    ++ (flat_map (stroke_text version) entries ++ (flat_map tag_text tags ++ rest))))))
parts_of version conn print entries tags rest =
    seven (magic version) (conn_byte conn ∷ []) print (short (length entries)) (short (length tags))
    (flat_map (stroke_text version) entries) (flat_map tag_text tags) rest

-- the fields of a frame that these make
fields_made : (version : Version) (conn : Conn) (print : List ℕ) (entries : List (ℕ × Seed)) (tags text rest : List ℕ)
    → text ≡ frame_of version conn print entries tags ++ rest → length print ≡ 32
    → length entries < 2 ^ 16 → length tags < 2 ^ 16
    → AllByRecursion (StrokeFits version) entries → Rise key None entries
    → AllByRecursion (λ tag. tag < 2 ^ 128) tags → Rise (λ tag. tag) None tags
    → StartsFields text (frame_with conn print (state_of entries tags)) rest
unfolding frame_text
fields_made version conn print entries tags text rest parts len few_entries few_tags fit rise tags_fit tags_rise =
    let es = strokes_made entries tags rise in
    let ts = tombstones_made entries tags tags_rise in
    record {
      version = version;
      parts = parts ∙ sym (λ i. frame_of version conn print (es i) (ts i) ++ rest);
      print_length = len;
      stroke_count = subst (λ (l : List (ℕ × Seed)). length l < 2 ^ 16) (sym es) few_entries;
      tombstone_count = subst (λ (l : List ℕ). length l < 2 ^ 16) (sym ts) few_tags;
      strokes = subst (λ (l : List (ℕ × Seed)). AllByRecursion (StrokeFits version) l) (sym es) fit;
      tombstones = subst (λ (l : List ℕ). AllByRecursion (λ tag. tag < 2 ^ 128) l) (sym ts) tags_fit;
    }

-- fields that were read
fields_there : (text : List ℕ) (frame : Frame) (rest : List ℕ) → StartsAll text frame rest
    → StartsFields text frame rest
fields_there text frame rest h =
    let version = h.0 in
    let c = h.3 in
    let conn = c.0 in
    let p = c.3 in
    let print = p.0 in
    let n = p.3 in
    let m = n.3 in
    let d = m.3 in
    let delta = d.1 in
    let entries = delta.0 in
    let tags = delta.3.0 in
    let es = each_there key (StartsStroke version) (stroke_text version) (StrokeFits version) EntryIsAbove
    (λ before t entry after g. (g.parts, g.fits, g.above)) None m.1 entries delta.1 delta.2.1 in
    let ts = each_there (λ tag. tag) StartsTag tag_text (λ tag. tag < 2 ^ 128) TagIsAbove
    (λ before t tag after g. (g.0.1, g.0.0, unless_none _ _ g.1)) None delta.1 tags rest delta.3.1.1 in
    let few_entries : length entries < 2 ^ 16 = subst (λ (k : ℕ). k < 2 ^ 16) (sym delta.2.0) n.2.0.0 in
    let few_tags : length tags < 2 ^ 16 = subst (λ (k : ℕ). k < 2 ^ 16) (sym delta.3.1.0) m.2.0.0 in
    let parts : text ≡ frame_of version conn print entries tags ++ rest =
    h.2
    ∙ ap (λ (t : List ℕ). magic version ++ t) (c.2
    ∙ ap (λ (t : List ℕ). conn_byte conn ∷ t) (p.2.0.1
    ∙ ap (λ (t : List ℕ). print ++ t) (n.2.0.1 ∙ ap (λ (k : ℕ). short k ++ n.1) (sym delta.2.0)
    ∙ ap (λ (t : List ℕ). short (length entries) ++ t) (m.2.0.1 ∙ ap (λ (k : ℕ). short k ++ m.1) (sym delta.3.1.0)
    ∙ ap (λ (t : List ℕ). short (length tags) ++ t) (es.parts
    ∙ ap (λ (t : List ℕ). flat_map (stroke_text version) entries ++ t) ts.parts)))))
    ∙ sym (parts_of version conn print entries tags rest) in
    let made = fields_made version conn print entries tags text rest parts p.2.0.0 few_entries few_tags es.fit es.follow
    ts.fit ts.follow in
    subst (λ (f : Frame). StartsFields text f rest) (ap (frame_with conn print) delta.3.2 ∙ d.2) made

-- fields that stand there
fields_back : (text : List ℕ) (frame : Frame) (rest : List ℕ) → StartsFields text frame rest → StartsAll text frame rest
unfolding frame_text
fields_back text frame rest h =
    let version = h.version in
    let entries = strokes_of frame.delta in
    let tags = tombstones_of frame.delta in
    let after_strokes = flat_map tag_text tags ++ rest in
    let after_counts = flat_map (stroke_text version) entries ++ after_strokes in
    let after_strokes_count = short (length tags) ++ after_counts in
    let after_print = short (length entries) ++ after_strokes_count in
    let after_conn = frame.print ++ after_print in
    let es = each_back key (StartsStroke version) (stroke_text version) (StrokeFits version) EntryIsAbove
    (λ before t entry after is fits above. record { fits = fits; above = above; parts = is }) None entries after_strokes
    h.strokes (strokes_rise frame.delta) in
    let ts = each_back (λ tag. tag) StartsTag tag_text (λ tag. tag < 2 ^ 128) TagIsAbove
    (λ before t tag after is fits above. ((fits, is), unless_from _ _ above)) None tags rest h.tombstones
    (tombstones_rise frame.delta) in (
      version,
      conn_byte frame.conn ∷ after_conn,
      h.parts ∙ parts_of version frame.conn frame.print entries tags rest,
      (
        frame.conn,
        after_conn,
        refl,
        (
          frame.print,
          after_print,
          ((h.print_length, refl), refl),
          (
            length entries,
            after_strokes_count,
            ((h.stroke_count, refl), refl),
            (
              length tags,
              after_counts,
              ((h.tombstone_count, refl), refl),
              (
                frame.delta,
                (
                  entries,
                  after_strokes,
                  (refl, es),
                  (
                    tags,
                    (refl, ts),
                    state_made frame.delta,
                  ),
                ),
                refl,
              ),
            ),
          ),
        ),
      ),
    )

-- the reader of the fields
pub reads_fields : Reads fields_at StartsFields FieldsFault
unfolding fields_at
reads_fields = reads_as (reads_behind reads_magic
    (λ version. reads_behind reads_conn (λ conn. reads_behind reads_print (λ print.
    reads_behind reads_short (λ strokes. reads_behind reads_short (λ tombstones.
    reads_seen (frame_with conn print) (reads_delta version strokes tombstones))))))) fields_there fields_back

-- ---- a whole frame

-- the end
end_ok : (text : List ℕ) (u : Unit {0}) → end_at text ≡ Ok u → text ≡ []
unfolding end_at
end_ok [] u e = refl
end_ok (b ∷ rest) u e = absurd cc

-- something where the end should be
end_err : (text : List ℕ) (e : SpdError) → end_at text ≡ Err e → EndFault text e
unfolding end_at
end_err [] e h = absurd cc
end_err (b ∷ rest) e h = (b, rest, refl, sym (err_is {A = Unit {0}} errors.Trailing e h))

-- a frame, and the end behind it
abbrev ended : Frame × List ℕ → Result Frame SpdError
ended frame = end_at frame.1 >>= λ _. Ok frame.0

-- a frame that is not too long
behind_ok : (long : Bool) (read : Read Frame) (frame : Frame)
    → cond long (Err errors.TooLong) (read >>= ended) ≡ Ok frame
    → (long ≡ false) × ((rest : List ℕ) × (read ≡ Ok (frame, rest)) × (end_at rest ≡ Ok tt))
behind_ok true read frame e = absurd cc
behind_ok false read frame e =
    let a = bind_ok read ended frame e in
    let b = bind_ok (end_at a.0.1) (λ _. Ok a.0.0) frame a.2 in
    let is = ok_is a.0.0 frame b.2 in
    (refl, (a.0.1, a.1 ∙ ap (λ (f : Frame). done (f, a.0.1)) is, b.1))

-- what is read is spelled
pub found : (bytes : List ℕ) (frame : Frame) → IsBytes bytes → frame_at bytes ≡ Ok frame
    → Spells bytes frame.conn frame.print frame.delta
unfolding frame_at
found bytes frame small e =
    let a = behind_ok (ltb max_bytes (length bytes)) (fields_at bytes) frame e in
    let starts = (reads_fields.ok bytes frame a.1.0 small a.1.1).0 in
    let nothing_left = end_ok a.1.0 tt a.1.2 in
    let text = frame_text starts.version frame.conn frame.print frame.delta in
    record {
      version = starts.version;
      text = starts.parts ∙ ap (λ (r : List ℕ). text ++ r) nothing_left ∙ append-nil text;
      within = ltb-false _ _ a.0;
      print_length = starts.print_length;
      strokes = starts.strokes;
      tombstones = starts.tombstones;
    }

-- a frame that is too long, or has a fault
behind_err : (long : Bool) (read : Read Frame) (e : SpdError) → cond long (Err errors.TooLong) (read >>= ended) ≡ Err e
    → ((long ≡ true) × (errors.TooLong ≡ e)) ⊎ ((long ≡ false) × ((read >>= ended) ≡ Err e))
behind_err true read e h = inl (refl, err_is {A = Frame} errors.TooLong e h)
behind_err false read e h = inr (refl, h)

-- a refusal is the first fault
pub refused : (bytes : List ℕ) (e : SpdError) → IsBytes bytes → frame_at bytes ≡ Err e → IsFault bytes e
unfolding frame_at
refused bytes e small h =
    elim (behind_err (ltb max_bytes (length bytes)) (fields_at bytes) e h) [
      | inl long ↦ too_long (ltb-true _ _ long.0) (sym long.1)
      | inr fits ↦ in_frame (ltb-false _ _ fits.0) (elim (bind_err (fields_at bytes) ended e fits.1) [
        | inl g ↦ inl (reads_fields.err bytes e small g)
        | inr a ↦ elim (bind_err (end_at a.0.1) (λ _. Ok a.0.0) e a.2) [
          | inl g ↦ inr (a.0.0, a.0.1, (reads_fields.ok bytes a.0.0 a.0.1 small a.1).0, end_err a.0.1 e g)
          | inr b ↦ absurd (no_error a.0.0 e b.2)
        ]
      ])
    ]
