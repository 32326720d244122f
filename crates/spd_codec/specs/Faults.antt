-- The first fault of bytes that spell no frame: the fields are judged from the left, each behind others that
-- stand there rightly.
use Rattle.std.specs.Prelude.{◌≡◌, ◌⊎◌, ℕ, zero, suc, ◌+◌, ◌<◌, ◌≤◌, ◌^◌, ◌==◌, ◌||◌, ◌&&◌, nat_lt, nat_le, Bool, true}
use Rattle.std.specs.Prelude.{List, [], ◌∷◌, ◌++◌, length, Option, Some, None, if◌then◌else◌}
use Rattle.std.specs.List.{AllByRecursion}
use Rattle.grid_core.specs.declared.conn.Conn.{Conn}
use Rattle.stroke_core.specs.{declared.run.Run.Run, Seed.Seed, Seed.max_runs, Seed.max_radius}
use Rattle.stroke_core.specs.declared.error.StrokeError.TheVariants.{BadLevel, NoRuns, TooManyRuns, RunOrder, BadRadius}
use Rattle.stroke_core.specs.declared.error.StrokeError.TheVariants.{BadKind}
use Rattle.stroke_lattice.specs.Pieces.{strokes_of, tombstones_of}
use Rattle.spd_codec.specs.{declared.error.SpdError.SpdError, declared.frame.Frame.Frame, declared.version.Kind.Kind}
use Rattle.spd_codec.specs.{declared.version.Version.Version}
use Rattle.spd_codec.specs.declared.error.SpdError.TheVariants.{BadMagic, BadConn, Truncated, TagOrder, BadStroke}
use Rattle.spd_codec.specs.declared.error.SpdError.TheVariants.{TooLong, Trailing}
use Rattle.spd_codec.specs.declared.version.Version.TheVariants.{First, Second}
use Rattle.spd_codec.specs.Spelling.{magic, conn_byte, short, tag_text, run_text, RunFits, StrokeFits, stroke_text}
use Rattle.spd_codec.specs.Spelling.{frame_text, max_bytes}
use Rattle.spd_codec.specs.declared.version.Kind.TheVariants as kinds

-- ---- how fields follow one another

-- a field of a fixed size: the bytes of a value, which values have such bytes, and what is wrong with one
pub record Field (X : Type 0) : Type 1 where
  pub size : ℕ
  pub spelled : X → List ℕ
  pub Fits : X → Type 0
  pub fault : X → Option SpdError

-- a text begins with the bytes of a value
abbrev pub Starts : {X : Type 0} → Field X → List ℕ → X → List ℕ → Type 0
Starts field text x rest = field.Fits x × (text ≡ field.spelled x ++ rest)

-- a text begins with the bytes of a value, and nothing is wrong with it
abbrev pub StartsGood : {X : Type 0} → Field X → List ℕ → X → List ℕ → Type 0
StartsGood field text x rest = Starts field text x rest × (field.fault x ≡ None)

-- a field that should stand first: the text ends before it is whole, or something is wrong with its value
abbrev pub FieldFault : {X : Type 0} → Field X → List ℕ → SpdError → Type 0
FieldFault {X} field text e =
    ((length text < field.size) × (e ≡ Truncated))
    ⊎ ((x : X) × (rest : List ℕ) × Starts field text x rest × (field.fault x ≡ Some e))

-- the first of two parts is faulty, or it stands there rightly and the second is faulty behind it
abbrev pub FaultIn : {X : Type 0} → (List ℕ → SpdError → Type 0) → (List ℕ → X → List ℕ → Type 0)
    → (X → List ℕ → SpdError → Type 0) → List ℕ → SpdError → Type 0
FaultIn {X} Fault Begins Next text e =
    Fault text e ⊎ ((x : X) × (rest : List ℕ) × Begins text x rest × Next x rest e)

-- the same where the first part is one field
abbrev pub FaultFrom : {X : Type 0} → Field X → (X → List ℕ → SpdError → Type 0) → List ℕ → SpdError → Type 0
FaultFrom field Next = FaultIn (FieldFault field) (StartsGood field) Next

-- a text begins with these, each judged by the key of the one before it
abbrev pub StartsEach : {X K : Type 0} → (X → K) → (Option K → List ℕ → X → List ℕ → Type 0)
    → Option K → List ℕ → List X → List ℕ → Type 0
StartsEach key Begins before text [] rest = text ≡ rest
StartsEach key Begins before text (x ∷ xs) rest =
    (after : List ℕ) × Begins before text x after × StartsEach key Begins (Some (key x)) after xs rest

-- a text begins with so many
abbrev pub StartsMany : {X K : Type 0} → (X → K) → (Option K → List ℕ → X → List ℕ → Type 0)
    → ℕ → Option K → List ℕ → List X → List ℕ → Type 0
StartsMany key Begins count before text xs rest = (length xs ≡ count) × StartsEach key Begins before text xs rest

-- one of so many is faulty, behind others that stand there rightly
abbrev pub ManyFault : {X K : Type 0} → (X → K) → (Option K → List ℕ → X → List ℕ → Type 0)
    → (Option K → List ℕ → SpdError → Type 0) → ℕ → Option K → List ℕ → SpdError → Type 0
ManyFault key Begins Fault zero before text e = ⊥
ManyFault key Begins Fault (suc count) before text e =
    FaultIn (Fault before) (Begins before) (λ x. ManyFault key Begins Fault count (Some (key x))) text e

-- ---- what is wrong with values

-- the test fails for this reason
abbrev pub unless : Bool → SpdError → Option SpdError
unless good e = if good then None else Some e

-- the tag is above the one before it, if there is one
abbrev pub is_above : Option ℕ → ℕ → Bool
is_above None tag = true
is_above (Some before) tag = nat_lt before tag

-- the run is in order with the one before it, if there is one
abbrev pub is_behind : Option Run → Run → Bool
is_behind None run = true
is_behind (Some before) run =
    nat_lt before.y run.y || ((before.y == run.y) && nat_lt (before.x1 + 1) run.x0)

-- no number of runs, or too great a one
abbrev pub count_fault : ℕ → Option SpdError
count_fault n = if n == 0 then Some (BadStroke NoRuns) else unless (nat_le n max_runs) (BadStroke TooManyRuns)

-- the run ends before it starts, or is not in order with the one before it
abbrev pub run_fault : Option Run → Run → Option SpdError
run_fault before run = unless (nat_le run.x0 run.x1 && is_behind before run) (BadStroke RunOrder)

-- ---- the fields

-- one byte
abbrev pub byte_field : (ℕ → Option SpdError) → Field ℕ
byte_field wrong = record { size = 1; spelled = λ b. b ∷ []; Fits = λ b. Unit {0}; fault = wrong }

-- a byte of the magic
abbrev pub magic_field : ℕ → Field ℕ
magic_field letter = byte_field (λ b. unless (b == letter) BadMagic)

-- the last byte of the magic: `1` or `2`
abbrev pub version_field : Field ℕ
version_field = byte_field (λ b. unless ((b == 49) || (b == 50)) BadMagic)

-- the connectivity: 4 or 8
abbrev pub conn_field : Field ℕ
conn_field = byte_field (λ b. unless ((b == 4) || (b == 8)) BadConn)

-- the fingerprint
abbrev pub print_field : Field (List ℕ)
print_field = record { size = 32; spelled = λ print. print; Fits = λ print. length print ≡ 32; fault = λ print. None }

-- a number of two bytes
abbrev pub short_field : (ℕ → Option SpdError) → Field ℕ
short_field wrong = record { size = 2; spelled = short; Fits = λ n. n < 2 ^ 16; fault = wrong }

-- a number with which nothing can be wrong
abbrev pub number_field : Field ℕ
number_field = short_field (λ n. None)

-- a tag behind another
abbrev pub tag_field : Option ℕ → Field ℕ
tag_field before = record {
  size = 16;
  spelled = tag_text;
  Fits = λ tag. tag < 2 ^ 128;
  fault = λ tag. unless (is_above before tag) TagOrder;
}

-- the kind of a stroke: 0 for runs, 1 for a disc
abbrev pub kind_field : Field ℕ
kind_field = byte_field (λ b. unless ((b == 0) || (b == 1)) (BadStroke BadKind))

-- the level of a stroke
abbrev pub level_field : Field ℕ
level_field = short_field (λ level. unless (nat_lt 0 level) (BadStroke BadLevel))

-- the number of runs of a stroke
abbrev pub count_field : Field ℕ
count_field = short_field count_fault

-- a run behind another
abbrev pub run_field : Option Run → Field Run
run_field before = record { size = 6; spelled = run_text; Fits = RunFits; fault = run_fault before }

-- the radius of a disc
abbrev pub radius_field : Field ℕ
radius_field = short_field (λ r. unless (nat_le r max_radius) (BadStroke BadRadius))

-- ---- strokes

-- the runs of a stroke, so many
abbrev pub RunsFault : ℕ → List ℕ → SpdError → Type 0
RunsFault count = ManyFault (λ run. run) (λ before. StartsGood (run_field before))
    (λ before. FieldFault (run_field before))
    count None

-- behind the level: the number of runs and the runs, or x, y and radius of a disc
abbrev pub ShapeFault : Kind → List ℕ → SpdError → Type 0
ShapeFault kinds.Runs = FaultFrom count_field (λ count. RunsFault count)
ShapeFault kinds.Disc = FaultFrom number_field (λ x. FaultFrom number_field (λ y. FieldFault radius_field))

-- level and shape
abbrev pub SeedFault : Kind → List ℕ → SpdError → Type 0
SeedFault kind = FaultFrom level_field (λ level. ShapeFault kind)

-- the kind of a stroke, which the first version does not spell: there it is runs
abbrev pub StartsKind : Version → List ℕ → Kind → List ℕ → Type 0
StartsKind First text kind rest = (kind ≡ kinds.Runs) × (text ≡ rest)
StartsKind Second text kinds.Runs rest = text ≡ 0 ∷ rest
StartsKind Second text kinds.Disc rest = text ≡ 1 ∷ rest

-- the kind byte, where the version has one
abbrev pub KindFault : Version → List ℕ → SpdError → Type 0
KindFault First text e = ⊥
KindFault Second text e = FieldFault kind_field text e

-- a stroke behind the tag of another: tag, kind, level and shape
abbrev pub StrokeFault : Version → Option ℕ → List ℕ → SpdError → Type 0
StrokeFault version before =
    FaultFrom (tag_field before) (λ tag. FaultIn (KindFault version) (StartsKind version) (λ kind. SeedFault kind))

-- a text begins with a stroke behind the tag of another
pub record StartsStroke (version : Version) (before : Option ℕ) (text : List ℕ) (entry : ℕ × Seed) (rest : List ℕ)
    : Type 0 where
  pub fits : StrokeFits version entry
  pub above : is_above before entry.0 ≡ true
  pub parts : text ≡ stroke_text version entry ++ rest

-- ---- frames

-- a text begins with a magic
abbrev pub StartsMagic : List ℕ → Version → List ℕ → Type 0
StartsMagic text version rest = text ≡ magic version ++ rest

-- the magic, byte by byte: `S`, `P`, `D`, and then that of the version
abbrev pub MagicFault : List ℕ → SpdError → Type 0
MagicFault = FaultFrom (magic_field 83) (λ s. FaultFrom (magic_field 80) (λ p. FaultFrom (magic_field 68)
    (λ d. FieldFault version_field)))

-- a text begins with a connectivity
abbrev pub StartsConn : List ℕ → Conn → List ℕ → Type 0
StartsConn text conn rest = text ≡ conn_byte conn ∷ rest

-- so many strokes
abbrev pub StrokesFault : Version → ℕ → List ℕ → SpdError → Type 0
StrokesFault version count = ManyFault (λ entry. entry.0) (StartsStroke version) (StrokeFault version) count None

-- a text begins with so many strokes
abbrev pub StartsStrokes : Version → ℕ → List ℕ → List (ℕ × Seed) → List ℕ → Type 0
StartsStrokes version count = StartsMany (λ entry. entry.0) (StartsStroke version) count None

-- so many tombstones
abbrev pub TombstonesFault : ℕ → List ℕ → SpdError → Type 0
TombstonesFault count =
    ManyFault (λ tag. tag) (λ before. StartsGood (tag_field before)) (λ before. FieldFault (tag_field before)) count
    None

-- a text begins with so many tombstones
abbrev pub StartsTombstones : ℕ → List ℕ → List ℕ → List ℕ → Type 0
StartsTombstones count = StartsMany (λ tag. tag) (λ before. StartsGood (tag_field before)) count None

-- strokes and tombstones, so many of each
abbrev pub DeltaFault : Version → ℕ → ℕ → List ℕ → SpdError → Type 0
DeltaFault version strokes tombstones =
    FaultIn (StrokesFault version strokes) (StartsStrokes version strokes) (λ entries. TombstonesFault tombstones)

-- the fields of a frame: magic, connectivity, fingerprint, number of strokes, number of tombstones, strokes
-- and tombstones
abbrev pub FieldsFault : List ℕ → SpdError → Type 0
FieldsFault =
    FaultIn MagicFault StartsMagic (λ version.
    FaultIn (FieldFault conn_field) StartsConn (λ conn.
    FaultFrom print_field (λ print.
    FaultFrom number_field (λ strokes.
    FaultFrom number_field (λ tombstones.
    DeltaFault version strokes tombstones)))))

-- a text begins with the fields of a frame
pub record StartsFields (text : List ℕ) (frame : Frame) (rest : List ℕ) : Type 0 where
  pub version : Version
  pub parts : text ≡ frame_text version frame.conn frame.print frame.delta ++ rest
  pub print_length : length frame.print ≡ 32
  pub stroke_count : length (strokes_of frame.delta) < 2 ^ 16
  pub tombstone_count : length (tombstones_of frame.delta) < 2 ^ 16
  pub strokes : AllByRecursion (StrokeFits version) (strokes_of frame.delta)
  pub tombstones : AllByRecursion (λ tag. tag < 2 ^ 128) (tombstones_of frame.delta)

-- something stands where the end should
abbrev pub EndFault : List ℕ → SpdError → Type 0
EndFault text e = (b : ℕ) × (rest : List ℕ) × (text ≡ b ∷ rest) × (e ≡ Trailing)

-- a frame, and nothing behind it
abbrev pub FrameFault : List ℕ → SpdError → Type 0
FrameFault = FaultIn FieldsFault StartsFields (λ frame. EndFault)

-- too many bytes, before all else, or else the first fault from the left
pub data IsFault (bytes : List ℕ) (e : SpdError) : Type 0 where
  too_long : max_bytes < length bytes → e ≡ TooLong → IsFault bytes e
  in_frame : length bytes ≤ max_bytes → FrameFault bytes e → IsFault bytes e
