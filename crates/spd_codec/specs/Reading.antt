-- Reading from left to right, with the first fault that is met. The contracts of private functions alone
-- say this; public ones say what bytes spell (Spelling) and their first fault (Faults).
use Rattle.std.specs.Prelude.{◌≡◌, ◌⊎◌, ℕ, zero, suc, ◌==◌, nat_lt, List, [], ◌∷◌, length, take, drop, slice_index}
use Rattle.std.specs.Prelude.{Option, Some, None, Result, Ok, Err, if◌then◌else◌}
use Rattle.std.specs.Int.{w16, w128, from_be_bytes}
use Rattle.grid_core.specs.declared.conn.Conn.{Conn}
use Rattle.grid_core.specs.declared.conn.Conn.TheVariants.{Four, Eight}
use Rattle.stroke_core.specs.{declared.run.Run.Run, Seed.Seed, Seed.Shape, Seed.Runs, Seed.Disc}
use Rattle.stroke_lattice.specs.State.{State, nothing}
use Rattle.spd_codec.specs.{declared.error.SpdError.SpdError, declared.frame.Frame.Frame, declared.version.Kind.Kind}
use Rattle.spd_codec.specs.{declared.version.Version.Version, Spelling.max_bytes}
use Rattle.spd_codec.specs.declared.version.Version.TheVariants.{First, Second}
use Rattle.spd_codec.specs.Faults.{Field, magic_field, version_field, conn_field, tag_field, kind_field, level_field}
use Rattle.spd_codec.specs.Faults.{count_field, run_field, radius_field}
use Rattle.std.specs.FinMap as map
use Rattle.std.specs.FinSet as set
use Rattle.spd_codec.specs.declared.error.SpdError.TheVariants as errors
use Rattle.spd_codec.specs.declared.version.Kind.TheVariants as kinds

infixl 10 ◌>>=◌
abbrev pub ◌>>=◌ : {A B : Type 0} → Result A SpdError → (A → Result B SpdError) → Result B SpdError
(Ok x) >>= f = f x
(Err e) >>= f = Err e

-- what a call answered, seen by view, is what reading gives
abbrev pub Gives : {X Y : Type 0} → (X → Y) → Result X SpdError → Result Y SpdError → Type 0
Gives view (Ok x) read = read ≡ Ok (view x)
Gives view (Err e) read = read ≡ Err e

-- the same, unless memory ran out
abbrev pub GivesOrMemory : {X Y : Type 0} → (X → Y) → Result X SpdError → Result Y SpdError → Type 0
GivesOrMemory view (Ok x) read = read ≡ Ok (view x)
GivesOrMemory view (Err e) read = (e ≡ errors.Memory) ⊎ (read ≡ Err e)

-- a value and the bytes behind it, or a fault
abbrev pub Read : Type 0 → Type 0
Read X = Result (X × List ℕ) SpdError

-- what a call answered, and the bytes that are then left, are what reading gives
abbrev pub Reads : {X : Type 0} → Result X SpdError → List ℕ → Read X → Type 0
Reads result rest read = Gives (λ x. (x, rest)) result read

-- the same, unless memory ran out
abbrev pub ReadsOrMemory : {X : Type 0} → Result X SpdError → List ℕ → Read X → Type 0
ReadsOrMemory result rest read = GivesOrMemory (λ x. (x, rest)) result read

-- ---- fields of a fixed size

-- the value of so many bytes
abbrev pub taken_at : {X : Type 0} → ℕ → (List ℕ → X) → List ℕ → Read X
taken_at size value text =
    if nat_lt (length text) size then Err errors.Truncated else Ok (value (take size text), drop size text)

-- a value, if nothing is wrong with it
abbrev pub judged : {A : Type 0} → Option SpdError → A → Result A SpdError
judged None x = Ok x
judged (Some e) x = Err e

-- a field, whose value is judged once it is read
abbrev pub field_at : {X : Type 0} → Field X → (List ℕ → X) → List ℕ → Read X
field_at field value text = taken_at field.size value text >>= λ x. judged (field.fault x.0) x

-- one byte
abbrev pub byte_value : List ℕ → ℕ
byte_value bytes = slice_index bytes 0

-- a number of two bytes
abbrev pub short_value : List ℕ → ℕ
short_value bytes = from_be_bytes w16 bytes

-- y, x0 and x1 of a run
abbrev pub run_value : List ℕ → Run
run_value bytes = record {
  y = short_value (take 2 bytes);
  x0 = short_value (take 2 (drop 2 bytes));
  x1 = short_value (drop 4 bytes);
}

unfoldable pub short_at : List ℕ → Read ℕ
short_at text = taken_at 2 short_value text

unfoldable pub tag_at : Option ℕ → List ℕ → Read ℕ
tag_at before text = field_at (tag_field before) (from_be_bytes w128) text

-- the connectivity that a byte says
abbrev pub conn_of : ℕ → Conn
conn_of b = if b == 4 then Four else Eight

unfoldable pub conn_at : List ℕ → Read Conn
conn_at text = field_at conn_field byte_value text >>= λ b. Ok (conn_of b.0, b.1)

unfoldable pub print_at : List ℕ → Read (List ℕ)
print_at text = taken_at 32 (λ print. print) text

-- the version that the last byte of the magic says
abbrev pub version_of : ℕ → Version
version_of b = if b == 49 then First else Second

unfoldable pub magic_at : List ℕ → Read Version
magic_at text =
    field_at (magic_field 83) byte_value text >>= λ s. field_at (magic_field 80) byte_value s.1
    >>= λ p. field_at (magic_field 68) byte_value p.1 >>= λ d. field_at version_field byte_value d.1
    >>= λ b. Ok (version_of b.0, b.1)

-- ---- fields that repeat

-- so many, each judged by the key of the one before it
unfoldable pub many_at : {X K : Type 0} → (X → K) → (Option K → List ℕ → Read X) → ℕ → Option K → List ℕ → Read (List X)
many_at key one zero before text = Ok ([], text)
many_at key one (suc count) before text =
    one before text >>= λ x. many_at key one count (Some (key x.0)) x.1 >>= λ xs. Ok (x.0 ∷ xs.0, xs.1)

-- ---- strokes

unfoldable pub level_at : List ℕ → Read ℕ
level_at text = field_at level_field short_value text

unfoldable pub run_at : Option Run → List ℕ → Read Run
run_at before text = field_at (run_field before) run_value text

-- so many runs
abbrev pub run_list_at : ℕ → List ℕ → Read (List Run)
run_list_at count text = many_at (λ run. run) run_at count None text

unfoldable pub runs_at : List ℕ → Read Shape
runs_at text = field_at count_field short_value text >>= λ n. run_list_at n.0 n.1
    >>= λ runs. Ok (Runs runs.0, runs.1)

unfoldable pub disc_at : List ℕ → Read Shape
disc_at text = short_at text >>= λ x. short_at x.1 >>= λ y. field_at radius_field short_value y.1
    >>= λ r. Ok (Disc x.0 y.0 r.0, r.1)

-- the shape of a kind
unfoldable pub shape_at : Kind → List ℕ → Read Shape
shape_at kinds.Runs text = runs_at text
shape_at kinds.Disc text = disc_at text

-- a shape, with its level
abbrev pub with_level : ℕ → Read Shape → Read Seed
with_level level read = read >>= λ shape. Ok (record { level = level; shape = shape.0 }, shape.1)

-- a level, and the shape of a kind
unfoldable pub seed_at : Kind → List ℕ → Read Seed
seed_at kind text = level_at text >>= λ level. with_level level.0 (shape_at kind level.1)

-- the kind that a byte says
abbrev pub kind_of : ℕ → Kind
kind_of b = if b == 0 then kinds.Runs else kinds.Disc

-- the kind; the first version has runs alone
unfoldable pub kind_at : Version → List ℕ → Read Kind
kind_at First text = Ok (kinds.Runs, text)
kind_at Second text = field_at kind_field byte_value text >>= λ b. Ok (kind_of b.0, b.1)

unfoldable pub stroke_at : Version → Option ℕ → List ℕ → Read (ℕ × Seed)
stroke_at version before text = tag_at before text >>= λ tag. kind_at version tag.1 >>= λ kind. seed_at kind.0 kind.1
    >>= λ seed. Ok ((tag.0, seed.0), seed.1)

-- ---- frames

-- a value with these added, one after the other
abbrev pub gathered : {A X : Type 0} → (A → X → A) → A → List X → A
gathered put all [] = all
gathered put all (x ∷ xs) = gathered put (put all x) xs

-- what is read, added to a value
abbrev pub onto : {A X : Type 0} → (A → X → A) → A → Read (List X) → Read A
onto put all read = read >>= λ xs. Ok (gathered put all xs.0, xs.1)

-- the state with a stroke more
abbrev pub with_stroke : State → ℕ × Seed → State
with_stroke s entry = record s { strokes = map.insert s.strokes entry.0 entry.1 }

-- the state with a tombstone more
abbrev pub with_tombstone : State → ℕ → State
with_tombstone s tag = record s { tombstones = set.insert s.tombstones tag }

-- so many strokes
abbrev pub strokes_at : Version → ℕ → List ℕ → Read (List (ℕ × Seed))
strokes_at version count text = many_at (λ entry. entry.0) (stroke_at version) count None text

-- so many tombstones
abbrev pub tombstones_at : ℕ → List ℕ → Read (List ℕ)
tombstones_at count text = many_at (λ tag. tag) tag_at count None text

-- nothing is left
unfoldable pub end_at : List ℕ → Result (Unit {0}) SpdError
end_at [] = Ok tt
end_at (b ∷ rest) = Err errors.Trailing

-- the strokes and tombstones of a frame, so many of each
unfoldable pub delta_at : Version → ℕ → ℕ → List ℕ → Read State
delta_at version strokes tombstones text = onto with_stroke nothing (strokes_at version strokes text)
    >>= λ s. onto with_tombstone s.0 (tombstones_at tombstones s.1)

-- the fields of a frame behind its connectivity and its fingerprint
unfoldable pub contents_at : Version → Conn → List ℕ → List ℕ → Read Frame
contents_at version conn print text = short_at text >>= λ strokes. short_at strokes.1
    >>= λ tombstones. delta_at version strokes.0 tombstones.0 tombstones.1
    >>= λ delta. Ok (record { conn = conn; print = print; delta = delta.0 }, delta.1)

-- the fields of a frame
unfoldable pub fields_at : List ℕ → Read Frame
fields_at text =
    magic_at text >>= λ version. conn_at version.1 >>= λ conn. print_at conn.1 >>= λ print. short_at print.1
    >>= λ strokes. short_at strokes.1 >>= λ tombstones. delta_at version.0 strokes.0 tombstones.0 tombstones.1
    >>= λ delta. Ok (record { conn = conn.0; print = print.0; delta = delta.0 }, delta.1)

-- a frame is all of the text
unfoldable pub frame_at : List ℕ → Result Frame SpdError
frame_at text =
    if nat_lt max_bytes (length text) then Err errors.TooLong
    else (fields_at text >>= λ frame. end_at frame.1 >>= λ _. Ok frame.0)
