-- The readers of strokes.
use Rattle.std.proofs.Common.{◌≡◌, ℕ, zero, suc, ◌^◌, ◌<◌, ◌≤◌, Bool, true, false, cond, List, [], ◌∷◌, ◌++◌, length}
use Rattle.std.proofs.Common.{Option, Some, None, Ok, refl, sym, ap, subst, ◌∙◌, append_assoc, arith, ◌==◌, nat_le}
use Rattle.std.proofs.Common.{flat_map}
use Rattle.std.proofs.lemmas.Bool.{eqb-false, ne_eqb, leb-true, le-leb, ltb-true, lt-ltb}
use Rattle.stroke_core.specs.declared.run.Run.{Run}
use Rattle.stroke_core.specs.Seed.{Seed, Shape, Runs, Disc, IsCanonical, IsCanonicalShape, max_runs, max_radius}
use Rattle.stroke_core.specs.declared.error.StrokeError.TheVariants.{NoRuns, TooManyRuns, BadRadius}
use Rattle.spd_codec.specs.{declared.error.SpdError.SpdError, declared.error.SpdError.TheVariants.BadStroke}
use Rattle.spd_codec.specs.{declared.version.Version.Version, declared.version.Kind.Kind}
use Rattle.spd_codec.specs.declared.version.Version.TheVariants.{First, Second}
use Rattle.spd_codec.specs.Spelling.{short, tag_text, run_text, shape_text, kind_text, RunFits, ShapeFits}
use Rattle.spd_codec.specs.Faults.{StartsGood, StartsMany, run_field, count_field, count_fault, radius_field}
use Rattle.spd_codec.specs.Faults.{number_field, level_field, tag_field, unless, StartsKind, StartsStroke, ShapeFault}
use Rattle.spd_codec.specs.Faults.{SeedFault, StrokeFault, run_fault}
use Rattle.spd_codec.specs.Reading.{◌>>=◌, many_at, run_at, runs_at, disc_at, shape_at, seed_at, stroke_at, short_value}
use Rattle.spd_codec.specs.Reading.{taken_at, judged, run_value}
use Rattle.spd_codec.proofs.{Steps.bind_ok, Steps.judged_ok, Steps.ok_is, Fields.Reads, Fields.reads_field}
use Rattle.spd_codec.proofs.FaultKinds.{count_real}
use Rattle.spd_codec.proofs.Sequences.{each_there, each_back, Behind, SeenBy, reads_behind, reads_seen, reads_as}
use Rattle.spd_codec.proofs.Sequences.{reads_many}
use Rattle.spd_codec.proofs.RunLists.{unless_none, unless_from, IsNextRun, AreBehind, run_good, good_run, in_order}
use Rattle.spd_codec.proofs.RunLists.{one_behind_another}
use Rattle.spd_codec.proofs.Values.{short_is, tested_is, reads_short, reads_tag, reads_level, reads_run, reads_kind}
use Rattle.spd_codec.specs.declared.version.Kind.TheVariants as kinds

-- ---- runs

-- a run stands first
abbrev StartsRun : Option Run → List ℕ → Run → List ℕ → Type 0
StartsRun before = StartsGood (run_field before)

-- ---- shapes

-- of which kind a shape is
abbrev pub painted : Shape → Kind
painted (Runs runs) = kinds.Runs
painted (Disc x y r) = kinds.Disc

-- a text begins with a canonical shape of this kind
record StartsShape (of : Kind) (text : List ℕ) (shape : Shape) (rest : List ℕ) : Type 0 where
  canonical : IsCanonicalShape shape
  fits : ShapeFits Second shape
  kind : painted shape ≡ of
  parts : text ≡ shape_text shape ++ rest

-- two tests that hold
two_tests : (a b : Bool) (d e : SpdError) → cond a (Some d) (unless b e) ≡ None → (a ≡ false) × (b ≡ true)
two_tests true b d e h = absurd cc
two_tests false b d e h = (refl, unless_none b e h)

-- and back
two_from : (a b : Bool) (d e : SpdError) → a ≡ false → b ≡ true → cond a (Some d) (unless b e) ≡ None
two_from a b d e f g = rw (f, g) refl

-- a number that is not 0
positive : (n : ℕ) → (n ≡ 0 → ⊥) → 0 < n
positive zero h = absurd (h refl)
positive (suc n) h = omega arith

-- a number of runs with which nothing is wrong
pub count_good : (n : ℕ) → count_fault n ≡ None → (0 < n) × (n ≤ max_runs)
count_good n h =
    let t = two_tests (n == 0) (nat_le n max_runs) (BadStroke NoRuns) (BadStroke TooManyRuns) h in
    let some = eqb-false n 0 t.0 in
    (positive n some, leb-true n max_runs t.1)

-- and back
good_count : (n : ℕ) → 0 < n → n ≤ max_runs → count_fault n ≡ None
good_count n some few = two_from (n == 0) (nat_le n max_runs) (BadStroke NoRuns) (BadStroke TooManyRuns)
    (ne_eqb n 0 (λ e. omega (arith, e, some))) (le-leb n max_runs few)

-- runs that were read are a shape
shape_of_runs : (text : List ℕ) (shape : Shape) (rest : List ℕ)
    → Behind (StartsGood count_field) (λ n. SeenBy Runs (StartsMany (λ run. run) StartsRun n None)) text shape rest
    → StartsShape kinds.Runs text shape rest
shape_of_runs text shape rest h =
    let n = h.0 in
    let runs = h.3.0 in
    let there = each_there (λ (run : Run). run) StartsRun run_text RunFits IsNextRun
    (λ before t run after g. (g.0.1, g.0.0, run_good before run g.1)) None h.1 runs rest h.3.1.1 in
    let count = count_good n h.2.1 in
    let len : length runs ≡ n = h.3.1.0 in
    let few : length runs ≤ max_runs = omega (arith, len, count.1) in
    let some : 0 < length runs = omega (arith, len, count.0) in
    subst (λ (s : Shape). StartsShape kinds.Runs text s rest) h.3.2 (record {
      canonical = (some, few, in_order None runs there.follow);
      fits = there.fit;
      kind = refl;
      parts = h.2.0.1 ∙ ap (λ (m : ℕ). short m ++ h.1) (sym len)
          ∙ ap (λ (t : List ℕ). short (length runs) ++ t) there.parts
          ∙ sym (append_assoc (short (length runs)) (flat_map run_text runs) rest);
    })

-- a shape of runs
runs_of_shape : (text : List ℕ) (shape : Shape) (rest : List ℕ) → StartsShape kinds.Runs text shape rest
    → Behind (StartsGood count_field) (λ n. SeenBy Runs (StartsMany (λ run. run) StartsRun n None)) text shape rest
runs_of_shape text (Runs runs) rest h =
    let few : length runs ≤ max_runs = h.canonical.1 in
    let each = each_back (λ (run : Run). run) StartsRun run_text RunFits IsNextRun
    (λ before t run after is fits next. ((fits, is), good_run before run next.0 next.1)) None runs rest h.fits
    (one_behind_another runs h.canonical.2) in (
      length runs,
      flat_map run_text runs ++ rest,
      (
        (omega (arith, few), h.parts ∙ append_assoc (short (length runs)) (flat_map run_text runs) rest),
        good_count (length runs) h.canonical.0 few,
      ),
      (runs, (refl, each), refl),
    )
runs_of_shape text (Disc x y r) rest h = absurd (let e : kinds.Disc ≡ kinds.Runs = h.kind in cc)

-- the reader of runs
reads_runs : Reads runs_at (StartsShape kinds.Runs) (ShapeFault kinds.Runs)
unfolding runs_at
reads_runs = reads_as (reads_behind (reads_field count_field short_value
    (short_is count_fault (λ n e h. count_real (n == 0) (nat_le n max_runs) e h)))
    (λ n. reads_seen Runs (reads_many (λ run. run) reads_run n None))) shape_of_runs runs_of_shape

-- x, y and radius stand first
abbrev StartsDisc : List ℕ → Shape → List ℕ → Type 0
StartsDisc = Behind (StartsGood number_field)
    (λ x. Behind (StartsGood number_field) (λ y. SeenBy (λ r. Disc x y r) (StartsGood radius_field)))

-- they are a disc
shape_of_disc : (text : List ℕ) (shape : Shape) (rest : List ℕ) → StartsDisc text shape rest
    → StartsShape kinds.Disc text shape rest
shape_of_disc text shape rest h =
    let x = h.0 in
    let y = h.3.0 in
    let r = h.3.3.0 in
    let last = h.3.3.1 in
    subst (λ (s : Shape). StartsShape kinds.Disc text s rest) h.3.3.2 (record {
      canonical = leb-true r max_radius (unless_none _ _ last.1);
      fits = (h.2.0.0, h.3.2.0.0);
      kind = refl;
      parts = h.2.0.1 ∙ ap (λ (t : List ℕ). short x ++ t) (h.3.2.0.1 ∙ ap (λ (t : List ℕ). short y ++ t) last.0.1);
    })

-- a shape that is a disc
disc_of_shape : (text : List ℕ) (shape : Shape) (rest : List ℕ) → StartsShape kinds.Disc text shape rest
    → StartsDisc text shape rest
disc_of_shape text (Runs runs) rest h = absurd (let e : kinds.Runs ≡ kinds.Disc = h.kind in cc)
disc_of_shape text (Disc x y r) rest h =
    let small : r ≤ max_radius = h.canonical in (
      x,
      short y ++ (short r ++ rest),
      ((h.fits.0, h.parts), refl),
      (
        y,
        short r ++ rest,
        ((h.fits.1, refl), refl),
        (r, ((omega (arith, small), refl), unless_from _ _ (le-leb r max_radius small)), refl),
      ),
    )

-- the reader of a disc
reads_disc : Reads disc_at (StartsShape kinds.Disc) (ShapeFault kinds.Disc)
unfolding disc_at
reads_disc = reads_as (reads_behind reads_short (λ x. reads_behind reads_short
    (λ y. reads_seen (λ r. Disc x y r) (reads_field radius_field short_value
    (tested_is _ (BadStroke BadRadius) refl))))) shape_of_disc
    disc_of_shape

-- the reader of a shape
reads_shape : (kind : Kind) → Reads (shape_at kind) (StartsShape kind) (ShapeFault kind)
unfolding shape_at
reads_shape kinds.Runs = reads_runs
reads_shape kinds.Disc = reads_disc

-- ---- a level and a shape

-- a text begins with the level and the shape of a canonical seed
record StartsSeed (of : Kind) (text : List ℕ) (seed : Seed) (rest : List ℕ) : Type 0 where
  canonical : IsCanonical seed
  fits : ShapeFits Second seed.shape
  kind : painted seed.shape ≡ of
  parts : text ≡ short seed.level ++ (shape_text seed.shape ++ rest)

-- a level and a shape
abbrev seed_of : ℕ → Shape → Seed
seed_of level shape = record { level = level; shape = shape }

-- they stand first
abbrev StartsLevel : Kind → List ℕ → Seed → List ℕ → Type 0
StartsLevel kind = Behind (StartsGood level_field) (λ level. SeenBy (seed_of level) (StartsShape kind))

-- they are a canonical seed
seed_there : (kind : Kind) (text : List ℕ) (seed : Seed) (rest : List ℕ) → StartsLevel kind text seed rest
    → StartsSeed kind text seed rest
seed_there kind text seed rest h =
    let level = h.0 in
    let shape = h.3.1 in
    let some : 0 < level = ltb-true 0 level (unless_none _ _ h.2.1) in
    let within : level < 2 ^ 16 = h.2.0.0 in
    subst (λ (s : Seed). StartsSeed kind text s rest) h.3.2 (record {
      canonical = record {
        level_low = omega (arith, some);
        level_high = omega (arith, within);
        shape =
            shape.canonical;
      };
      fits = shape.fits;
      kind = shape.kind;
      parts = h.2.0.1 ∙ ap (λ (t : List ℕ). short level ++ t) shape.parts;
    })

-- a canonical seed is a level and a shape
seed_back : (kind : Kind) (text : List ℕ) (seed : Seed) (rest : List ℕ) → StartsSeed kind text seed rest
    → StartsLevel kind text seed rest
seed_back kind text seed rest h =
    let low = h.canonical.level_low in
    let high = h.canonical.level_high in (
      seed.level,
      shape_text seed.shape ++ rest,
      ((omega (arith, high), h.parts), unless_from _ _ (lt-ltb 0 seed.level (omega (arith, low)))),
      (seed.shape, record { canonical = h.canonical.shape; fits = h.fits; kind = h.kind; parts = refl }, refl),
    )

-- the reader of both
reads_seed : (kind : Kind) → Reads (seed_at kind) (StartsSeed kind) (SeedFault kind)
unfolding seed_at
reads_seed kind = reads_as (reads_behind reads_level (λ level. reads_seen (seed_of level) (reads_shape kind)))
    (seed_there kind) (seed_back kind)

-- ---- a stroke

-- the kind, as the version spells it
kind_there : (version : Version) (text : List ℕ) (kind : Kind) (shape : Shape) (rest : List ℕ)
    → StartsKind version text kind rest
    → painted shape ≡ kind → ShapeFits Second shape → (text ≡ kind_text version shape ++ rest) × ShapeFits version shape
kind_there First text kind (Runs runs) rest h e fits = (h.1, fits)
kind_there First text kind (Disc x y r) rest h e fits = absurd (let g : kinds.Disc ≡ kinds.Runs = e ∙ h.0 in cc)
kind_there Second text kinds.Runs (Runs runs) rest h e fits = (h, fits)
kind_there Second text kinds.Disc (Runs runs) rest h e fits = absurd cc
kind_there Second text kinds.Runs (Disc x y r) rest h e fits = absurd cc
kind_there Second text kinds.Disc (Disc x y r) rest h e fits = (h, fits)

-- the kind of a shape that the version has
kind_back : (version : Version) (shape : Shape) (rest : List ℕ) → ShapeFits version shape
    → StartsKind version (kind_text version shape ++ rest) (painted shape) rest × ShapeFits Second shape
kind_back First (Runs runs) rest fits = ((refl, refl), fits)
kind_back First (Disc x y r) rest fits = absurd fits
kind_back Second (Runs runs) rest fits = (refl, fits)
kind_back Second (Disc x y r) rest fits = (refl, fits)

-- four parts and a rest
four : (a b c d rest : List ℕ) → (a ++ b ++ c ++ d) ++ rest ≡ a ++ (b ++ (c ++ (d ++ rest)))
four a b c d rest =
    append_assoc (a ++ b ++ c) d rest ∙ append_assoc (a ++ b) c (d ++ rest) ∙ append_assoc a b (c ++ (d ++ rest))

-- the parts of a stroke stand first
abbrev StartsParts : Version → Option ℕ → List ℕ → ℕ × Seed → List ℕ → Type 0
StartsParts version before = Behind (StartsGood (tag_field before))
    (λ tag. Behind (StartsKind version) (λ kind. SeenBy (λ seed. (tag, seed)) (StartsSeed kind)))

-- they are a stroke
stroke_there : (version : Version) (before : Option ℕ) (text : List ℕ) (entry : ℕ × Seed) (rest : List ℕ)
    → StartsParts version before text entry rest → StartsStroke version before text entry rest
stroke_there version before text entry rest h =
    let tag = h.0 in
    let seed = h.3.3.0 in
    let there = h.3.3.1 in
    let kind = kind_there version h.1 h.3.0 seed.shape h.3.1 h.3.2 there.kind there.fits in
    subst (λ (e : ℕ × Seed). StartsStroke version before text e rest) h.3.3.2 (record {
      fits = record { tag = h.2.0.0; canonical = there.canonical; shape = kind.1 };
      above = unless_none _ _ h.2.1;
      parts = h.2.0.1 ∙ ap (λ (t : List ℕ). tag_text tag ++ t) (kind.0
          ∙ ap (λ (t : List ℕ). kind_text version seed.shape ++ t) there.parts)
          ∙ sym (four (tag_text tag) (kind_text version seed.shape) (short seed.level) (shape_text seed.shape) rest);
    })

-- a stroke is its parts
stroke_back : (version : Version) (before : Option ℕ) (text : List ℕ) (entry : ℕ × Seed) (rest : List ℕ)
    → StartsStroke version before text entry rest → StartsParts version before text entry rest
stroke_back version before text entry rest h =
    let seed = entry.1 in
    let behind_kind = short seed.level ++ (shape_text seed.shape ++ rest) in
    let kind = kind_back version seed.shape behind_kind h.fits.shape in (
      entry.0,
      kind_text version seed.shape ++ behind_kind,
      (
        (
          h.fits.tag,
          h.parts ∙ four (tag_text entry.0) (kind_text version seed.shape) (short seed.level)
              (shape_text seed.shape) rest,
        ),
        unless_from _ _ h.above,
      ),
      (
        painted seed.shape,
        behind_kind,
        kind.0,
        (seed, record { canonical = h.fits.canonical; fits = kind.1; kind = refl; parts = refl }, refl),
      ),
    )

-- the reader of a stroke
pub reads_stroke : (version : Version) (before : Option ℕ)
    → Reads (stroke_at version before) (StartsStroke version before) (StrokeFault version before)
unfolding stroke_at
reads_stroke version before = reads_as (reads_behind (reads_tag before) (λ tag. reads_behind (reads_kind version)
    (λ kind. reads_seen (λ seed. (tag, seed)) (reads_seed kind)))) (stroke_there version before)
    (stroke_back version before)

-- ---- runs that were read make a canonical stroke

-- each run that was read is behind the one before it
pub behind_read : (count : ℕ) (before : Option Run) (text : List ℕ) (x : List Run × List ℕ)
    → many_at (λ run. run) run_at count before text ≡ Ok x → (length x.0 ≡ count) × AreBehind before x.0
unfolding many_at run_at
behind_read zero before text x e =
    subst (λ (y : List Run × List ℕ). (length y.0 ≡ 0) × AreBehind before y.0) (ok_is ([], text) x e) (refl, tt)
behind_read (suc n) before text x e =
    let a = bind_ok (run_at before text)
    (λ r. many_at (λ run. run) run_at n (Some r.0) r.1 >>= λ xs. Ok (r.0 ∷ xs.0, xs.1)) x e in
    let b = bind_ok (many_at (λ run. run) run_at n (Some a.0.0) a.0.1) (λ xs. Ok (a.0.0 ∷ xs.0, xs.1)) x a.2 in
    let t = bind_ok (taken_at 6 run_value text) (λ y. judged (run_fault before y.0) y) a.0 a.1 in
    let j = judged_ok (run_fault before t.0.0) t.0 a.0 t.2 in
    let none : run_fault before a.0.0 ≡ None = subst (λ (y : Run × List ℕ). run_fault before y.0 ≡ None) j.1 j.0 in
    let good = run_good before a.0.0 none in
    let others = behind_read n (Some a.0.0) a.0.1 b.0 b.1 in
    let made : List Run × List ℕ = (a.0.0 ∷ b.0.0, b.0.1) in
    subst (λ (y : List Run × List ℕ). (length y.0 ≡ suc n) × AreBehind before y.0) (ok_is made x b.2)
    (ap suc others.0, (good, others.1))
