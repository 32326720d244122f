-- The tiles of a span's pixels, of a stroke's spans, and of the strokes that die.
use Rattle.std.proofs.Common.{◌≡◌, ℕ, ◌+◌, ◌*◌, ◌/◌, ◌<◌, ◌≤◌, ◌⊎◌, inl, inr, Bool, true, false, ◌&&◌, ◌||◌, List, ◌∷◌}
use Rattle.std.proofs.Common.{◌++◌, length, get_or, take, Some, refl, ap, sym, ◌∙◌, subst, arith, IsTrue, min, []}
use Rattle.std.proofs.Common.{slice_get}
use Rattle.std.proofs.Math.Nat.{div-mul-le_self, mod-lt, mod-add-div'}
use Rattle.std.proofs.{lemmas.Nat.div_below, lemmas.Nat.le-div, lemmas.Bool.Decides.nat_tests, lemmas.List.take_more}
use Rattle.std.proofs.{lemmas.List.take_all, lemmas.List.Folds.list_any-append, lemmas.Option.get_or_from_slice_get}
use Rattle.std.proofs.lemmas.Bool.{cases_lt, ltb-true, leb-true, eqb-true}
use Rattle.std.specs.List.{list_any}
use Rattle.grid_core.specs.{declared.pixel.Pixel.Pixel, Tiles.Tiles, Tiles.columns_of, Tiles.tile_of}
use Rattle.stroke_core.specs.{declared.span.Span.Span, Seed.Seed, Seed.covers, Spans.span_has, Spans.spans_of}
use Rattle.stroke_lattice.specs.{State.State, State.HasStroke, State.HasTombstone, Walks.AreTombstones}
use Rattle.stroke_lattice.proofs.{Joins.one_seed, Walking.TombstonesLeft, Walking.tombstones_begin}
use Rattle.stroke_lattice.proofs.{Walking.tombstone_here, Walking.tombstone_step, Walking.tombstones_end}
use Rattle.tile_work.specs.{TileSet.Has, Marks.Grows, Marks.Adds, Marks.LosesStrokeTo, Marks.IsUnderLive}
use Rattle.core_rules.specs.Hits.{IsInTile, HoldsOne}
use Rattle.tile_work.proofs.HittingMarks.{grows_none, grows_more, adds_more, adds_same}

-- ---- the pixels of a span

-- the tile holds a pixel of the span that is left of column x
abbrev pub HoldsUpto : Tiles → Span → ℕ → ℕ → Type 0
HoldsUpto tiles span x =
    HoldsOne tiles (λ p. (p.y ≡ span.y) × (span.first ≤ p.x) × (p.x < span.end) × (p.x < x))

-- the tile holds a pixel of the span
abbrev pub HoldsSpan : Tiles → Span → ℕ → Type 0
HoldsSpan tiles span = HoldsOne tiles (λ p. IsTrue (span_has span p))

both_parts : (a b c : Bool) → IsTrue (a && (b && c)) → IsTrue a × IsTrue b × IsTrue c
both_parts true true true held = (refl, refl, refl)
both_parts true true false held = absurd cc
both_parts true false c held = absurd cc
both_parts false b c held = absurd cc

has_parts : (s : Span) (p : Pixel) → IsTrue (span_has s p) → (p.y ≡ s.y) × (s.first ≤ p.x) × (p.x < s.end)
has_parts s p held =
    let parts = both_parts _ _ _ held in
    (eqb-true p.y s.y parts.0, leb-true s.first p.x parts.1, ltb-true p.x s.end parts.2)

parts_have : (s : Span) (p : Pixel) → p.y ≡ s.y → s.first ≤ p.x → p.x < s.end → IsTrue (span_has s p)
parts_have s p row from below = grind (arith, nat_tests)

-- the columns of one tile lie between two multiples of its side
pub column_past : (x side : ℕ) → 0 < side → x < (x / side + 1) * side
column_past x side some = omega (arith, mod-lt x some, mod-add-div' x side)

column_same : (x z side : ℕ) → 0 < side → x ≤ z → z < (x / side + 1) * side → z / side ≡ x / side
column_same x z side some from below =
    let no_less : x / side ≤ z / side = le-div (x / side) z side some (omega (arith, div-mul-le_self x side, from)) in
    let no_more : z / side < x / side + 1 = div_below z side (x / side + 1) some below in
    omega (arith, no_less, no_more)

module _ (tiles : Tiles) (span : Span) (some : 0 < tiles.side) where
  module _ (x : ℕ) (inside_x : x < tiles.width) (inside_y : span.y < tiles.height) (first : span.first ≤ x)
      (within : x < span.end) where
    next : ℕ
    next = (x / tiles.side + 1) * tiles.side

    here : Pixel
    here = record { x = x; y = span.y }

    upto_parts : (t : ℕ) → HoldsUpto tiles span next t → HoldsUpto tiles span x t ⊎ (t ≡ tile_of tiles here)
    unfolding next here
    upto_parts t (p, in_tile, (row, from, below, before)) = elim (cases_lt p.x x) [
      | inl earlier ↦ inl (p, in_tile, (row, from, below, earlier))
      | inr later ↦ inr (sym in_tile.tile
          ∙ (λ i. (row i / tiles.side) * columns_of tiles + column_same x p.x tiles.side some later before i))
    ]

    upto_more : (t : ℕ) → HoldsUpto tiles span x t → HoldsUpto tiles span next t
    unfolding next
    upto_more t (p, in_tile, (row, from, below, before)) =
        (p, in_tile, (row, from, below, omega (arith, before, column_past x tiles.side some)))

    upto_here : (t : ℕ) → t ≡ tile_of tiles here → HoldsUpto tiles span next t
    unfolding next here
    upto_here t same =
        let in_tile : IsInTile tiles t here = record { inside = (inside_x, inside_y); tile = sym same } in
        (here, in_tile, (refl, first, within, column_past x tiles.side some))

    pub upto_next : {m q m1 q1 m2 q2 : List Bool} → Adds (HoldsUpto tiles span x) m q m1 q1
        → Adds (λ t. t ≡ tile_of tiles (record { x = x; y = span.y })) m1 q1 m2 q2
        → Adds (HoldsUpto tiles span ((x / tiles.side + 1) * tiles.side)) m q m2 q2
    unfolding next here
    upto_next a b = adds_more a b upto_parts upto_more upto_here

  pub upto_end : (x : ℕ) {m q m1 q1 : List Bool} → min span.end tiles.width ≤ x
      → Adds (HoldsUpto tiles span x) m q m1 q1 → Adds (HoldsSpan tiles span) m q m1 q1
  upto_end x past adds = adds_same adds
      (λ t (p, in_tile, held). let parts = has_parts span p held in
      (p, in_tile, (parts.0, parts.1, parts.2, omega (arith, past, parts.2, in_tile.inside.0))))
      (λ t (p, in_tile, (row, from, below, before)). (p, in_tile, parts_have span p row from below))

-- ---- the spans of a stroke

-- the tile holds a pixel of one of the first spans
abbrev pub HoldsSpans : Tiles → Seed → ℕ → ℕ → Type 0
HoldsSpans tiles seed n = HoldsOne tiles (λ p. IsTrue (list_any (λ span. span_has span p) (take n (spans_of seed))))

either_of : (a b : Bool) → IsTrue (a || b) → IsTrue a ⊎ IsTrue b
either_of true b held = inl refl
either_of false b held = inr held

first_of_two : (a b : Bool) → IsTrue a → IsTrue (a || b)
first_of_two true b held = refl
first_of_two false b held = absurd cc

second_of_two : (a b : Bool) → IsTrue b → IsTrue (a || b)
second_of_two true b held = refl
second_of_two false b held = held

any_of_one : (b : Bool) → (b || false) ≡ b
any_of_one true = refl
any_of_one false = refl

module _ (tiles : Tiles) (seed : Seed) where
  more_spans : (p : Pixel) (i : ℕ) (span : Span) → i < length (spans_of seed)
      → slice_get (spans_of seed) i ≡ Some span
      → list_any (λ s. span_has s p) (take (i + 1) (spans_of seed))
      ≡ (list_any (λ s. span_has s p) (take i (spans_of seed)) || span_has span p)
  more_spans p i span within is =
      let same : get_or (spans_of seed) i span ≡ span = get_or_from_slice_get (spans_of seed) i span span is in
      let longer : take (i + 1) (spans_of seed) ≡ take i (spans_of seed) ++ span ∷ [] =
      take_more (spans_of seed) i span within ∙ ap (λ s. take i (spans_of seed) ++ s ∷ []) same in
      ap (list_any (λ s. span_has s p)) longer
      ∙ list_any-append (λ s. span_has s p) (take i (spans_of seed)) (span ∷ [])
      ∙ ap (λ b. list_any (λ s. span_has s p) (take i (spans_of seed)) || b) (any_of_one (span_has span p))

  pub next_span : (i : ℕ) {span : Span} {m q m1 q1 m2 q2 : List Bool} → i < length (spans_of seed)
      → slice_get (spans_of seed) i ≡ Some span → Adds (HoldsSpans tiles seed i) m q m1 q1
      → Adds (HoldsSpan tiles span) m1 q1 m2 q2 → Adds (HoldsSpans tiles seed (i + 1)) m q m2 q2
  next_span i {span} within is a b =
      adds_more a b
      (λ t (p, in_tile, held).
      elim (either_of _ (span_has span p) (sym (more_spans p i span within is) ∙ held)) [
        | inl before ↦ inl (p, in_tile, before)
        | inr here ↦ inr (p, in_tile, here)
      ])
      (λ t (p, in_tile, held). (p, in_tile, more_spans p i span within is ∙ first_of_two _ (span_has span p) held))
      (λ t (p, in_tile, held). (
        p,
        in_tile,
        more_spans p i span within is
            ∙ second_of_two (list_any (λ s. span_has s p) (take i (spans_of seed))) (span_has span p) held,
      ))

  pub all_spans : (n : ℕ) {m q m1 q1 : List Bool} → n ≡ length (spans_of seed)
      → ((s : Seed) (p : Pixel) → covers s p ≡ list_any (λ span. span_has span p) (spans_of s))
      → Adds (HoldsSpans tiles seed n) m q m1 q1 → Adds (HoldsOne tiles (λ p. IsTrue (covers seed p))) m q m1 q1
  all_spans n all cover adds =
      let whole : take n (spans_of seed) ≡ spans_of seed = take_all n (spans_of seed) (omega (arith, all)) in
      let same : (p : Pixel) → list_any (λ span. span_has span p) (take n (spans_of seed)) ≡ covers seed p =
      λ p. ap (list_any (λ span. span_has span p)) whole ∙ sym (cover seed p) in
      adds_same adds (λ t (p, in_tile, held). (p, in_tile, same p ∙ held))
      (λ t (p, in_tile, held). (p, in_tile, sym (same p) ∙ held))

-- ---- the strokes that die

-- the tiles of a live stroke's pixels are those that lose the stroke of its tag
pub stroke_is_lost : (tiles : Tiles) (state : State) (tag : ℕ) (seed : Seed) {m q m1 q1 : List Bool}
    → HasStroke state tag seed → (HasTombstone state tag → ⊥)
    → Adds (HoldsOne tiles (λ p. IsTrue (covers seed p))) m q m1 q1
    → Adds (HoldsOne tiles (IsUnderLive state tag)) m q m1 q1
stroke_is_lost tiles state tag seed has live adds =
    adds_same adds
    (λ t (p, in_tile, (other, was, held)). (
      p,
      in_tile,
      subst (λ s. IsTrue (covers s p)) (one_seed other seed (sym was.0 ∙ has)) held,
    ))
    (λ t (p, in_tile, held). (p, in_tile, (seed, (has, live), held)))

-- what the walk over the tombstones keeps
pub record IsLosing (tiles : Tiles) (state delta : State) (m q m1 q1 : List Bool) (left : List ℕ) : Type 0 where
  pub grows : Grows m q m1 q1
  pub sound : (t : ℕ) → Has m1 t → Has m t ⊎ HoldsOne tiles (LosesStrokeTo state delta) t
  pub left_over : TombstonesLeft (λ tag. (t : ℕ) → HoldsOne tiles (IsUnderLive state tag) t → Has m1 t) delta left

module _ {tiles : Tiles} {state delta : State} where
  pub losing_begins : {m q : List Bool} {tags before : List ℕ} → before ≡ tags → AreTombstones delta tags
      → IsLosing tiles state delta m q m q before
  losing_begins {m = m} {tags = tags} {before = before} same walk = record {
    grows = grows_none;
    sound = λ t has. inl has;
    left_over = tombstones_begin (λ tag. (t : ℕ) → HoldsOne tiles (IsUnderLive state tag) t → Has m t) delta tags before
        same walk;
  }

  pub losing_goes_on : {m q m1 q1 m2 q2 : List Bool} {tag : ℕ} {before left : List ℕ} → before ≡ tag ∷ left
      → IsLosing tiles state delta m q m1 q1 before → Adds (HoldsOne tiles (IsUnderLive state tag)) m1 q1 m2 q2
      → IsLosing tiles state delta m q m2 q2 left
  losing_goes_on {m1 = m1} {m2 = m2} {tag = tag} {before = before} {left = left} same losing adds =
      let marked1 = λ (tag : ℕ). (t : ℕ) → HoldsOne tiles (IsUnderLive state tag) t → Has m1 t in
      let marked2 = λ (tag : ℕ). (t : ℕ) → HoldsOne tiles (IsUnderLive state tag) t → Has m2 t in
      let buried = tombstone_here marked1 delta tag left (subst (TombstonesLeft marked1 delta) same losing.left_over) in
      record {
        grows = grows_more losing.grows adds.grows;
        sound = λ t has. elim ((adds.marked t).0 has) [
          | inl earlier ↦ losing.sound t earlier
          | inr (p, in_tile, lost) ↦ inr (p, in_tile, (tag, buried, lost))
        ];
        left_over = tombstone_step marked1 marked2 delta tag before left same losing.left_over
            (λ other all t holds. adds.grows.kept t (all t holds)) (λ t holds. (adds.marked t).1 (inr holds));
      }

  pub losing_ends : {m q m1 q1 : List Bool} {left : List ℕ} → left ≡ [] → IsLosing tiles state delta m q m1 q1 left
      → Adds (HoldsOne tiles (LosesStrokeTo state delta)) m q m1 q1
  losing_ends {m1 = m1} none losing =
      let marked = λ (tag : ℕ). (t : ℕ) → HoldsOne tiles (IsUnderLive state tag) t → Has m1 t in
      let all = tombstones_end marked delta (subst (TombstonesLeft marked delta) none losing.left_over) in
      record {
        grows = losing.grows;
        marked = λ t. (
          losing.sound t,
          λ either. elim either [
            | inl had ↦ losing.grows.kept t had
            | inr (p, in_tile, (tag, buried, lost)) ↦ all tag buried t (p, in_tile, lost)
          ],
        );
      }
