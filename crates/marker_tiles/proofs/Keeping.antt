-- The marker of a state, from that of the state before and from what changed.
use Rattle.std.proofs.Common.{◌≡◌, ℕ, ◌≤◌, ◌⊎◌, inl, inr, Bool, true, false, min, max, List, [], ◌∷◌, refl, sym, ap}
use Rattle.std.proofs.Common.{subst, ◌∙◌, arith, Option, Some, None, Contains, IsTrue, if◌then◌else◌}
use Rattle.grid_core.specs.{declared.pixel.Pixel.Pixel, declared.conn.Conn.TheVariants.Four, Path.domain_of}
use Rattle.grid_core.specs.{Tiles.Tiles}
use Rattle.grid_core.specs.Raster.{Raster, IsInside, IsSized, value_at, IsOfSize}
use Rattle.grid_core.proofs.Cells.{each_pixel_below}
use Rattle.grid_core.proofs.Common.{first, later, first_or_later, not_in_empty, or_left, or_right, true_or_false}
use Rattle.grid_core.proofs.Common.{true_or_not}
use Rattle.stroke_core.specs.Seed.{Seed, covers}
use Rattle.stroke_lattice.specs.State.{State, HasStroke, IsLiveTag, IsBelow}
use Rattle.stroke_lattice.specs.Change.{Turnover, IsChange}
use Rattle.marker_tiles.specs.{declared.window.Window.Window, Kept.IsMarkerOf, Kept.HasGrown, Marker.IsMarkedAt}
use Rattle.marker_tiles.specs.{Marker.IsTopLevel, InOrder.IsInOrder, Painting.in_some}
use Rattle.marker_tiles.specs.UnderTags.{level_if, covers_if, level_of_some, some_covers, IsBlankOn, IsRaisedBy}
use Rattle.marker_tiles.specs.UnderTags.{IsClearedOf, IsRaisedByLive}
use Rattle.marker_tiles.proofs.Existence.{top_at, has_top}
use Rattle.marker_tiles.proofs.Levels.{level_or_none, level_where, marker_within}
use Rattle.std.specs.FinMap as map
use Rattle.std.specs.FinSet as set

-- ---- tags and their strokes

live_if : (s : State) (tag : ℕ) (has : Option Seed) (gone : Bool) → map.get s.strokes tag ≡ has
    → set.contains s.tombstones tag ≡ gone → IsLiveTag s tag ⊎ (IsLiveTag s tag → ⊥)
live_if s tag None gone e f = inr (λ live. let both : ◌≡◌ {A = Option Seed} None (Some live.0) = sym e ∙ live.1.0 in cc)
live_if s tag (Some seed) true e f = inr (λ live. live.1.1 f)
live_if s tag (Some seed) false e f = inl (seed, (e, λ gone. let both : false ≡ true = sym f ∙ gone in cc))

-- a tag is live or not
live_or_not : (s : State) (tag : ℕ) → IsLiveTag s tag ⊎ (IsLiveTag s tag → ⊥)
live_or_not s tag = live_if s tag (map.get s.strokes tag) (set.contains s.tombstones tag) refl refl

some_same : (x y : Seed) → Some x ≡ Some y → x ≡ y
some_same x y e = cc

-- a stroke is the only one under its tag
one_stroke : (s : State) (tag : ℕ) (x y : Seed) → HasStroke s tag x → HasStroke s tag y → x ≡ y
one_stroke s tag x y has also = some_same x y (sym has ∙ also)

-- ---- the strokes under tags

-- the stroke under one of the tags covers the pixel
tag_covers : (s : State) (tags : List ℕ) (p : Pixel) (tag : ℕ) (seed : Seed) → Contains tags tag
    → HasStroke s tag seed → IsTrue (covers seed p) → IsTrue (some_covers s tags p)
tag_covers s [] p tag seed member has covered = absurd (not_in_empty tag member)
tag_covers s (t ∷ tags) p tag seed member has covered = elim (first_or_later t tags tag member) [
  | inl here ↦
      or_left (covers_if (map.get s.strokes t) p) (some_covers s tags p)
      (ap (λ u. covers_if (map.get s.strokes u) p) here ∙ ap (λ o. covers_if o p) has ∙ covered)
  | inr there ↦
      or_right (covers_if (map.get s.strokes t) p) (some_covers s tags p)
      (tag_covers s tags p tag seed there has covered)
]

-- its level is at most the greatest of theirs
level_of_tag : (s : State) (tags : List ℕ) (p : Pixel) (tag : ℕ) (seed : Seed) → Contains tags tag
    → HasStroke s tag seed → IsTrue (covers seed p) → seed.level ≤ level_of_some s tags p
level_of_tag s [] p tag seed member has covered = absurd (not_in_empty tag member)
level_of_tag s (t ∷ tags) p tag seed member has covered = elim (first_or_later t tags tag member) [
  | inl here ↦
      let same : level_if (map.get s.strokes t) p ≡ seed.level =
      ap (λ u. level_if (map.get s.strokes u) p) here ∙ ap (λ o. level_if o p) has
      ∙ level_where (covers seed p) seed.level covered in
      omega arith
  | inr there ↦
      let below : seed.level ≤ level_of_some s tags p = level_of_tag s tags p tag seed there has covered in
      omega arith
]

-- the level of a live tag is at most the greatest at the pixel
live_level : (s : State) (p : Pixel) (top tag : ℕ) → IsTopLevel s p top → IsLiveTag s tag
    → level_if (map.get s.strokes tag) p ≤ top
live_level s p top tag is live =
    let seed = live.0 in
    let level : level_if (map.get s.strokes tag) p ≡ (if covers seed p then seed.level else 0) =
    ap (λ o. level_if o p) live.1.0 in
    elim (level_or_none (covers seed p) seed.level) [
      | inl has ↦
          let below : seed.level ≤ top =
          is.greatest seed.level
          (record { tag = tag; seed = seed; live = live.1; covered = has.0; same_level = refl }) in
          omega (arith, has.1)
      | inr none ↦ omega arith
    ]

-- and so is the greatest level of live tags
live_levels : (s : State) (p : Pixel) (top : ℕ) (tags : List ℕ) → IsTopLevel s p top
    → ((tag : ℕ) → Contains tags tag → IsLiveTag s tag) → level_of_some s tags p ≤ top
live_levels s p top [] is live = omega arith
live_levels s p top (tag ∷ tags) is live =
    let here : level_if (map.get s.strokes tag) p ≤ top = live_level s p top tag is (live tag (first tag tags)) in
    let rest : level_of_some s tags p ≤ top =
    live_levels s p top tags is (λ t member. live t (later tag tags t member)) in
    omega arith

-- ---- before and after a change

module _ (before after : State) (change : Turnover) (rises : IsBelow before after)
    (is : IsChange before after change) (p : Pixel) (old top : ℕ) (was : IsTopLevel before p old)
    (now : IsTopLevel after p top) where
  -- a live stroke was live before, or was born
  live_was_or_born : IsMarkedAt after p top → top ≤ max old (level_of_some after change.born p)
  live_was_or_born marked = elim (live_or_not before marked.tag) [
    | inl live ↦
        let same : live.0 ≡ marked.seed =
        one_stroke after marked.tag live.0 marked.seed (rises.strokes marked.tag live.0 live.1.0) marked.live.0 in
        let stood : IsMarkedAt before p top = record {
          tag = marked.tag;
          seed = marked.seed;
          live = (subst (HasStroke before marked.tag) same live.1.0, live.1.1);
          covered = marked.covered;
          same_level = marked.same_level;
        } in
        omega (arith, was.greatest top stood)
    | inr not_live ↦
        let member : Contains change.born marked.tag =
        (is.born marked.tag).1 ((marked.seed, marked.live), not_live) in
        let level : marked.seed.level ≤ level_of_some after change.born p =
        level_of_tag after change.born p marked.tag marked.seed member marked.live.0 marked.covered in
        omega (arith, marked.same_level)
  ]

  -- so the new level is that of one of the two
  pub at_most_either : top ≤ max old (level_of_some after change.born p)
  at_most_either = elim now.attained [ inl none ↦ omega arith | inr marked ↦ live_was_or_born marked ]

  -- the strokes that were born are live
  pub born_at_most : level_of_some after change.born p ≤ top
  born_at_most = live_levels after p top change.born now (λ tag member. ((is.born tag).0 member).0)

  -- where none of the dead covers the pixel, a stroke that was live there still is
  still_live : (some_covers after change.dead p ≡ true → ⊥) → IsMarkedAt before p old → old ≤ top
  still_live none marked =
      let has : HasStroke after marked.tag marked.seed = rises.strokes marked.tag marked.seed marked.live.0 in
      elim (true_or_not (set.contains after.tombstones marked.tag)) [
        | inl gone ↦
            let member : Contains change.dead marked.tag =
            (is.dead marked.tag).1 ((marked.seed, marked.live), λ live. live.1.1 gone) in
            absurd (none (tag_covers after change.dead p marked.tag marked.seed member has marked.covered))
        | inr alive ↦
            now.greatest old (record {
              tag = marked.tag;
              seed = marked.seed;
              live = (has, alive);
              covered = marked.covered;
              same_level = marked.same_level;
            })
      ]

  pub old_at_most : (some_covers after change.dead p ≡ true → ⊥) → old ≤ top
  old_at_most none = elim was.attained [ inl zero_level ↦ omega arith | inr marked ↦ still_live none marked ]

-- ---- the images of a change

at_most_if : (b : Bool) (n : ℕ) → (if b then n else 0) ≤ n
at_most_if true n = omega arith
at_most_if false n = omega arith

module _ (mask old raised : Raster) (after : State) (change : Turnover) (grown : HasGrown mask old after change)
    (born : IsRaisedBy after change.born mask old raised) (p : Pixel)
    (inside : IsInside mask.width mask.height p) where
  -- where none of the dead covers the pixel, painting those that were born is enough
  raised_is_right : (top : ℕ) → IsTopLevel after p top → (some_covers after change.dead p ≡ true → ⊥)
      → value_at raised p ≡ min (value_at mask p) top
  raised_is_right top now none =
      let was = grown.was Four p inside in
      let before = grown.before in
      let either = at_most_either before after change grown.rises grown.changed p was.0 top was.1 now in
      let from_born = born_at_most before after change grown.rises grown.changed p was.0 top was.1 now in
      let from_old = old_at_most before after change grown.rises grown.changed p was.0 top was.1 now none in
      omega (arith, either, from_born, from_old, was.2, born.values p inside)

  -- and elsewhere clearing and painting the live ones is
  live_is_right : (cleared new : Raster) (ws : List Window) → IsClearedOf after change.dead mask raised cleared
      → (IsTrue (some_covers after change.dead p) → IsTrue (in_some ws p))
      → IsRaisedByLive after ws mask cleared new
      → (top : ℕ) × IsTopLevel after p top × (value_at new p ≡ min (value_at mask p) top)
  live_is_right cleared new ws clear covered live =
      let now = live.values p inside in
      let top = now.0 in
      elim (true_or_false (some_covers after change.dead p)) [
        | inl dead ↦
            let none : value_at cleared p ≡ 0 =
            clear.values p inside ∙ ap (λ t. if t then 0 else value_at raised p) dead in
            let within : (if in_some ws p then top else 0) ≡ top =
            ap (λ t. if t then top else 0) (covered dead) in
            (top, now.1, omega (arith, none, within, now.2))
        | inr kept ↦
            let same : value_at cleared p ≡ value_at raised p =
            clear.values p inside ∙ ap (λ t. if t then 0 else value_at raised p) kept in
            let right : value_at raised p ≡ min (value_at mask p) top =
            raised_is_right top now.1 (λ dead. let both : true ≡ false = sym dead ∙ kept in cc) in
            (top, now.1, omega (arith, same, right, at_most_if (in_some ws p) top, now.2))
      ]

pub marks_where_none_died : (mask old raised : Raster) (after : State) (change : Turnover)
    → HasGrown mask old after change → IsRaisedBy after change.born mask old raised → change.dead ≡ []
    → IsMarkerOf mask after raised
marks_where_none_died mask old raised after change grown born none conn p inside =
    let top = top_at after p in
    let now = has_top after p in
    let nothing_covers : some_covers after change.dead p ≡ false = ap (λ tags. some_covers after tags p) none in (
      top,
      now,
      raised_is_right mask old raised after change grown born p inside top now
          (λ dead. let both : true ≡ false = sym dead ∙ nothing_covers in cc),
    )

pub marks_where_some_died : (mask old raised cleared new : Raster) (after : State) (change : Turnover)
    (ws : List Window)
    → HasGrown mask old after change → IsRaisedBy after change.born mask old raised
    → IsClearedOf after change.dead mask raised cleared
    → ((p : Pixel) → IsInside mask.width mask.height p → IsTrue (some_covers after change.dead p)
    → IsTrue (in_some ws p))
    → IsRaisedByLive after ws mask cleared new → IsMarkerOf mask after new
marks_where_some_died mask old raised cleared new after change ws grown born clear covered live conn p inside =
    live_is_right mask old raised after change grown born p inside cleared new ws clear (covered p inside) live

-- ---- the state without strokes

pub blank_marks_nothing : (mask image : Raster) (empty : State)
    → ((tag : ℕ) (seed : Seed) → HasStroke empty tag seed → ⊥) → IsBlankOn mask image → IsMarkerOf mask empty image
blank_marks_nothing mask image empty none blank conn p inside =
    let is : IsTopLevel empty p 0 = record {
      attained = inl refl;
      greatest = λ level marked. absurd (none marked.tag marked.seed marked.live.0);
    } in
    (0, is, omega (arith, blank.values p inside))

-- ---- what is true of each kept marker

pub kept_is_in_order : (mask image : Raster) (tiling : Tiles) (s : State) → IsSized mask → IsOfSize mask image
    → IsMarkerOf mask s image → tiling.width ≡ mask.width → tiling.height ≡ mask.height
    → IsInOrder (record { mask = mask; marker = image; tiling = tiling })
kept_is_in_order mask image tiling s sized size marks same_width same_height = record {
  mask_sized = sized;
  marker_sized = record { size = rw (size.width, size.height) sized.size; filled = size.filled };
  below = each_pixel_below image mask size.filled size.width size.height
      (λ p inside.
      let within : IsInside mask.width mask.height p = rw (← size.width, ← size.height) inside in
      marker_within (domain_of mask Four) (value_at mask) s (value_at image) (marks Four) p within);
  width = same_width;
  height = same_height;
}
