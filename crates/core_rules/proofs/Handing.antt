-- Handing over a hint keeps a core sound, and each other hint that waits as good as it was.
use Rattle.std.proofs.Common.{◌≡◌, ℕ, ◌<◌, ◌≤◌, true, length, refl, sym, ◌∙◌, ap, subst, arith, inl, inr, ◌⊎◌, Contains}
use Rattle.std.proofs.Common.{Some, None, IsTrue, remove, slice_get}
use Rattle.std.proofs.{lemmas.Bool.cases_lt, lemmas.Bool.cases_eq, lemmas.List.length-set, lemmas.List.get_or_past}
use Rattle.std.proofs.lemmas.Option.{slice_get_within}
use Rattle.grid_core.specs.{declared.pixel.Pixel.Pixel, Path.Inside, Tiles.tile_of}
use Rattle.grid_core.specs.Raster.{Raster, value_at, with_value, index_of}
use Rattle.grid_core.proofs.{Pixels.same_pixel_or_not, Cells.set_is_read, Cells.set_keeps_others}
use Rattle.border_queues.specs.{declared.hint.Hint.Hint, TileWork.TileWork, TileWork.idle}
use Rattle.core_rules.specs.{Image.IsOpen, Image.IsSupported, declared.answers.Handed.Handed}
use Rattle.core_rules.specs.declared.answers.Handed.TheVariants.{Raised, Same, Stale, Nothing}
use Rattle.core_rules.specs.Work.{Core, domain, tiling, mask_at, image_at, IsTile, work_at}
use Rattle.core_rules.specs.Hints.{hint_at, IsPresent, without_hint, raised, IsHanded}
use Rattle.core_rules.specs.Invariant.{IsValid, HasHint, HasWork, IsSound}
use Rattle.core_rules.proofs.Cores.{work_there, work_elsewhere, field_kept, inside_image, IsRise, sound_after}
use Rattle.core_rules.proofs.Cores.{told_after, open_before}
use Rattle.core_rules.proofs.Removals.{left_was_there, left_or_taken, taken_was_there}
use Rattle.core_rules.proofs.Supporting.{raise_is_supported}

-- a place of an inbox that has a hint is of a tile of the core
pub hint_of_tile : (core : Core) (t i : ℕ) (hint : Hint) → hint_at core t i ≡ Some hint → IsTile core t
hint_of_tile core t i hint there = elim (cases_lt t (length core.tiles)) [
  | inl within ↦ within
  | inr past ↦
      let none : hint_at core t i ≡ None =
      ap (λ (w : TileWork). slice_get w.inbox i) (get_or_past core.tiles t idle past) in
      let no : None ≡ Some hint = sym none ∙ there in
      absurd cc
]

-- what is left at the tile without that hint
abbrev pub left : Core → ℕ → ℕ → TileWork
left core t i = record (work_at core t) { inbox = remove (work_at core t).inbox i }

module _ (before : Core) (sound : IsSound before) (t i : ℕ) (hint : Hint) (there : hint_at before t i ≡ Some hint) where
  is_tile : IsTile before t
  is_tile = hint_of_tile before t i hint there

  abbrev lost : Core
  lost = without_hint before t i

  -- a hint that waits afterwards waited before
  waited : (u : ℕ) (h : Hint) → Contains (work_at lost u).inbox h → Contains (work_at before u).inbox h
  waited u h waits = elim (cases_eq u t) [
    | inl here ↦
        rw here (left_was_there (work_at before t).inbox i h (slice_get_within (work_at before t).inbox i hint there)
        (rw (here, work_there before t (left before t i) is_tile) at waits))
    | inr other ↦ rw (work_elsewhere before t u (left before t i) other) at waits
  ]

  -- a hint that waited waits still, or is the one that was handed over
  waits_still : (u : ℕ) (h : Hint) → Contains (work_at before u).inbox h
      → Contains (work_at lost u).inbox h ⊎ (h ≡ hint)
  waits_still u h waits = elim (cases_eq u t) [
    | inl here ↦ elim (left_or_taken (work_at before t).inbox i h hint there (rw here at waits)) [
      | inl still ↦ inl (rw (here, work_there before t (left before t i) is_tile) still)
      | inr taken ↦ inr taken
    ]
    | inr other ↦ inl (rw (work_elsewhere before t u (left before t i) other) waits)
  ]

  -- what is no matter of inboxes stays
  stays : {X : Type 0} (f : TileWork → X) → f (left before t i) ≡ f (work_at before t)
      → (u : ℕ) → f (work_at lost u) ≡ f (work_at before u)
  stays f same u = field_kept before t (left before t i) f is_tile same u

  -- ---- a hint that raises nothing

  lost_rise : IsRise before before.image lost.tiles
  lost_rise = record {
    rises = λ p inside. omega arith;
    count = length-set before.tiles t (left before t i);
    generations = λ u. stays (λ (w : TileWork). w.generation) refl u;
  }

  -- another hint that waits is as good as it was
  pub lost_told : (p q : Pixel) (told : HasHint before p q) → (told.hint ≡ hint → ⊥) → HasHint lost p q
  lost_told p q told other = elim (waits_still (tile_of (tiling before) q) told.hint told.waits) [
    | inl waits ↦ told_after before before.image lost.tiles before.serial lost_rise p q refl told waits
    | inr same ↦ absurd (other same)
  ]

  lost_work : ((p q : Pixel) → IsOpen (domain before) (mask_at before) (image_at before) p q
      → (told : HasHint before p q) → told.hint ≡ hint → ⊥) → (p q : Pixel)
      → IsOpen (domain before) (mask_at before) (image_at before) p q → HasWork before p q → HasWork lost p q
  lost_work needless p q pair (inl dirty) =
      inl (subst IsTrue (sym (stays (λ (w : TileWork). w.dirty) refl (tile_of (tiling before) p))) dirty)
  lost_work needless p q pair (inr (inl out)) =
      inr (inl (λ none. out (sym (stays (λ (w : TileWork). w.out) refl (tile_of (tiling before) p)) ∙ none)))
  lost_work needless p q pair (inr (inr told)) = inr (inr (lost_told p q told (needless p q pair told)))

  pub lost_sound : ((p q : Pixel) → IsOpen (domain before) (mask_at before) (image_at before) p q
      → (told : HasHint before p q) → told.hint ≡ hint → ⊥) → IsSound lost
  lost_sound needless =
      sound_after before before.image lost.tiles before.serial lost_rise sound sound.shape.image
      sound.supported (λ u h within waits. inl (waited u h waits))
      (λ p q pair. lost_work needless p q pair (sound.work p q pair))

  -- ---- a hint that raises its pixel

  pub home_is_tile : (valid : IsValid before t hint) → IsTile lost (tile_of (tiling before) hint.to_pixel)
  home_is_tile valid =
      let home : tile_of (tiling before) hint.to_pixel ≡ t = valid.to.tile in
      omega (arith, home, is_tile, length-set before.tiles t (left before t i))

  module _ (valid : IsValid before t hint) (present : IsPresent before hint)
      (above : image_at before hint.to_pixel < hint.value) where
    -- the tile of the pixel, the work there afterwards, and the image and the core then
    abbrev home : ℕ
    home = tile_of (tiling before) hint.to_pixel

    abbrev work : TileWork
    work = record (work_at lost home) { dirty = true }

    abbrev image : Raster
    image = with_value before.image hint.to_pixel hint.value

    abbrev after : Core
    after = raised lost hint

    -- what is no matter of dirty marks stays as without the hint
    marked : {X : Type 0} (f : TileWork → X) → ((work : TileWork) → f (record work { dirty = true }) ≡ f work)
        → (u : ℕ) → f (work_at after u) ≡ f (work_at lost u)
    marked f same u = field_kept lost home work f (home_is_tile valid) (same (work_at lost home)) u

    pub home_dirty : IsTrue (work_at after home).dirty
    home_dirty = rw (work_there lost home work (home_is_tile valid)) refl

    dirty_still : (u : ℕ) → IsTrue (work_at before u).dirty → IsTrue (work_at after u).dirty
    dirty_still u dirty =
        elim (cases_eq u home) [
          | inl here ↦ rw here home_dirty
          | inr other ↦ rw (work_elsewhere lost home u work other, stays (λ (w : TileWork). w.dirty) refl u) dirty
        ]

    pub at_home : value_at image hint.to_pixel ≡ hint.value
    at_home =
        set_is_read before.image hint.to_pixel hint.value sound.shape.image.filled
        (inside_image before hint.to_pixel sound.shape valid.to.inside)

    pub elsewhere : (p : Pixel) → Inside (domain before) p → (p ≡ hint.to_pixel → ⊥)
        → value_at image p ≡ image_at before p
    elsewhere p inside other =
        set_keeps_others before.image hint.to_pixel p hint.value
        (inside_image before hint.to_pixel sound.shape valid.to.inside) (inside_image before p sound.shape inside) other

    pub raised_rise : IsRise before image after.tiles
    raised_rise = record {
      rises = λ p inside. elim (same_pixel_or_not p hint.to_pixel) [
        | inl same ↦
            subst (λ (r : Pixel). image_at before r ≤ value_at image r)
            (sym same) (let e = at_home in omega (arith, e, above))
        | inr other ↦ omega (arith, elsewhere p inside other)
      ];
      count = length-set lost.tiles home work ∙ length-set before.tiles t (left before t i);
      generations = λ u.
          marked (λ (w : TileWork). w.generation) (λ w. refl) u ∙ stays (λ (w : TileWork). w.generation) refl u;
    }

    raised_supported : IsSupported (domain before) (mask_at before) sound.marker (value_at image)
    raised_supported =
        let can = valid.holds present in
        let e = at_home in
        raise_is_supported (domain before) (mask_at before) sound.marker (image_at before)
        (value_at image) can.p hint.to_pixel sound.supported
        can.from.inside valid.to.inside can.beside (omega (arith, e, above)) (omega (arith, e, can.enough)) elsewhere

    raised_waited : (u : ℕ) (h : Hint) → Contains (work_at after u).inbox h → Contains (work_at before u).inbox h
    raised_waited u h waits =
        waited u h (subst (λ hs. Contains hs h) (marked (λ (w : TileWork). w.inbox) (λ w. refl) u) waits)

    -- a hint for a pair that is open still is as good as it was, where the first pixel did not rise
    pub raised_told : (p q : Pixel) → (p ≡ hint.to_pixel → ⊥)
        → IsOpen (domain before) (mask_at before) (value_at image) p q → HasHint before p q → HasHint after p q
    raised_told p q other pair told =
        let same = elsewhere p pair.from_inside other in
        elim (waits_still (tile_of (tiling before) q) told.hint told.waits) [
          | inl waits ↦
              told_after before image after.tiles before.serial raised_rise p q same told
              (rw (marked (λ (w : TileWork). w.inbox) (λ w. refl) (tile_of (tiling before) q)) waits)
          | inr handed ↦
              let to : q ≡ hint.to_pixel = sym told.to ∙ ap (λ (h : Hint). h.to_pixel) handed in
              let value : told.hint.value ≡ hint.value = ap (λ (h : Hint). h.value) handed in
              let at_q : value_at image q ≡ hint.value = rw to at_home in
              absurd (omega (arith, at_q, value, same, pair.lower, told.enough))
        ]

    -- a pair whose first pixel did not rise
    raised_work : (p q : Pixel) → (p ≡ hint.to_pixel → ⊥) → IsOpen (domain before) (mask_at before) (value_at image) p q
        → HasWork before p q → HasWork after p q
    raised_work p q other pair (inl dirty) = inl (dirty_still (tile_of (tiling before) p) dirty)
    raised_work p q other pair (inr (inl out)) =
        let u = tile_of (tiling before) p in
        inr (inl (λ none.
        out (sym (marked (λ (w : TileWork). w.out) (λ w. refl) u ∙ stays (λ (w : TileWork). w.out) refl u) ∙ none)))
    raised_work p q other pair (inr (inr told)) = inr (inr (raised_told p q other pair told))

    pub raised_sound : IsSound after
    raised_sound =
        sound_after before image after.tiles before.serial raised_rise sound (record {
          width = sound.shape.image.width;
          height = sound.shape.image.height;
          filled = let old = sound.shape.image.filled in
              length-set before.image.cells (index_of before.image.width hint.to_pixel) hint.value ∙ old;
        }) raised_supported (λ u h within waits. inl (raised_waited u h waits)) (λ p q pair.
        elim (same_pixel_or_not p hint.to_pixel) [
          | inl same ↦
              inl (subst (λ (r : Pixel). IsTrue (work_at after (tile_of (tiling before) r)).dirty)
              (sym same) home_dirty)
          | inr other ↦
              let before_too = open_before before image after.tiles before.serial raised_rise p q
              (elsewhere p pair.from_inside other) pair in
              raised_work p q other pair (sound.work p q before_too)
        ])

-- a hint that raises nothing and leaves its inbox stood for no open pair: either it is not present
pub stale_is_needless : (before : Core) (hint : Hint) → (IsPresent before hint → ⊥) → (p q : Pixel)
    (told : HasHint before p q) → told.hint ≡ hint → ⊥
stale_is_needless before hint old p q told handed = old (subst (IsPresent before) handed told.present)

-- or its pixel is as high as it says
pub same_is_needless : (before : Core) (hint : Hint) → hint.value ≤ image_at before hint.to_pixel → (p q : Pixel)
    → IsOpen (domain before) (mask_at before) (image_at before) p q → (told : HasHint before p q) → told.hint ≡ hint
    → ⊥
same_is_needless before hint enough p q pair told handed =
    let to : hint.to_pixel ≡ q = sym (ap (λ (h : Hint). h.to_pixel) handed) ∙ told.to in
    let value : told.hint.value ≡ hint.value = ap (λ (h : Hint). h.value) handed in
    let at_q : hint.value ≤ image_at before q = subst (λ (r : Pixel). hint.value ≤ image_at before r) to enough in
    omega (arith, at_q, value, pair.lower, told.enough)

-- a hint that is raised was valid
valid_hint : (before : Core) (t i : ℕ) (hint : Hint) → IsSound before → hint_at before t i ≡ Some hint
    → IsValid before t hint
valid_hint before t i hint sound there =
    sound.hints t hint (hint_of_tile before t i hint there)
    (taken_was_there (work_at before t).inbox i hint there)

pub hand_keeps_sound : (before after : Core) (t i : ℕ) (handed : Handed) → IsSound before
    → IsHanded before t i handed after → IsSound after
hand_keeps_sound before after t i Nothing sound (none, same) = subst IsSound (sym same) sound
hand_keeps_sound before after t i Stale sound (hint, there, old, same) =
    subst IsSound (sym same) (lost_sound before sound t i hint there
    (λ p q pair told handed. stale_is_needless before hint old p q told handed))
hand_keeps_sound before after t i Raised sound (hint, there, present, above, same) =
    subst IsSound (sym same) (raised_sound before sound t i hint there (valid_hint before t i hint sound there)
    present above)
hand_keeps_sound before after t i Same sound (hint, there, present, enough, same) =
    subst IsSound (sym same) (lost_sound before sound t i hint there (same_is_needless before hint enough))

-- a hint for a pair that is open afterwards, and whose first pixel did not rise, is as good as it was
pub hand_keeps_told : (before after : Core) (t i : ℕ) (handed : Handed) (p q : Pixel) → IsSound before
    → IsHanded before t i handed after → IsOpen (domain before) (mask_at before) (image_at after) p q
    → image_at after p ≤ image_at before p → HasHint before p q → HasHint after p q
hand_keeps_told before after t i Nothing p q sound (none, same) pair low told =
    subst (λ (core : Core). HasHint core p q) (sym same) told
hand_keeps_told before after t i Stale p q sound (hint, there, old, same) pair low told =
    subst (λ (core : Core). HasHint core p q) (sym same)
    (lost_told before sound t i hint there p q told (stale_is_needless before hint old p q told))
hand_keeps_told before after t i Same p q sound (hint, there, present, enough, same) pair low told =
    let was : IsOpen (domain before) (mask_at before) (image_at before) p q =
    subst (λ (core : Core). IsOpen (domain before) (mask_at before) (image_at core) p q) same pair in
    subst (λ (core : Core). HasHint core p q) (sym same)
    (lost_told before sound t i hint there p q told (same_is_needless before hint enough p q was told))
hand_keeps_told before after t i Raised p q sound (hint, there, present, above, same) pair low told =
    let valid = valid_hint before t i hint sound there in
    let image : Raster = with_value before.image hint.to_pixel hint.value in
    let is_open : IsOpen (domain before) (mask_at before) (value_at image) p q =
    subst (λ (core : Core). IsOpen (domain before) (mask_at before) (image_at core) p q) same pair in
    let at_most : value_at image p ≤ image_at before p =
    subst (λ (core : Core). image_at core p ≤ image_at before p) same low in
    let other : p ≡ hint.to_pixel → ⊥ = λ here.
    let high = at_home before sound t i hint there valid present above in
    let there_too : value_at image hint.to_pixel ≤ image_at before hint.to_pixel =
    subst (λ (r : Pixel). value_at image r ≤ image_at before r) here at_most in
    omega (arith, high, above, there_too) in
    subst (λ (core : Core). HasHint core p q) (sym same)
    (raised_told before sound t i hint there valid present above p q other is_open told)
