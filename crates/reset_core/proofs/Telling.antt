-- Cores whose tiles are told hints that stand in no inbox yet, and the events by which these are handed over.
use Rattle.std.proofs.Common.{◌≡◌, ℕ, zero, suc, ◌+◌, ◌<◌, ◌≤◌, true, cond, List, [], ◌∷◌, ◌++◌, length, get_or, refl}
use Rattle.std.proofs.Common.{sym, ap, ◌∙◌, subst, arith, inl, inr, set, add-zero, zero-add, Some, Contains, remove}
use Rattle.std.proofs.Common.{slice_get}
use Rattle.std.proofs.lemmas.Bool.{cases_lt, cases_eq, eq-eqb, ne_eqb}
use Rattle.std.proofs.lemmas.List.{length-set, append-nil, ext_get_or}
use Rattle.grid_core.specs.{Raster.with_value, Tiles.Tiles, Tiles.tile_of}
use Rattle.border_queues.specs.{declared.hint.Hint.Hint, TileWork.TileWork, TileWork.idle, TileWork.received}
use Rattle.grid_core.proofs.Common.{here, later, first_or_later}
use Rattle.core_rules.specs.{declared.answers.Handed.TheVariants.Raised, declared.answers.Handed.TheVariants.Same}
use Rattle.core_rules.specs.{Sweeps.hints_for, Events.Hand, Events.OfHand}
use Rattle.core_rules.specs.Work.{Core, tiling, image_at, IsTile, work_at}
use Rattle.core_rules.specs.Hints.{hint_at, IsPresent, without_hint, raised, IsHanded}
use Rattle.core_rules.specs.Runs.{Entry, tiles_taken, NoneOut, IsNext, IsWorkedOff}
use Rattle.reset_core.specs.Telling.{ImageAndWork, image_and_work, risen_by, all_handed, hints_in, AreInTileOrder}
pub use Rattle.reset_core.specs.Telling.{with_image_and_work}
use Rattle.core_rules.proofs.Cores.{work_there, work_elsewhere, field_kept}
use Rattle.reset_core.proofs.TellingHands.{hint_rises, hint_stays}

-- ---- the work at each tile once hints have come

-- the work at each tile, the first tile having this number, once the hints for its pixels have come
abbrev pub told_rows : Tiles → List Hint → ℕ → List TileWork → List TileWork
told_rows tiles hints t [] = []
told_rows tiles hints t (work ∷ works) = received work (hints_in tiles hints t) ∷ told_rows tiles hints (t + 1) works

-- the core once each tile has got the hints for its pixels
abbrev pub telling : Core → List Hint → Core
telling core hints = record core { tiles = told_rows (tiling core) hints 0 core.tiles }

length-told_rows : (tiles : Tiles) (hints : List Hint) (t : ℕ) (works : List TileWork)
    → length (told_rows tiles hints t works) ≡ length works
length-told_rows tiles hints t [] = refl
length-told_rows tiles hints t (work ∷ works) = ap suc (length-told_rows tiles hints (t + 1) works)

at-told_rows : (tiles : Tiles) (hints : List Hint) (t : ℕ) (works : List TileWork) (k : ℕ) → k < length works
    → get_or (told_rows tiles hints t works) k idle ≡ received (get_or works k idle) (hints_in tiles hints (t + k))
at-told_rows tiles hints t [] k within = absurd (omega (arith, within))
at-told_rows tiles hints t (work ∷ works) zero within =
    ap (λ n. received work (hints_in tiles hints n)) (sym (add-zero t))
at-told_rows tiles hints t (work ∷ works) (suc k) within =
    let same : t + 1 + k ≡ t + suc k = omega arith in
    at-told_rows tiles hints (t + 1) works k (omega (arith, within))
    ∙ ap (λ n. received (get_or works k idle) (hints_in tiles hints n)) same

pub telling_count : (core : Core) (hints : List Hint) → length (telling core hints).tiles ≡ length core.tiles
telling_count core hints = length-told_rows (tiling core) hints 0 core.tiles

pub telling_work : (core : Core) (hints : List Hint) (t : ℕ) → IsTile core t
    → work_at (telling core hints) t ≡ received (work_at core t) (hints_for core t hints)
telling_work core hints t within =
    at-told_rows (tiling core) hints 0 core.tiles t within
    ∙ ap (λ n. received (work_at core t) (hints_for core n hints)) (zero-add t)

none_told_rows : (tiles : Tiles) (t : ℕ) (works : List TileWork) → told_rows tiles [] t works ≡ works
none_told_rows tiles t [] = refl
none_told_rows tiles t (work ∷ works) =
    let first : received work [] ≡ work = ap (λ hs. record work { inbox = hs }) (append-nil work.inbox) in
    λ i. first i ∷ none_told_rows tiles (t + 1) works i

-- with no hint it is the core itself
pub telling_none : (core : Core) → telling core [] ≡ core
telling_none core = ap (λ rows. record core { tiles = rows }) (none_told_rows (tiling core) 0 core.tiles)

-- lists of hints with equal parts for each tile tell the same
pub telling_same : (core : Core) (a b : List Hint)
    → ((t : ℕ) → IsTile core t → hints_for core t a ≡ hints_for core t b) → telling core a ≡ telling core b
telling_same core a b same =
    let count : length (telling core a).tiles ≡ length (telling core b).tiles =
    telling_count core a ∙ sym (telling_count core b) in
    ap (λ rows. record core { tiles = rows })
    (ext_get_or idle (telling core a).tiles (telling core b).tiles count (λ t within.
    let is_tile : IsTile core t = subst (λ n. t < n) (telling_count core a) within in
    telling_work core a t is_tile ∙ ap (received (work_at core t)) (same t is_tile)
    ∙ sym (telling_work core b t is_tile)))

-- ---- the first hint

pub first_for_its_tile : (tiles : Tiles) (hint : Hint) (rest : List Hint) (t : ℕ) → tile_of tiles hint.to_pixel ≡ t
    → hints_in tiles (hint ∷ rest) t ≡ hint ∷ hints_in tiles rest t
first_for_its_tile tiles hint rest t here =
    ap (λ b. cond b (hint ∷ hints_in tiles rest t) (hints_in tiles rest t))
    (eq-eqb (tile_of tiles hint.to_pixel) t here)

pub first_for_another : (tiles : Tiles) (hint : Hint) (rest : List Hint) (t : ℕ)
    → (tile_of tiles hint.to_pixel ≡ t → ⊥) → hints_in tiles (hint ∷ rest) t ≡ hints_in tiles rest t
first_for_another tiles hint rest t other =
    ap (λ b. cond b (hint ∷ hints_in tiles rest t) (hints_in tiles rest t))
    (ne_eqb (tile_of tiles hint.to_pixel) t other)

pub none_for : (tiles : Tiles) (hints : List Hint) (t : ℕ)
    → ((hint : Hint) → Contains hints hint → tile_of tiles hint.to_pixel ≡ t → ⊥) → hints_in tiles hints t ≡ []
none_for tiles [] t none = refl
none_for tiles (hint ∷ hints) t none =
    first_for_another tiles hint hints t (none hint (here hint hints hint refl))
    ∙ none_for tiles hints t (λ h there. none h (later hint hints h there))

first_removed : (work : TileWork) (hint : Hint) (hints : List Hint) → work.inbox ≡ []
    → record (received work (hint ∷ hints)) { inbox = remove (received work (hint ∷ hints)).inbox 0 }
    ≡ received work hints
first_removed work hint hints empty =
    let with_inbox : List Hint → TileWork = λ inbox. record work { inbox = inbox } in
    let removed : remove (hint ∷ hints) 0 ≡ hints = refl in
    ap (λ inbox. with_inbox (remove (inbox ++ hint ∷ hints) 0)) empty ∙ ap with_inbox removed
    ∙ ap (λ inbox. with_inbox (inbox ++ hints)) (sym empty)

-- without its first hint, a core that tells hints tells the others
without_first : (core : Core) (hint : Hint) (rest : List Hint) (u : ℕ) → tile_of (tiling core) hint.to_pixel ≡ u
    → IsTile core u → (work_at core u).inbox ≡ [] → without_hint (telling core (hint ∷ rest)) u 0 ≡ telling core rest
without_first core hint rest u here is_tile empty =
    let v = telling core (hint ∷ rest) in
    let work : TileWork = record (work_at v u) { inbox = remove (work_at v u).inbox 0 } in
    let set_count : length (set v.tiles u work) ≡ length core.tiles =
    length-set v.tiles u work ∙ telling_count core (hint ∷ rest) in
    let count : length (set v.tiles u work) ≡ length (telling core rest).tiles =
    set_count ∙ sym (telling_count core rest) in
    let at_u : work ≡ received (work_at core u) (hints_for core u rest) =
    ap (λ (w : TileWork). record w { inbox = remove w.inbox 0 }) (telling_work core (hint ∷ rest) u is_tile
    ∙ ap (received (work_at core u)) (first_for_its_tile (tiling core) hint rest u here))
    ∙ first_removed (work_at core u) hint (hints_for core u rest) empty in
    let is_tile_still : IsTile v u = subst (λ n. u < n) (sym (telling_count core (hint ∷ rest))) is_tile in
    ap (λ rows. record core { tiles = rows })
    (ext_get_or idle (set v.tiles u work) (telling core rest).tiles count (λ t within.
    let within_core : IsTile core t = subst (λ n. t < n) set_count within in
    elim (cases_eq t u) [
      | inl same ↦ rw same (work_there v u work is_tile_still ∙ at_u ∙ sym (telling_work core rest u is_tile))
      | inr other ↦
          work_elsewhere v u t work other ∙ telling_work core (hint ∷ rest) t within_core
          ∙ ap (received (work_at core t))
          (first_for_another (tiling core) hint rest t (λ same. other (sym same ∙ here)))
          ∙ sym (telling_work core rest t within_core)
    ]))

-- the core once the hint has raised its pixel
abbrev pub risen_core : Core → Hint → Core
risen_core core hint = with_image_and_work core (risen_by (tiling core) hint (image_and_work core))

-- raising a pixel of a core that tells hints
raised_telling : (core : Core) (hint : Hint) (rest : List Hint) → IsTile core (tile_of (tiling core) hint.to_pixel)
    → raised (telling core rest) hint ≡ telling (risen_core core hint) rest
raised_telling core hint rest is_tile =
    let u = tile_of (tiling core) hint.to_pixel in
    let v = telling core rest in
    let work : TileWork = record (work_at v u) { dirty = true } in
    let dirty : TileWork = record (work_at core u) { dirty = true } in
    let after = risen_core core hint in
    let set_count : length (set v.tiles u work) ≡ length core.tiles =
    length-set v.tiles u work ∙ telling_count core rest in
    let after_count : length after.tiles ≡ length core.tiles = length-set core.tiles u dirty in
    let count : length (set v.tiles u work) ≡ length (telling after rest).tiles =
    set_count ∙ sym after_count ∙ sym (telling_count after rest) in
    let at_u : work ≡ received dirty (hints_for core u rest) =
    ap (λ (w : TileWork). record w { dirty = true }) (telling_work core rest u is_tile) in
    let after_tile : (t : ℕ) → IsTile core t → IsTile after t =
    λ t within. subst (λ n. t < n) (sym after_count) within in
    let is_tile_still : IsTile v u = subst (λ n. u < n) (sym (telling_count core rest)) is_tile in
    ap (λ rows. record core { image = with_value core.image hint.to_pixel hint.value; tiles = rows })
    (ext_get_or idle (set v.tiles u work) (telling after rest).tiles count (λ t within.
    let within_core : IsTile core t = subst (λ n. t < n) set_count within in
    elim (cases_eq t u) [
      | inl same ↦
          rw same (work_there v u work is_tile_still ∙ at_u
          ∙ ap (λ w. received w (hints_for core u rest)) (sym (work_there core u dirty is_tile))
          ∙ sym (telling_work after rest u (after_tile u is_tile)))
      | inr other ↦
          work_elsewhere v u t work other ∙ telling_work core rest t within_core
          ∙ ap (λ w. received w (hints_for core t rest)) (sym (work_elsewhere core u t dirty other))
          ∙ sym (telling_work after rest t (after_tile t within_core))
    ]))

-- ---- hints that are to be handed over

-- no job is out and no hint waits in an inbox; the hints are to tiles of the core, by present ones, tile by tile
pub record AreToldAt (core : Core) (hints : List Hint) : Type 0 where
  pub none_out : NoneOut core
  pub none_wait : (t : ℕ) → IsTile core t → (work_at core t).inbox ≡ []
  pub to_tile : (hint : Hint) → Contains hints hint → IsTile core (tile_of (tiling core) hint.to_pixel)
  pub present : (hint : Hint) → Contains hints hint → IsPresent core hint
  pub order : AreInTileOrder (tiling core) hints

module _ (core : Core) (hint : Hint) (rest : List Hint) (told : AreToldAt core (hint ∷ rest)) where
  -- the tile of the first hint, and the core that tells all of them
  abbrev home : ℕ
  home = tile_of (tiling core) hint.to_pixel

  abbrev full : Core
  full = telling core (hint ∷ rest)

  home_is_tile : IsTile core home
  home_is_tile = told.to_tile hint (here hint rest hint refl)

  first_work : work_at full home ≡ received (work_at core home) (hint ∷ hints_for core home rest)
  first_work =
      telling_work core (hint ∷ rest) home home_is_tile
      ∙ ap (received (work_at core home)) (first_for_its_tile (tiling core) hint rest home refl)

  first_inbox : (work_at full home).inbox ≡ hint ∷ hints_for core home rest
  first_inbox =
      ap (λ (w : TileWork). w.inbox) first_work
      ∙ ap (λ inbox. inbox ++ hint ∷ hints_for core home rest) (told.none_wait home home_is_tile)

  is_tile_still : (t : ℕ) → IsTile core t → IsTile full t
  is_tile_still t within = subst (λ n. t < n) (sym (telling_count core (hint ∷ rest))) within

  was_tile : (t : ℕ) → IsTile full t → IsTile core t
  was_tile t within = subst (λ n. t < n) (telling_count core (hint ∷ rest)) within

  -- no hint is for a tile before that of the first
  none_before : (t : ℕ) → t < home → hints_for core t (hint ∷ rest) ≡ []
  none_before t less = none_for (tiling core) (hint ∷ rest) t (λ later there same.
      elim (first_or_later hint rest later there) [
        | inl first ↦
            let e : home ≡ tile_of (tiling core) later.to_pixel =
            ap (λ (h : Hint). tile_of (tiling core) h.to_pixel) first in
            omega (arith, e, same, less)
        | inr behind ↦ omega (arith, told.order.0 later behind, same, less)
      ])

  pub first_is_next : IsNext full (Hand home 0)
  first_is_next = (
    λ t within. ap (λ (w : TileWork). w.out) (telling_work core (hint ∷ rest) t (was_tile t within))
        ∙ told.none_out t (was_tile t within),
    (
      (
        is_tile_still home home_is_tile,
        λ none. let no : hint ∷ hints_for core home rest ≡ [] = sym first_inbox ∙ none in absurd cc,
      ),
      λ t waits. elim (cases_lt t home) [
        | inl less ↦
            let within = was_tile t waits.0 in
            absurd (waits.1 (ap (λ (w : TileWork). w.inbox) (telling_work core (hint ∷ rest) t within)
            ∙ ap (λ hs. (work_at core t).inbox ++ hs) (none_before t less)
            ∙ append-nil (work_at core t).inbox ∙ told.none_wait t within))
        | inr more ↦ more
      ],
    ),
    refl,
  )

  first_is_there : hint_at full home 0 ≡ Some hint
  first_is_there = ap (λ hs. slice_get hs 0) first_inbox

  first_present : IsPresent full hint
  first_present =
      let there = told.present hint (here hint rest hint refl) in
      record {
        is_tile = is_tile_still hint.from there.is_tile;
        generation =
            ap (λ (w : TileWork). w.generation) (telling_work core (hint ∷ rest) hint.from there.is_tile)
            ∙ there.generation;
      }

  first_left_out : without_hint full home 0 ≡ telling core rest
  first_left_out = without_first core hint rest home refl home_is_tile (told.none_wait home home_is_tile)

  pub hand_stays : hint.value ≤ image_at core hint.to_pixel → IsHanded full home 0 Same (telling core rest)
  hand_stays enough = (hint, first_is_there, first_present, enough, sym first_left_out)

  pub hand_rises : image_at core hint.to_pixel < hint.value → IsHanded full home 0 Raised
      (telling (risen_core core hint) rest)
  hand_rises above = (
    hint,
    first_is_there,
    first_present,
    above,
    sym (raised_telling core hint rest home_is_tile) ∙ ap (λ c. raised c hint) (sym first_left_out),
  )

  pub told_still : AreToldAt core rest
  told_still = record {
    none_out = told.none_out;
    none_wait = told.none_wait;
    to_tile = λ h there. told.to_tile h (later hint rest h there);
    present = λ h there. told.present h (later hint rest h there);
    order = told.order.1;
  }

  pub told_after : AreToldAt (risen_core core hint) rest
  told_after =
      let dirty : TileWork = record (work_at core home) { dirty = true } in
      let count : length (risen_core core hint).tiles ≡ length core.tiles = length-set core.tiles home dirty in
      let was : (t : ℕ) → IsTile (risen_core core hint) t → IsTile core t =
      λ t within. subst (λ n. t < n) count within in
      let still : (t : ℕ) → IsTile core t → IsTile (risen_core core hint) t =
      λ t within. subst (λ n. t < n) (sym count) within in
      record {
        none_out = λ t within.
            field_kept core home dirty (λ (w : TileWork). w.out) home_is_tile refl t ∙ told.none_out t (was t within);
        none_wait = λ t within. field_kept core home dirty (λ (w : TileWork). w.inbox) home_is_tile refl t
            ∙ told.none_wait t (was t within);
        to_tile = λ h there. still (tile_of (tiling core) h.to_pixel) (told.to_tile h (later hint rest h there));
        present = λ h there.
            let before = told.present h (later hint rest h there) in
            record {
              is_tile = still h.from before.is_tile;
              generation =
                  field_kept core home dirty (λ (w : TileWork). w.generation) home_is_tile refl h.from
                  ∙ before.generation;
            };
        order = told.order.1;
      }

-- ---- all hints

-- the second core is the first with all the hints handed over, one event for each: none of them takes a job, and no
-- hint waits then
pub record HandsOver (before after : Core) : Type 0 where
  pub log : List Entry
  pub works : IsWorkedOff before log after
  pub none_taken : tiles_taken log ≡ []
  pub none_out : NoneOut after
  pub none_wait : (t : ℕ) → IsTile after t → (work_at after t).inbox ≡ []

pub hands_over : (core : Core) (hints : List Hint) → AreToldAt core hints
    → HandsOver (telling core hints) (with_image_and_work core (all_handed (tiling core) hints (image_and_work core)))
hands_over core [] told = record {
  log = [];
  works = sym (telling_none core);
  none_taken = refl;
  none_out = told.none_out;
  none_wait = told.none_wait;
}
hands_over core (hint ∷ rest) told =
    let u = tile_of (tiling core) hint.to_pixel in
    let P : ImageAndWork → Type 0 = λ s.
    HandsOver (telling core (hint ∷ rest)) (with_image_and_work core (all_handed (tiling core) rest s)) in
    elim (cases_lt (image_at core hint.to_pixel) hint.value) [
      | inl above ↦
          let more = hands_over (risen_core core hint) rest (told_after core hint rest told) in
          subst P (sym (hint_rises (tiling core) hint (image_and_work core) above)) (record {
            log = (Hand u 0, OfHand Raised) ∷ more.log;
            works = (
              first_is_next core hint rest told,
              (telling (risen_core core hint) rest, hand_rises core hint rest told above, more.works),
            );
            none_taken = more.none_taken;
            none_out = more.none_out;
            none_wait = more.none_wait;
          })
      | inr enough ↦
          let more = hands_over core rest (told_still core hint rest told) in
          subst P (sym (hint_stays (tiling core) hint (image_and_work core) enough)) (record {
            log = (Hand u 0, OfHand Same) ∷ more.log;
            works = (
              first_is_next core hint rest told,
              (telling core rest, hand_stays core hint rest told enough, more.works),
            );
            none_taken = more.none_taken;
            none_out = more.none_out;
            none_wait = more.none_wait;
          })
    ]
