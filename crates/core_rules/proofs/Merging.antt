-- Taking a delta keeps a core sound, and each hint from a tile that is not hit as good as it was.
use Rattle.std.proofs.Common.{◌≡◌, ℕ, ◌<◌, ◌≤◌, max, List, [], ◌∷◌, refl, sym, ◌∙◌, ap, subst, arith, inl, inr}
use Rattle.std.proofs.Common.{Contains}
use Rattle.std.proofs.lemmas.Bool.{cases_lt}
use Rattle.std.specs.List.{AllByRecursion}
use Rattle.grid_core.specs.{declared.pixel.Pixel.Pixel, Tiles.tile_of}
use Rattle.grid_core.specs.Path.{Inside, IsPath, end_of, Reaches}
use Rattle.grid_core.proofs.{Pixels.AreNeighbours-sym, Reach.IsPath-inside, Reach.reaches_here}
use Rattle.grid_core.proofs.Tilings.{neighbours_lie_in_touching_tiles}
use Rattle.stroke_lattice.specs.{State.State, Change.Turnover}
use Rattle.stroke_lattice.proofs.Joins.{join_is_union}
use Rattle.border_queues.specs.{declared.hint.Hint.Hint, TileWork.TileWork}
use Rattle.core_rules.specs.{Image.IsOpen, Image.IsSupported, Merge.IsKept, Merge.IsMerged, Hints.IsPresent}
use Rattle.core_rules.specs.Work.{Core, domain, tiling, mask_at, image_at, IsTile, work_at}
use Rattle.core_rules.specs.Hits.{IsInTile, AreLinked, IsHit}
use Rattle.core_rules.specs.Invariant.{CanRaise, IsValid, HasHint, HasWork, IsSound}
use Rattle.tile_generations.specs.Generations.{max_generation}
use Rattle.core_rules.proofs.Cores.{tile_of_pixel}

-- the core with these
abbrev pub merged_core : Core → Core → Core
merged_core before after = record before { state = after.state; image = after.image; tiles = after.tiles }

module _ (before after : Core) (delta : State) (turnover : Turnover) (sound : IsSound before)
    (merged : IsMerged before delta turnover after) where
  -- ---- tiles of pixels

  abbrev home : Pixel → ℕ
  home p = tile_of (tiling before) p

  -- the tile is not hit
  abbrev IsSpared : ℕ → Type 0
  IsSpared t = IsHit before after.state t → ⊥

  abbrev now : Core
  now = merged_core before after

  in_its_tile : (p : Pixel) → Inside (domain before) p → IsInTile (tiling before) (home p) p
  in_its_tile p inside = record { inside = inside; tile = refl }

  -- a tile that is hit hits the tiles that it is linked to
  hits_next : (p q : Pixel) → Inside (domain before) p → Inside (domain before) q
      → AreLinked (tiling before) before.image before.conn (home q) (home p) → IsSpared (home p)
      → IsHit before after.state (home q) → ⊥
  hits_next p q inside_p inside_q linked spared (list, lead) = spared (tile_of (tiling before) q ∷ list, (lead, linked))

  -- ---- markers

  -- in a tile that is not hit the marker is nowhere less than before
  marker_rises : (p : Pixel) → Inside (domain before) p → IsSpared (home p) → sound.marker p ≤ merged.marker p
  marker_rises p inside spared =
      let (top, is_top, value) = sound.is_marker p inside in
      let (new_top, is_new_top, new_value) = merged.is_marker p inside in
      let rises : top ≤ new_top = elim is_top.attained [
        | inl none ↦ omega (arith, none)
        | inr marked ↦ is_new_top.greatest top (record {
          tag = marked.tag;
          seed = marked.seed;
          live = (
            merged.join.first.strokes marked.tag marked.seed marked.live.0,
            λ dead. spared (
              [],
              (
                p,
                in_its_tile p inside,
                record {
                  tag = marked.tag;
                  seed = marked.seed;
                  was = marked.live;
                  is_dead = λ (other, live). live.1 dead;
                  covered = marked.covered;
                },
              ),
            ),
          );
          covered = marked.covered;
          same_level = marked.same_level;
        })
      ] in
      omega (arith, rises, value, new_value)

  marker_within_mask : (p : Pixel) → Inside (domain before) p → merged.marker p ≤ mask_at before p
  marker_within_mask p inside =
      let (top, is_top, value) = merged.is_marker p inside in
      omega (arith, value)

  -- ---- the image

  kept_image : (p : Pixel) → Inside (domain before) p → IsSpared (home p)
      → image_at after p ≡ max (image_at before p) (merged.marker p)
  kept_image p inside spared = elim (merged.each (home p) (tile_of_pixel before p sound.shape inside)) [
    | inl (hit, reset) ↦ absurd (spared hit)
    | inr (no_hit, kept) ↦ kept.image p (in_its_tile p inside)
  ]

  -- a path above 0 from a tile that is not hit stays in such tiles, and there image and marker do not fall
  path_is_kept : (k : ℕ) → 0 < k → (p : Pixel) (rest : List Pixel) → IsPath (domain before) p rest
      → AllByRecursion (λ q. k ≤ image_at before q) (p ∷ rest) → k ≤ sound.marker (end_of p rest) → IsSpared (home p)
      → AllByRecursion (λ q. k ≤ image_at after q) (p ∷ rest) × (k ≤ merged.marker (end_of p rest))
  path_is_kept k positive p [] path all end spared =
      ((omega (arith, kept_image p path spared, all.0), tt), omega (arith, marker_rises p path spared, end))
  path_is_kept k positive p (q ∷ rest) path all end spared =
      let inside_q = IsPath-inside (domain before) q rest path.2 in
      let at_p : k ≤ image_at before p = all.0 in
      let at_q : k ≤ image_at before q = all.1.0 in
      let linked : AreLinked (tiling before) before.image before.conn (home q)
      (home p) = record {
        p = q;
        q = p;
        from = in_its_tile q inside_q;
        to = in_its_tile p path.0;
        beside = AreNeighbours-sym before.conn p q path.1;
        from_above = omega (arith, at_q);
        to_above = omega (arith, at_p);
      } in
      let (others, ends) = path_is_kept k positive q rest path.2 all.1 end
      (hits_next p q path.0 inside_q linked spared) in
      ((omega (arith, kept_image p path.0 spared, at_p), others), ends)

  at_marker : (p : Pixel) → Inside (domain before) p → image_at after p ≡ merged.marker p
      → (merged.marker p ≤ image_at after p) × (image_at after p ≤ mask_at before p)
      × Reaches (domain before) (image_at after) merged.marker p (image_at after p)
  at_marker p inside same = (
    omega (arith, same),
    omega (arith, same, marker_within_mask p inside),
    reaches_here (domain before) (image_at after) merged.marker p (image_at after p) inside (omega arith)
        (omega (arith, same)),
  )

  supported : IsSupported (domain before) (mask_at before) merged.marker (image_at after)
  supported p inside = elim (merged.each (home p) (tile_of_pixel before p sound.shape inside)) [
    | inl (hit, reset) ↦ at_marker p inside (reset.image p (in_its_tile p inside))
    | inr (spared, kept) ↦
        let image = kept.image p (in_its_tile p inside) in
        elim (cases_lt (merged.marker p) (image_at before p)) [
          | inl above ↦
              let was = sound.supported p inside in
              let same : image_at after p ≡ image_at before p = omega (arith, image, above) in
              let (rest, path, all, end) = was.2 in
              let (new_all, new_end) =
              path_is_kept (image_at before p) (omega (arith, above)) p rest path all end spared in (
                omega (arith, same, above),
                omega (arith, same, was.1),
                subst (Reaches (domain before) (image_at after) merged.marker p) (sym same)
                    (rest, path, new_all, new_end),
              )
          | inr at_most ↦ at_marker p inside (omega (arith, image, at_most))
        ]
  ]

  -- ---- the work at tiles

  same_inbox : (t : ℕ) → IsTile before t → (work_at after t).inbox ≡ (work_at before t).inbox
  same_inbox t within = elim (merged.each t within) [
    | inl (hit, reset) ↦ ap (λ (w : TileWork). w.inbox) reset.work
    | inr (spared, kept) ↦ ap (λ (w : TileWork). w.inbox) kept.work
  ]

  generation_rises : (t : ℕ) → IsTile before t → (work_at before t).generation ≤ (work_at after t).generation
  generation_rises t within = elim (merged.each t within) [
    | inl (hit, reset) ↦ omega (arith, ap (λ (w : TileWork). w.generation) reset.work)
    | inr (spared, kept) ↦ omega (arith, ap (λ (w : TileWork). w.generation) kept.work)
  ]

  -- a tile whose generation is as before is not hit
  same_generation_spares : (t : ℕ) → IsTile before t
      → (work_at after t).generation ≤ (work_at before t).generation → IsHit before after.state t → ⊥
  same_generation_spares t within same = elim (merged.each t within) [
    | inl (hit, reset) ↦ absurd (omega (arith, ap (λ (w : TileWork). w.generation) reset.work, same))
    | inr (spared, kept) ↦ spared
  ]

  spared_generation : (t : ℕ) → IsTile before t → IsSpared t
      → (work_at after t).generation ≡ (work_at before t).generation
  spared_generation t within spared = elim (merged.each t within) [
    | inl (hit, reset) ↦ absurd (spared hit)
    | inr (no_hit, kept) ↦ ap (λ (w : TileWork). w.generation) kept.work
  ]

  generations : (t : ℕ) → IsTile before t → (work_at after t).generation ≤ max_generation
  generations t within = elim (merged.each t within) [
    | inl (hit, reset) ↦ omega (arith, ap (λ (w : TileWork). w.generation) reset.work, merged.unspent t hit)
    | inr (spared, kept) ↦
        omega (arith, ap (λ (w : TileWork). w.generation) kept.work, sound.shape.generations t within)
  ]

  -- ---- hints

  was_tile : (t : ℕ) → IsTile now t → IsTile before t
  was_tile t within = subst (λ n. t < n) merged.count within

  is_tile_still : (t : ℕ) → IsTile before t → IsTile now t
  is_tile_still t within = subst (λ n. t < n) (sym merged.count) within

  hint_holds : (t : ℕ) (hint : Hint) → IsValid before t hint → IsPresent now hint
      → CanRaise now hint.from hint.to_pixel hint.value
  hint_holds t hint valid present =
      let generation : (work_at after hint.from).generation ≡ hint.from_generation = present.generation in
      let spared = same_generation_spares hint.from valid.from (omega (arith, valid.earlier, generation)) in
      let can = valid.holds (record {
        is_tile = valid.from;
        generation = omega (arith, spared_generation hint.from valid.from spared, generation);
      }) in
      let image = kept_image can.p can.from.inside
      (λ hit. spared (subst (IsHit before after.state) can.from.tile hit)) in
      record {
        p = can.p;
        from = record { inside = can.from.inside; tile = can.from.tile };
        beside = can.beside;
        enough = omega (arith, can.enough, image);
      }

  hint_valid : (t : ℕ) (hint : Hint) → IsValid before t hint → IsValid now t hint
  hint_valid t hint valid = record {
    to = record { inside = valid.to.inside; tile = valid.to.tile };
    from = is_tile_still hint.from valid.from;
    earlier = omega (arith, generation_rises hint.from valid.from, valid.earlier);
    holds = λ present. hint_holds t hint valid present;
  }

  -- ---- open pairs

  -- a pair between tiles that are not hit, whose first pixel did not rise, was open before
  was_open : (p q : Pixel) → IsOpen (domain before) (mask_at before) (image_at after) p q
      → image_at after p ≤ image_at before p → IsSpared (home q)
      → IsOpen (domain before) (mask_at before) (image_at before) p q
  was_open p q pair no_rise spared_q =
      record {
        from_inside = pair.from_inside;
        to_inside = pair.to_inside;
        beside = pair.beside;
        lower = omega (arith, kept_image q pair.to_inside spared_q, pair.lower, no_rise);
      }

  -- a hint from a tile that is not hit is as good as it was, where the first pixel did not rise
  pub told_still : (p q : Pixel) → Inside (domain before) p → Inside (domain before) q
      → image_at after p ≤ image_at before p → IsSpared (home p) → HasHint before p q → HasHint now p q
  told_still p q inside_p inside_q no_rise spared told =
      let same = spared_generation (home p) (tile_of_pixel before p sound.shape inside_p) spared in
      record {
        hint = told.hint;
        waits = rw (same_inbox (home q) (tile_of_pixel before q sound.shape inside_q)) told.waits;
        from = told.from;
        to = told.to;
        present = record {
          is_tile = is_tile_still told.hint.from told.present.is_tile;
          generation = rw told.from same ∙ told.present.generation;
        };
        enough = omega (arith, told.enough, no_rise);
      }

  still_work : (p q : Pixel) → IsOpen (domain before) (mask_at before) (image_at after) p q
      → image_at after p ≤ image_at before p → IsSpared (home p)
      → IsKept before merged.marker after (home p) → HasWork before p q → HasWork now p q
  still_work p q pair no_rise spared kept (inl dirty) = inl (kept.dirty.1 (inl dirty))
  still_work p q pair no_rise spared kept (inr (inl out)) =
      let same = ap (λ (w : TileWork). w.out) kept.work in
      inr (inl (λ none. out (sym same ∙ none)))
  still_work p q pair no_rise spared kept (inr (inr told)) =
      inr (inr (told_still p q pair.from_inside pair.to_inside no_rise spared told))

  has_work : (p q : Pixel) → IsOpen (domain before) (mask_at before) (image_at after) p q → HasWork now p q
  has_work p q pair = elim (merged.each (home p) (tile_of_pixel before p sound.shape pair.from_inside)) [
    | inl (hit, reset) ↦ inl (ap (λ (w : TileWork). w.dirty) reset.work)
    | inr (spared, kept) ↦ elim (merged.each (home q) (tile_of_pixel before q sound.shape pair.to_inside)) [
      | inl (hit_q, reset_q) ↦
          elim (neighbours_lie_in_touching_tiles (tiling before) before.conn p q sound.shape.tiled pair.from_inside
          pair.to_inside pair.beside) [
            | inl same ↦ absurd (spared (subst (IsHit before after.state) (sym same) hit_q))
            | inr touching ↦
                inl (kept.dirty.1 (inr (inr (record {
                  u = tile_of (tiling before) q;
                  is_tile = tile_of_pixel before q sound.shape pair.to_inside;
                  hit = hit_q;
                  touching = touching;
                }))))
          ]
      | inr (spared_q, kept_q) ↦ elim (cases_lt (image_at before p) (image_at after p)) [
        | inl risen ↦
            inl (kept.dirty.1 (inr (inl (record { p = p; in_tile = in_its_tile p pair.from_inside; rose = risen }))))
        | inr no_rise ↦ still_work p q pair no_rise spared kept (sound.work p q (was_open p q pair no_rise spared_q))
      ]
    ]
  ]

  pub merged_sound : IsSound now
  merged_sound = record {
    shape = record {
      tiled = sound.shape.tiled;
      mask = sound.shape.mask;
      image = record {
        width = merged.size.width ∙ sound.shape.image.width;
        height = merged.size.height ∙ sound.shape.image.height;
        filled = merged.size.filled;
      };
      tiles = merged.count ∙ sound.shape.tiles;
      strokes = λ tag seed has. elim ((join_is_union before.state delta after.state merged.join).strokes tag seed has) [
        | inl old ↦ sound.shape.strokes tag seed old
        | inr given ↦ merged.fits tag seed given
      ];
      generations = λ t within. generations t (was_tile t within);
    };
    marker = merged.marker;
    is_marker = merged.is_marker;
    supported = supported;
    hints = λ t hint within waits.
        let is_tile = was_tile t within in
        hint_valid t hint (sound.hints t hint is_tile (subst (λ hs. Contains hs hint) (same_inbox t is_tile) waits));
    work = has_work;
  }

pub merge_keeps_sound : (before after : Core) (delta : State) (turnover : Turnover) → IsSound before
    → IsMerged before delta turnover after → IsSound after
merge_keeps_sound before after delta turnover sound merged =
    subst IsSound (sym merged.rest) (merged_sound before after delta turnover sound merged)

-- a hint from a tile that is not hit is as good as it was, where the first pixel did not rise
pub merge_keeps_told : (before after : Core) (delta : State) (turnover : Turnover) (p q : Pixel) → IsSound before
    → IsMerged before delta turnover after → Inside (domain before) p → Inside (domain before) q
    → image_at after p ≤ image_at before p → (IsHit before after.state (tile_of (tiling before) p) → ⊥)
    → HasHint before p q → HasHint after p q
merge_keeps_told before after delta turnover p q sound merged inside_p inside_q no_rise spared told =
    subst (λ (core : Core). HasHint core p q) (sym merged.rest)
    (told_still before after delta turnover sound merged p q inside_p inside_q no_rise spared told)
