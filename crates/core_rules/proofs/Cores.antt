-- Cores in which image and work change and all else stays.
use Rattle.std.proofs.Common.{◌≡◌, ℕ, ◌<◌, ◌≤◌, List, length, sym, subst, ap, ◌∙◌, arith, inl, inr, ◌⊎◌, ◌≢◌, Contains}
use Rattle.std.proofs.{lemmas.Bool.cases_eq, lemmas.List.get_or-set_same, lemmas.List.get_or-set_other}
use Rattle.grid_core.specs.{declared.pixel.Pixel.Pixel, Path.Inside, Tiles.tile_of}
use Rattle.grid_core.specs.Raster.{Raster, IsInside, value_at}
use Rattle.border_queues.specs.{declared.hint.Hint.Hint, TileWork.TileWork, TileWork.idle}
use Rattle.core_rules.specs.{Image.IsOpen, Image.IsSupported, Image.IsOfSize, Hits.IsInTile, Hints.IsPresent}
use Rattle.core_rules.specs.Work.{Core, domain, tiling, mask_at, image_at, IsTile, work_at, with_work}
use Rattle.core_rules.specs.Invariant.{IsShaped, IsValid, HasHint, HasWork, IsSound}
use Rattle.grid_core.proofs.Tilings.{each_pixel_in_one_tile}

-- ---- other work at one tile

pub work_there : (core : Core) (t : ℕ) (work : TileWork) → IsTile core t → work_at (with_work core t work) t ≡ work
work_there core t work within = get_or-set_same core.tiles t work idle within

pub work_elsewhere : (core : Core) (t u : ℕ) (work : TileWork) → u ≢ t
    → work_at (with_work core t work) u ≡ work_at core u
work_elsewhere core t u work other = get_or-set_other core.tiles t u work idle other

-- what the other work has in common with the work before, each tile has in common with before
pub field_kept : {X : Type 0} (core : Core) (t : ℕ) (work : TileWork) (f : TileWork → X) → IsTile core t
    → f work ≡ f (work_at core t) → (u : ℕ) → f (work_at (with_work core t work) u) ≡ f (work_at core u)
field_kept core t work f within same u = elim (cases_eq u t) [
  | inl here ↦ rw here (ap f (work_there core t work within) ∙ same)
  | inr other ↦ ap f (work_elsewhere core t u work other)
]

-- a tile with a pixel is one of the core's
pub tile_of_pixel : (core : Core) (p : Pixel) → IsShaped core → Inside (domain core) p
    → IsTile core (tile_of (tiling core) p)
tile_of_pixel core p shape inside =
    omega (arith, (each_pixel_in_one_tile (tiling core) p shape.tiled inside).0, shape.tiles)

pub tile_of_pixel_is_tile : (core : Core) (t : ℕ) (p : Pixel) → IsShaped core → IsInTile (tiling core) t p
    → IsTile core t
tile_of_pixel_is_tile core t p shape in_tile = rw in_tile.tile at (tile_of_pixel core p shape in_tile.inside)

-- a pixel of the domain is one of the image
pub inside_image : (core : Core) (p : Pixel) → IsShaped core → Inside (domain core) p
    → IsInside core.image.width core.image.height p
inside_image core p shape inside =
    (omega (arith, inside.0, shape.image.width), omega (arith, inside.1, shape.image.height))

-- ---- another image, other work, another serial

-- the core with these
abbrev pub changed : Core → Raster → List TileWork → ℕ → Core
changed core image tiles serial = record core { image = image; tiles = tiles; serial = serial }

-- the image is nowhere less, and no tile gets another generation
pub record IsRise (before : Core) (image : Raster) (tiles : List TileWork) : Type 0 where
  pub rises : (p : Pixel) → Inside (domain before) p → image_at before p ≤ value_at image p
  pub count : length tiles ≡ length before.tiles
  pub generations : (t : ℕ)
      → (work_at (changed before image tiles before.serial) t).generation ≡ (work_at before t).generation

module _ (before : Core) (image : Raster) (tiles : List TileWork) (serial : ℕ) (rise : IsRise before image tiles) where
  -- a pair that is open afterwards, and whose first pixel has its value still, was open before
  pub open_before : (p q : Pixel) → value_at image p ≡ image_at before p
      → IsOpen (domain before) (mask_at before) (value_at image) p q
      → IsOpen (domain before) (mask_at before) (image_at before) p q
  open_before p q same pair = record {
    from_inside = pair.from_inside;
    to_inside = pair.to_inside;
    beside = pair.beside;
    lower = omega (arith, same, pair.lower, rise.rises q pair.to_inside);
  }

  present_before : (hint : Hint) → IsPresent (changed before image tiles serial) hint → IsPresent before hint
  present_before hint present = record {
    is_tile = subst (λ n. hint.from < n) rise.count present.is_tile;
    generation = omega (arith, rise.generations hint.from, present.generation);
  }

  pub present_after : (hint : Hint) → IsPresent before hint → IsPresent (changed before image tiles serial) hint
  present_after hint present = record {
    is_tile = subst (λ n. hint.from < n) (sym rise.count) present.is_tile;
    generation = omega (arith, rise.generations hint.from, present.generation);
  }

  -- what a hint says stays true
  pub valid_after : (t : ℕ) (hint : Hint) → IsValid before t hint → IsValid (changed before image tiles serial) t hint
  valid_after t hint valid = record {
    to = record { inside = valid.to.inside; tile = valid.to.tile };
    from = subst (λ n. hint.from < n) (sym rise.count) valid.from;
    earlier = omega (arith, rise.generations hint.from, valid.earlier);
    holds = λ present.
        let can = valid.holds (present_before hint present) in
        record {
          p = can.p;
          from = record { inside = can.from.inside; tile = can.from.tile };
          beside = can.beside;
          enough = omega (arith, can.enough, rise.rises can.p can.from.inside);
        };
  }

  -- a hint that still waits is as good as it was
  pub told_after : (p q : Pixel) → value_at image p ≡ image_at before p → (told : HasHint before p q)
      → Contains (work_at (changed before image tiles serial) (tile_of (tiling before) q)).inbox told.hint
      → HasHint (changed before image tiles serial) p q
  told_after p q same told waits = record {
    hint = told.hint;
    waits = waits;
    from = told.from;
    to = told.to;
    present = present_after told.hint told.present;
    enough = omega (arith, told.enough, same);
  }

  -- a core is sound after a rise, if its new image is supported, its new hints are valid and open pairs have work
  pub sound_after : (sound : IsSound before) → IsOfSize before.mask image
      → IsSupported (domain before) (mask_at before) sound.marker (value_at image)
      → ((t : ℕ) (hint : Hint) → IsTile (changed before image tiles serial) t
      → Contains (work_at (changed before image tiles serial) t).inbox hint
      → Contains (work_at before t).inbox hint ⊎ IsValid (changed before image tiles serial) t hint)
      → ((p q : Pixel) → IsOpen (domain before) (mask_at before) (value_at image) p q
      → HasWork (changed before image tiles serial) p q) → IsSound (changed before image tiles serial)
  sound_after sound size supported hints work = record {
    shape = record {
      tiled = sound.shape.tiled;
      mask = sound.shape.mask;
      image = size;
      tiles = omega (arith, rise.count, sound.shape.tiles);
      strokes = sound.shape.strokes;
      generations = λ t within.
          omega (arith, sound.shape.generations t (subst (λ n. t < n) rise.count within), rise.generations t);
    };
    marker = sound.marker;
    is_marker = sound.is_marker;
    supported = supported;
    hints = λ t hint within waits. elim (hints t hint within waits) [
      | inl waited ↦ valid_after t hint (sound.hints t hint (subst (λ n. t < n) rise.count within) waited)
      | inr valid ↦ valid
    ];
    work = work;
  }
