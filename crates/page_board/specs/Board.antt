-- What stands behind a page: one replica's core, and the numbers by which a page knows what it has seen.
use Rattle.std.specs.Prelude.{◌≡◌, ℕ, ◌-◌, ◌^◌, ◌<◌, ◌≤◌, ◌==◌, List, nat_lt, if◌then◌else◌, length, refl, slice_index}
use Rattle.std.specs.Prelude.{Contains, ◌⊎◌}
use Rattle.std.specs.Coded.{Coded, code_by, coded×, coded_ℕ, coded_list}
use Rattle.grid_core.specs.Tiles.{IsTiled, count_of}
use Rattle.stroke_core.specs.Seed.{Seed}
use Rattle.stroke_lattice.specs.{State.IsLiveTag, Change.Turnover}
use Rattle.page_board.specs.declared.news.News.{News}
use Rattle.pgm_codec.specs.Graymap.{Graymap, IsGraymap}
use Rattle.core_rules.specs.{Work.Core, Work.tiling, Stored.core_code}

-- a board: the core, the maxval of its files, the number of the run, how many texts and files were taken, the step,
-- which rises with each change, for each tile the step at which it last changed, and the news of strokes
pub record PageBoard : Type 0 where
  pub core : Core
  pub maxval : ℕ
  pub run : ℕ
  pub version : ℕ
  pub step : ℕ
  pub shown : List ℕ
  pub news : List News

-- the mask and the image, as files have them
abbrev pub mask_of : PageBoard → Graymap
mask_of b = record { raster = b.core.mask; maxval = b.maxval }

abbrev pub image_of : PageBoard → Graymap
image_of b = record { raster = b.core.image; maxval = b.maxval }

-- the step at which the tile last changed
abbrev pub shown_at : PageBoard → ℕ → ℕ
shown_at b t = slice_index b.shown t

-- the tag became live after this step, or ceased to be
pub record HasTurnedIn (all : List News) (since tag : ℕ) : Type 0 where
  pub news : News
  pub told : Contains all news
  pub later : since < news.step
  pub turned : Contains news.change.born tag ⊎ Contains news.change.dead tag

abbrev pub HasTurned : PageBoard → ℕ → ℕ → Type 0
HasTurned b since tag = HasTurnedIn b.news since tag

-- the greatest step, at which steps rise no more
abbrev pub last_step : ℕ
last_step = 2 ^ 64 - 1

-- the step from which on a page of the same run that was told this step has to be told what changed: that step, or,
-- once steps rise no more, the beginning
abbrev pub since_in : PageBoard → ℕ → ℕ
since_in b since = if nat_lt b.step last_step then since else 0

-- so it is for a page of this run, and for one of another run it is the beginning
abbrev pub since_of : PageBoard → ℕ → ℕ → ℕ
since_of b run since = if run == b.run then since_in b since else 0

-- what every board keeps: its files have a maxval that fits; the image is cut into tiles, each of which has a step from
-- 1 on, none of them after the board's; numbers have 64 bits; and each live stroke was told at some step
pub record IsWhole (b : PageBoard) : Type 0 where
  pub graymap : IsGraymap (mask_of b)
  pub tiled : IsTiled (tiling b.core)
  pub tiles : length b.core.tiles ≡ count_of (tiling b.core)
  pub count : length b.shown ≡ length b.core.tiles
  pub begun : (t : ℕ) → t < length b.core.tiles → 0 < shown_at b t
  pub past : (t : ℕ) → shown_at b t ≤ b.step
  pub version : b.version ≤ last_step
  pub step : b.step ≤ last_step
  pub told : (tag : ℕ) → IsLiveTag b.core.state tag → HasTurned b 0 tag

-- a board is stored as the parts of its record
abbrev pub turnover_code : Coded Turnover
turnover_code =
    code_by (List ℕ × List ℕ) (coded× (coded_list coded_ℕ) (coded_list coded_ℕ)) (λ c. (c.born, c.dead))
    (λ p. record { born = p.0; dead = p.1 }) (λ _. refl)

abbrev pub news_code : Coded News
news_code =
    code_by (ℕ × Turnover) (coded× coded_ℕ turnover_code) (λ n. (n.step, n.change))
    (λ p. record { step = p.0; change = p.1 }) (λ _. refl)

abbrev pub board_code : Coded Seed → Coded PageBoard
board_code seed_code =
    code_by (Core × (ℕ × (ℕ × (ℕ × (ℕ × (List ℕ × List News))))))
    (coded× (core_code seed_code) (coded× coded_ℕ (coded× coded_ℕ (coded× coded_ℕ (coded× coded_ℕ
    (coded× (coded_list coded_ℕ) (coded_list news_code)))))))
    (λ b. (b.core, (b.maxval, (b.run, (b.version, (b.step, (b.shown, b.news)))))))
    (λ p. record {
      core = p.0;
      maxval = p.1.0;
      run = p.1.1.0;
      version = p.1.1.1.0;
      step = p.1.1.1.1.0;
      shown = p.1.1.1.1.1.0;
      news = p.1.1.1.1.1.1;
    }) (λ _. refl)
