-- What a board shows later than another: which of its tiles and strokes can differ from those that it had.
use Rattle.std.specs.Prelude.{◌≡◌, ℕ, ◌<◌, ◌≤◌, ◌⊎◌, ◌↔◌, length, Contains}
use Rattle.stroke_core.specs.Seed.{Seed}
use Rattle.stroke_lattice.specs.State.{State, IsLive, IsBelow}
use Rattle.core_rules.specs.{Shown.ShowsTheSame, Work.Core, Work.IsTile}
use Rattle.page_board.specs.{Board.PageBoard, Board.shown_at, Board.since_in, Board.HasTurned, declared.news.News.News}

-- mask, connectivity and tiles stay
pub record HasSameGround (before after : Core) : Type 0 where
  pub mask : after.mask ≡ before.mask
  pub conn : after.conn ≡ before.conn
  pub side : after.side ≡ before.side
  pub count : length after.tiles ≡ length before.tiles

-- the same stroke of the tag is live in both, or none is
abbrev pub HasSameStroke : State → State → ℕ → Type 0
HasSameStroke before after tag = (seed : Seed) → IsLive before tag seed ↔ IsLive after tag seed

-- the tile has to be told to a page of the same run that was told this step
abbrev pub IsNewsSince : PageBoard → ℕ → ℕ → Type 0
IsNewsSince b since t = since_in b since < shown_at b t

-- the second board is the first one, later: it has each stroke and tombstone that the first one had; a tile shows what
-- it showed, or it has changed after the first one's step; and a stroke came or went after that step, or it is live
-- where it was
pub record IsLater (old new : PageBoard) : Type 0 where
  pub run : new.run ≡ old.run
  pub maxval : new.maxval ≡ old.maxval
  pub ground : HasSameGround old.core new.core
  pub version : old.version ≤ new.version
  pub step : old.step ≤ new.step
  pub state : IsBelow old.core.state new.core.state
  pub tiles : (t : ℕ) → IsTile old.core t → ShowsTheSame old.core new.core t ⊎ IsNewsSince new old.step t
  pub strokes : (tag : ℕ) → HasSameStroke old.core.state new.core.state tag ⊎ HasTurned new (since_in new old.step) tag
  pub rises : (t : ℕ) → shown_at old t ≤ shown_at new t
  pub keeps : (news : News) → Contains old.news news → Contains new.news news
