-- Jobs that are taken, and swept tiles that are given back.
use Rattle.std.specs.Prelude.{◌≡◌, ◌≢◌, ℕ, ◌+◌, ◌%◌, ◌^◌, ◌≤◌, ◌⊎◌, Bool, true, false, List, length, Option, Some, None}
use Rattle.grid_core.specs.{declared.rect.Rect.Rect, Tiles.rect_of}
use Rattle.border_queues.specs.{declared.hint.Hint.Hint, OpenEdges.Sender, OpenEdges.open_edges, TileWork.received}
use Rattle.border_queues.specs.{TileWork.hints_at}
use Rattle.tile_generations.specs.{declared.ticket.Ticket.Ticket, Jobs.Job, Jobs.Swept}
use Rattle.core_rules.specs.{declared.answers.Back.Back, Image.IsPart, Image.IsAtMostPart, Image.IsJoinedWith}
use Rattle.core_rules.specs.declared.answers.Back.TheVariants.{Joined, Again, Stale, Stranger}
use Rattle.core_rules.specs.Work.{Core, tiling, mask_at, image_at, IsTile, work_at, with_work}

-- the rectangle of a tile of the core
abbrev pub tile_rect : Core → ℕ → Rect
tile_rect core t = rect_of (tiling core) t

-- ---- take

-- the tile can be taken: it is there, it is dirty, and no job of it is out
pub record IsReady (core : Core) (t : ℕ) : Type 0 where
  pub is_tile : IsTile core t
  pub dirty : (work_at core t).dirty ≡ true
  pub none_out : (work_at core t).out ≡ None

-- the job on a tile as the core stands: with the next serial, and with image and mask of the tile
pub record IsNextJob (core : Core) (t : ℕ) (job : Job) : Type 0 where
  pub ticket : job.ticket ≡ record { tile = t; generation = (work_at core t).generation; serial = core.serial }
  pub conn : job.conn ≡ core.conn
  pub base : IsPart (tile_rect core t) core.image job.base
  pub mask : IsPart (tile_rect core t) core.mask job.mask

-- the core once a job is taken: the tile is out and not dirty, and the serials go on, modulo 2^64
abbrev pub taken : Core → ℕ → Core
taken core t =
    record (with_work core t (record (work_at core t) { dirty = false; out = Some core.serial })) {
      serial = (core.serial + 1) % 2 ^ 64;
    }

-- a job is taken exactly where the tile can be
abbrev pub IsTaken : Core → ℕ → Option Job → Core → Type 0
IsTaken before t (Some job) after = IsReady before t × IsNextJob before t job × (after ≡ taken before t)
IsTaken before t None after = (IsReady before t → ⊥) × (after ≡ before)

-- ---- give back

-- the job of the ticket is out
pub record IsOut (core : Core) (ticket : Ticket) : Type 0 where
  pub is_tile : IsTile core ticket.tile
  pub generation : (work_at core ticket.tile).generation ≡ ticket.generation
  pub out : (work_at core ticket.tile).out ≡ Some ticket.serial

-- the job may be one of this core: the tile is there, mask and connectivity are the core's, and the generation is not
-- above the tile's
pub record IsKnown (core : Core) (job : Job) : Type 0 where
  pub is_tile : IsTile core job.ticket.tile
  pub mask : IsPart (tile_rect core job.ticket.tile) core.mask job.mask
  pub conn : job.conn ≡ core.conn
  pub generation : job.ticket.generation ≤ (work_at core job.ticket.tile).generation

-- the tile is clean, and its image is the base of the job
pub record IsUnchanged (core : Core) (job : Job) : Type 0 where
  pub clean : (work_at core job.ticket.tile).dirty ≡ false
  pub base : IsPart (tile_rect core job.ticket.tile) core.image job.base

-- the tile is dirty, and its image is nowhere below the base of the job
pub record HasOnlyRisen (core : Core) (job : Job) : Type 0 where
  pub dirty : (work_at core job.ticket.tile).dirty ≡ true
  pub base : IsAtMostPart (tile_rect core job.ticket.tile) core.image job.base

-- a tile of the core as one that tells others
abbrev pub sender_of : Core → ℕ → Sender
sender_of core t = record {
  tiles = tiling core;
  conn = core.conn;
  mask = mask_at core;
  image = image_at core;
  tile = t;
  generation = (work_at core t).generation;
}

-- the hints of the tile's open edges in the image as it is afterwards
abbrev pub hints_of : Core → Core → ℕ → List Hint
hints_of before after t = open_edges (record (sender_of before t) { image = image_at after })

-- the hints whose pixel lies in the tile, in their order
abbrev pub hints_for : Core → ℕ → List Hint → List Hint
hints_for core t hints = hints_at (tiling core) t hints

-- the swept tile is joined: its image is raised to the pixels, it is no longer out, and the hints of its open edges
-- wait at their tiles
pub record IsJoined (before : Core) (swept : Swept) (after : Core) : Type 0 where
  pub image : IsJoinedWith (tile_rect before swept.job.ticket.tile) swept.pixels before.image after.image
  pub own : work_at after swept.job.ticket.tile ≡ record (work_at before swept.job.ticket.tile) { out = None }
  pub others : (t : ℕ) → IsTile before t → t ≢ swept.job.ticket.tile
      → work_at after t ≡ received (work_at before t) (hints_for before t (hints_of before after swept.job.ticket.tile))
  pub count : length after.tiles ≡ length before.tiles
  pub rest : after ≡ record before { image = after.image; tiles = after.tiles }

-- a swept tile is given back, the first case that fits: it is of no job of this core; its job is not out; the tile is
-- as its base was; the tile has only risen since; or else it is of no job of this core
abbrev pub IsGivenBack : Core → Swept → Back → Core → Type 0
IsGivenBack before swept Joined after =
    IsKnown before swept.job × IsOut before swept.job.ticket × IsUnchanged before swept.job
    × IsJoined before swept after
IsGivenBack before swept Again after =
    IsKnown before swept.job × IsOut before swept.job.ticket × HasOnlyRisen before swept.job
    × IsJoined before swept after
IsGivenBack before swept Stale after =
    IsKnown before swept.job × (IsOut before swept.job.ticket → ⊥) × (after ≡ before)
IsGivenBack before swept Stranger after =
    ((IsKnown before swept.job → ⊥)
    ⊎ (IsKnown before swept.job × IsOut before swept.job.ticket × (IsUnchanged before swept.job → ⊥)
    × (HasOnlyRisen before swept.job → ⊥)))
    × (after ≡ before)

-- ---- abandon

-- a job is abandoned where it is out: the tile is then not out, and dirty
abbrev pub IsAbandoned : Core → Ticket → Bool → Core → Type 0
IsAbandoned before ticket true after =
    IsOut before ticket
    × (after ≡ with_work before ticket.tile (record (work_at before ticket.tile) { dirty = true; out = None }))
IsAbandoned before ticket false after = (IsOut before ticket → ⊥) × (after ≡ before)

-- the job of the tile is taken, and abandoned at once
pub record IsSkipped (before : Core) (t : ℕ) (after : Core) : Type 0 where
  pub job : Job
  pub between : Core
  pub is_taken : IsTaken before t (Some job) between
  pub is_abandoned : IsAbandoned between job.ticket true after
