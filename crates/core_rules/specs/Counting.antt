-- How much work there is for a core, and how much of it a run takes.
use Rattle.std.specs.Prelude.{ℕ, ◌+◌, ◌≤◌, List, [], ◌∷◌, count_by, is_some}
use Rattle.grid_core.specs.{declared.pixel.Pixel.Pixel, Owed.IsOwed}
use Rattle.marker_tiles.specs.Marker.{IsMarker}
use Rattle.border_queues.specs.TileWork.{dirty_count}
use Rattle.core_rules.specs.{Work.Core, Work.domain, Work.mask_at, Work.image_at, Events.Merge, Runs.Entry}

-- how many tiles are dirty, those of which a job is out among them
abbrev pub dirty_tiles : Core → ℕ
dirty_tiles core = dirty_count core.tiles

-- of how many tiles a job is out
abbrev pub tiles_out : Core → ℕ
tiles_out core = count_by (λ work. is_some work.out) core.tiles

-- so much is owed to the image of the core: what it lacks of the reconstruction of the mask from the marker of the
-- strokes
pub record Owes (core : Core) (n : ℕ) : Type 0 where
  pub marker : Pixel → ℕ
  pub is_marker : IsMarker (domain core) (mask_at core) core.state marker
  pub owed : IsOwed (domain core) (mask_at core) marker (image_at core) n

-- how many deltas were merged
abbrev pub merges_of : List Entry → ℕ
merges_of [] = 0
merges_of ((Merge delta, answer) ∷ log) = 1 + merges_of log
merges_of (entry ∷ log) = merges_of log

-- no more jobs were taken between the two cores than there was work: one for each tile that was dirty before, one for
-- each unit of what was owed before and is not owed after, and one for each job that was abandoned
pub record IsWithinWork (before after : Core) (jobs abandons : ℕ) : Type 0 where
  pub owed_before : ℕ
  pub owed_after : ℕ
  pub owes_before : Owes before owed_before
  pub owes_after : Owes after owed_after
  pub bound : jobs + owed_after ≤ dirty_tiles before + owed_before + abandons
