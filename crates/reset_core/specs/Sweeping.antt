-- What becomes of a swept tile that is given back, as the first line of the table that fits, and of its hints. Only
-- private functions have these words in their contracts.
use Rattle.std.specs.Prelude.{◌≡◌, ◌⊎◌, List, All}
use Rattle.border_queues.specs.declared.hint.Hint.{Hint}
use Rattle.tile_generations.specs.Jobs.{Job, Swept}
use Rattle.tile_work.specs.WorkTable.{IsToTouching}
use Rattle.core_rules.specs.{declared.answers.Back.Back, Image.IsJoinedWith, Work.Core, Work.tiling}
use Rattle.core_rules.specs.declared.answers.Back.TheVariants.{Joined, Again, Stale, Stranger}
use Rattle.core_rules.specs.Sweeps.{IsKnown, IsOut, IsUnchanged, HasOnlyRisen, hints_of, tile_rect}

-- the line of the table that the job's swept tile falls under
abbrev pub IsJudged : Core → Job → Back → Type 0
IsJudged core job Joined = IsKnown core job × IsOut core job.ticket × IsUnchanged core job
IsJudged core job Again = IsKnown core job × IsOut core job.ticket × HasOnlyRisen core job
IsJudged core job Stale = IsKnown core job × (IsOut core job.ticket → ⊥)
IsJudged core job Stranger =
    (IsKnown core job → ⊥)
    ⊎ (IsKnown core job × IsOut core job.ticket × (IsUnchanged core job → ⊥) × (HasOnlyRisen core job → ⊥))

-- the hints of the tile's open edges as they are once the swept tile is joined: each is for a tile that touches it
pub record AreHintsOnceJoined (core : Core) (swept : Swept) (told : List Hint) : Type 0 where
  pub hints : (after : Core)
      → IsJoinedWith (tile_rect core swept.job.ticket.tile) swept.pixels core.image after.image
      → told ≡ hints_of core after swept.job.ticket.tile
  pub touching : All (IsToTouching (tiling core) swept.job.ticket.tile) told
