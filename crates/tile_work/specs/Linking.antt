-- Links between the tiles of an image, as the private functions look for them.
use Rattle.std.specs.Prelude.{ℕ, Bool, List}
use Rattle.border_queues.specs.OpenEdges.{IsOnTiling}
use Rattle.core_rules.specs.Hits.{AreLinked}
use Rattle.tile_work.specs.{declared.hits.links.Links.Links, Marks.AreMarks}

-- the two tiles are linked in the image
abbrev pub IsLinkedBy : Links → ℕ → ℕ → Type 0
IsLinkedBy links = AreLinked links.tiling links.image.now links.conn

-- the image is one of the tiling, and there is a mark and a place in the queue for each tile
pub record CanMark (links : Links) (marks queue : List Bool) : Type 0 where
  pub on_tiling : IsOnTiling links.tiling links.image.now
  pub each_tile : AreMarks links.tiling marks queue
