-- The parts of the tables that belong to a band of rows of tiles, cut out and put back.
use Rattle.std.specs.Prelude.{◌≡◌, ℕ, ◌+◌, ◌-◌, ◌^◌, ◌<◌, ◌≤◌, ◌⊎◌, Bool, ◌&&◌, if◌then◌else◌, List, [], ◌++◌, length}
use Rattle.std.specs.Prelude.{take, drop, None, nat_lt, EachIndex}
use Rattle.grid_core.specs.{declared.bounds.Bounds.Bounds, Bounds.AreEmpty, Bounds.no_bounds}
use Rattle.border_queues.specs.TileWork.{TileWork, work_of}
use Rattle.tile_work.specs.OpenBounds.{bounds_for}

-- the list, in which these elements stand from this place on, in place of as many others
abbrev pub with_part : {A : Type 0} → ℕ → List A → List A → List A
with_part first part whole = take first whole ++ (part ++ drop (first + length part) whole)

-- ---- work

-- no job is out and no hint waits: all that can be left to do at the tile is to sweep it
pub record IsOnlyMarked (work : TileWork) : Type 0 where
  pub none_out : work.out ≡ None
  pub empty : work.inbox ≡ []

-- so it is at the tiles from the first one on and before the second
abbrev pub AreOnlyMarked : List TileWork → ℕ → ℕ → Type 0
AreOnlyMarked works first end = (t : ℕ) → first ≤ t → t < end → IsOnlyMarked (work_of works t)

-- the tiles of a band have the generations of those from this one on
abbrev pub HaveGenerationsOf : List TileWork → ℕ → List TileWork → Type 0
HaveGenerationsOf whole first band =
    EachIndex band (λ u. (work_of band u).generation ≡ (work_of whole (first + u)).generation)

-- ---- bounds

-- whether some pixel lies within the bounds
abbrev pub have_pixels : Bounds → Bool
have_pixels b = nat_lt b.left b.right && nat_lt b.top b.bottom

-- the bounds, in an image whose row 0 is this row
abbrev pub in_band : ℕ → Bounds → Bounds
in_band rows b =
    if have_pixels b
    then record { left = b.left; right = b.right; top = b.top - rows; bottom = b.bottom - rows }
    else no_bounds

-- bounds of such an image, in the one that it is a part of
abbrev pub in_whole : ℕ → Bounds → Bounds
in_whole rows b =
    if have_pixels b
    then record { left = b.left; right = b.right; top = rows + b.top; bottom = rows + b.bottom }
    else no_bounds

-- the bounds of the tiles from the first one on and before the second do not begin above this row
abbrev pub BeginFrom : ℕ → List Bounds → ℕ → ℕ → Type 0
BeginFrom rows table first end =
    (t : ℕ) → first ≤ t → t < end → AreEmpty (bounds_for table t) ⊎ (rows ≤ (bounds_for table t).top)

-- the bounds are within an image also where they lie so many rows further down
abbrev pub EndWithin : ℕ → List Bounds → Type 0
EndWithin rows table =
    EachIndex table (λ u. AreEmpty (bounds_for table u) ⊎ (rows + (bounds_for table u).bottom < 2 ^ 32))
