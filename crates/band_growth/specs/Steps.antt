-- The steps of growing by bands, in words of what the rows are grown under. Only private functions have these words in
-- their contracts.
use Rattle.std.specs.Prelude.{ℕ, Bool, IsTrue, List}
use Rattle.raster_sweeps.specs.Growth.{IsScannedInto, rows_of}
use Rattle.raster_sweeps.specs.RowPairs.{CanGrowAcross, IsFromTo, IsScannedUp, NoneOpen, IsRowGrown}
use Rattle.band_growth.specs.declared.limits.Limits.{Limits}
use Rattle.band_growth.specs.Bands.{AreClosed, AreClosedApart, AreGrown, AreGrownUp, CanGrowRows, all_of}

-- the rows may grow
abbrev pub MayGrow : Limits → List ℕ → Type 0
MayGrow limits image = CanGrowRows limits.size limits.mask.now image

-- the rows have grown
abbrev pub HaveGrown : Limits → List ℕ → List ℕ → Type 0
HaveGrown limits before after = AreGrown limits.conn limits.size limits.mask.now before after

-- the rows have grown until no pixel can raise a neighbour
abbrev pub HaveGrownUp : Limits → List ℕ → List ℕ → Type 0
HaveGrownUp limits before after = AreGrownUp limits.conn limits.size limits.mask.now before after

-- the rows have grown, and where they are said to be closed, no pixel can raise a neighbour
pub record HaveGrownSoFar (limits : Limits) (before after : List ℕ) (are_closed : Bool) : Type 0 where
  pub grown : HaveGrown limits before after
  pub closed : IsTrue are_closed → AreClosed limits.conn limits.size limits.mask.now after

-- both the rows before the row `top` and those from the row `bottom` on are closed by themselves
abbrev pub ClosedApart : Limits → List ℕ → ℕ → ℕ → Type 0
ClosedApart limits image top bottom = AreClosedApart limits.conn limits.size limits.mask.now image top bottom

-- the rows have grown, and each pair that is still open waits, if there was room for all of them
abbrev pub HaveGrownInto : Limits → List ℕ → List ℕ → Bool → List ℕ → Type 0
HaveGrownInto limits before after room waiting =
    IsScannedInto limits.conn (all_of limits.size) (rows_of limits.size limits.mask.now)
    (rows_of limits.size before) (rows_of limits.size after) room waiting

-- the rows may grow, and there are these two rows, and they touch
abbrev pub MayRaise : Limits → List ℕ → ℕ → ℕ → Type 0
MayRaise limits image from to =
    CanGrowAcross (all_of limits.size) (rows_of limits.size limits.mask.now) (rows_of limits.size image) from to

-- the rows have grown in this one row
abbrev pub HasRowGrown : Limits → ℕ → List ℕ → List ℕ → Type 0
HasRowGrown limits row before after =
    IsRowGrown limits.conn (all_of limits.size) (rows_of limits.size limits.mask.now) row
    (rows_of limits.size before) (rows_of limits.size after)

-- no pixel of the one row can raise a neighbour in the other
abbrev pub NoneOpenBetween : Limits → List ℕ → ℕ → ℕ → Type 0
NoneOpenBetween limits image from to =
    NoneOpen limits.conn (all_of limits.size) (rows_of limits.size limits.mask.now) (rows_of limits.size image)
    (IsFromTo from to)

-- the rows have grown in this one row, as the anti-raster scan raises it
pub record HasRowGrownUp (limits : Limits) (row : ℕ) (before after : List ℕ) : Type 0 where
  pub grown : HasRowGrown limits row before after
  pub scanned : IsScannedUp limits.conn (all_of limits.size) (rows_of limits.size limits.mask.now)
      (rows_of limits.size after) row
