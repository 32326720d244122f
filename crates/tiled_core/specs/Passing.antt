-- Tiles that are passed over.
use Rattle.std.specs.Prelude.{◌≡◌, ℕ, zero, suc, ◌+◌, ◌-◌, ◌≤◌, ◌⊎◌, Option, None, Some, length}
use Rattle.core_rules.specs.{Work.Core, Sweeps.IsReady, Sweeps.IsSkipped}

-- the tile is passed over if it can be taken, and else nothing happens
abbrev pub IsPassed : ℕ → Core → Core → Type 0
IsPassed t before after = IsSkipped before t after ⊎ ((IsReady before t → ⊥) × (after ≡ before))

-- of so many tiles, from this one on, each that can be taken is passed over, in rising order
abbrev pub ArePassed : ℕ → ℕ → Core → Core → Type 0
ArePassed from zero before after = after ≡ before
ArePassed from (suc n) before after =
    (between : Core) × IsPassed from before between × ArePassed (from + 1) n between after

-- the tiles from this one on are passed over up to one that can be taken, which is the answer; or else all of them are
abbrev pub ArePassedUntil : ℕ → Option ℕ → Core → Core → Type 0
ArePassedUntil from (Some t) before after = (from ≤ t) × IsReady after t × ArePassed from (t - from) before after
ArePassedUntil from None before after = ArePassed from (length before.tiles - from) before after
