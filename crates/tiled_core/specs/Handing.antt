-- Hints of a tile that are handed over one after another.
use Rattle.std.specs.Prelude.{◌≡◌, ℕ, zero, suc}
use Rattle.core_rules.specs.{declared.answers.Handed.Handed, Hints.IsHanded, Work.Core}

-- the hints at these many first places of a tile's inbox are handed over, the last first
abbrev pub AreHandedOver : ℕ → ℕ → Core → Core → Type 0
AreHandedOver t zero before after = after ≡ before
AreHandedOver t (suc n) before after =
    (handed : Handed) × (between : Core) × IsHanded before t n handed between × AreHandedOver t n between after
