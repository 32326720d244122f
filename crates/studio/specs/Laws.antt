-- Statements of laws.
use Rattle.std.specs.Prelude.{◌≡◌, List, All, Some}
use Rattle.studio.specs.{Shots.Shot, Shots.IsSound, Chains.IsChain, Chains.LeadsTo, Chains.Begins, Chains.last_of}

-- what the last shot of a chain shows is sound
abbrev pub LastIsSound : Type 0
LastIsSound = (chain : List Shot) (last : Shot) → IsChain chain → last_of chain ≡ Some last → IsSound last

-- each shot that a chain begins with leads to the last one
abbrev pub BeginningsLeadToLast : Type 0
BeginningsLeadToLast =
    (chain seen : List Shot) (last : Shot) → IsChain chain → last_of chain ≡ Some last → Begins chain seen
    → All (λ earlier. LeadsTo earlier last) seen

-- where a chain begins with another, the last of that leads to its last
abbrev pub LaterLeadsOn : Type 0
LaterLeadsOn =
    (chain seen : List Shot) (last before : Shot) → IsChain chain → last_of chain ≡ Some last → Begins chain seen
    → last_of seen ≡ Some before → LeadsTo before last
