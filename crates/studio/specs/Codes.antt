-- The codes by which refusals are told.
use Rattle.std.specs.Prelude.{ℕ, List, codes}
use Rattle.studio.specs.{declared.mirrored.MirrorError.MirrorError, declared.refused.OpenError.OpenError}
use Rattle.studio.specs.declared.mirrored.MirrorError.TheVariants as mirrors
use Rattle.studio.specs.declared.refused.OpenError.TheVariants as errors

-- the code of a refusal, as text
abbrev pub code_of : OpenError → List ℕ
code_of errors.BadCounts = codes "U1"
code_of errors.Memory = codes "U2"
code_of errors.NoPlace = codes "U3"

-- the code of a refused mirroring, as text
abbrev pub mirror_code_of : MirrorError → List ℕ
mirror_code_of mirrors.OtherMask = codes "X4"
mirror_code_of mirrors.Memory = codes "X3"
mirror_code_of mirrors.Spent = codes "X5"
