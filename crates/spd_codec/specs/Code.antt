-- The codes by which refusals are told.
use Rattle.std.specs.Prelude.{ℕ, List, codes}
use Rattle.spd_codec.specs.declared.error.SpdError.{SpdError}
use Rattle.spd_codec.specs.declared.error.SpdError.TheVariants as errors

-- the code of a refusal, as text
abbrev pub code_of : SpdError → List ℕ
code_of errors.BadMagic = codes "M1"
code_of errors.BadConn = codes "M2"
code_of errors.Truncated = codes "M3"
code_of errors.TagOrder = codes "M4"
code_of (errors.BadStroke why) = codes "M5"
code_of errors.TooLong = codes "M6"
code_of errors.Trailing = codes "M7"
code_of errors.Memory = codes "M8"
