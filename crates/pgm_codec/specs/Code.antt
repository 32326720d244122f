-- The codes by which refusals are told.
use Rattle.std.specs.Prelude.{ℕ, List, codes}
use Rattle.pgm_codec.specs.declared.error.PgmError.{PgmError}
use Rattle.pgm_codec.specs.declared.error.PgmError.TheVariants as errors

-- the code of a refusal, as text
abbrev pub code_of : PgmError → List ℕ
code_of errors.BadMagic = codes "P1"
code_of errors.BadHeader = codes "P2"
code_of errors.ZeroSize = codes "P3"
code_of errors.TooLarge = codes "P4"
code_of errors.BadMaxval = codes "P5"
code_of errors.Truncated = codes "P6"
code_of errors.SampleRange = codes "P7"
code_of errors.BadSample = codes "P8"
code_of errors.Trailing = codes "P9"
code_of errors.Memory = codes "P10"
code_of errors.Device = codes "P11"
