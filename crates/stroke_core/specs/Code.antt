-- The codes by which refusals are told.
use Rattle.std.specs.Prelude.{ℕ, List, codes}
use Rattle.stroke_core.specs.declared.error.StrokeError.{StrokeError}
use Rattle.stroke_core.specs.declared.error.StrokeError.TheVariants as errors

-- the code of a refusal, as text
abbrev pub code_of : StrokeError → List ℕ
code_of errors.BadLevel = codes "S1"
code_of errors.NoRuns = codes "S2"
code_of errors.TooManyRuns = codes "S3"
code_of errors.RunOrder = codes "S4"
code_of errors.BadTag = codes "S5"
code_of errors.Memory = codes "S6"
code_of errors.BadRadius = codes "S7"
code_of errors.BadKind = codes "S8"
