-- The codes by which refusals are told.
use Rattle.std.specs.Prelude.{ℕ, List, codes}
use Rattle.core_dispatch.specs.declared.error.CloseError.{CloseError}
use Rattle.core_dispatch.specs.declared.error.CloseError.TheVariants as errors

-- the code of a refusal, as text
abbrev pub code_of : CloseError → List ℕ
code_of errors.EndMissing = codes "B1"
code_of errors.Memory = codes "B2"
code_of errors.CountSpent = codes "B3"
