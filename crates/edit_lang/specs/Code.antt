-- The codes by which refusals are told.
use Rattle.std.specs.Prelude.{ℕ, List, codes}
use Rattle.edit_lang.specs.declared.error.EditError.{EditError}
use Rattle.edit_lang.specs.declared.error.EditError.TheVariants as errors

-- the code of a refusal, as text
abbrev pub code_of : EditError → List ℕ
code_of (errors.BadLine n) = codes "E1"
code_of (errors.BadTag n) = codes "E2"
code_of (errors.BadStroke n why) = codes "E3"
code_of errors.Memory = codes "E4"
