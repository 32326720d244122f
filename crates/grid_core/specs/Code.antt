-- The codes by which refusals are told.
use Rattle.std.specs.Prelude.{ℕ, List, codes}
use Rattle.grid_core.specs.declared.grid.GridError.{GridError}
use Rattle.grid_core.specs.declared.grid.GridError.TheVariants as errors

-- the code of a refusal, as text
abbrev pub code_of : GridError → List ℕ
code_of errors.ZeroSize = codes "G1"
code_of errors.TooLarge = codes "G2"
code_of errors.Memory = codes "G3"
