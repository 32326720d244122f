-- The codes by which refusals are told.
use Rattle.std.specs.Prelude.{ℕ, List, codes}
use Rattle.stroke_lattice.specs.declared.error.StateError.{StateError}
use Rattle.stroke_lattice.specs.declared.error.StateError.TheVariants as errors

-- the code of a refusal, as text
abbrev pub code_of : StateError → List ℕ
code_of (errors.Conflict tag) = codes "L1"
code_of errors.Memory = codes "L2"
