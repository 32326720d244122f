-- The codes of refusals, and what a refusal of the strokes' state is to a core.
use Rattle.std.specs.Prelude.{ℕ, List, codes}
use Rattle.stroke_lattice.specs.declared.error.StateError.{StateError}
use Rattle.core_rules.specs.declared.error.CoreError.{CoreError}
use Rattle.core_rules.specs.declared.error.CoreError.TheVariants.{OutOfImage, Conflict, GenerationsSpent, Memory}
use Rattle.core_rules.specs.declared.error.CoreError.TheVariants.{BadSide}
use Rattle.stroke_lattice.specs.declared.error.StateError.TheVariants as state

abbrev pub code_of : CoreError → List ℕ
code_of (OutOfImage tag) = codes "C1"
code_of (Conflict tag) = codes "C2"
code_of GenerationsSpent = codes "C3"
code_of Memory = codes "C4"
code_of BadSide = codes "C5"

abbrev pub refused_state : StateError → CoreError
refused_state (state.Conflict tag) = Conflict tag
refused_state state.Memory = Memory
