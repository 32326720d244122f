-- The code by which a refusal is told.
use Rattle.std.specs.Prelude.{ℕ, List, codes}
use Rattle.marker_tiles.specs.declared.error.MarkersError.{MarkersError}
use Rattle.marker_tiles.specs.declared.error.MarkersError.TheVariants as errors

-- the code of a refusal, as text
abbrev pub code_of : MarkersError → List ℕ
code_of errors.Memory = codes "K1"
