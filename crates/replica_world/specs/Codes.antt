-- The codes of refusals.
use Rattle.std.specs.Prelude.{ℕ, List, codes}
use Rattle.replica_world.specs.declared.error.WorldError.{WorldError}
use Rattle.replica_world.specs.declared.error.WorldError.TheVariants.{NoSuch, Core}

abbrev pub code_of : WorldError → List ℕ
code_of NoSuch = codes "W1"
code_of (Core why) = codes "W2"
