-- The codes by which refusals are told.
use Rattle.std.specs.Prelude.{ℕ, List, codes}
use Rattle.link_nodes.specs.declared.error.NodeError.{NodeError}
use Rattle.link_nodes.specs.declared.error.NodeError.TheVariants as errors

-- the code of a refusal, as text
abbrev pub code_of : NodeError → List ℕ
code_of errors.OtherMask = codes "D1"
code_of (errors.Spd why) = codes "D2"
code_of errors.Device = codes "D3"
code_of errors.Memory = codes "D4"
