-- The codes by which refusals are told.
use Rattle.std.specs.Prelude.{List, codes, ℕ}
use Rattle.live_board.specs.declared.error.BoardError.{BoardError}
use Rattle.live_board.specs.declared.error.BoardError.TheVariants as errors

-- the code of a refusal, as text
abbrev pub code_of : BoardError → List ℕ
code_of errors.TooLarge = codes "X1"
code_of errors.BadCounts = codes "X2"
code_of errors.Memory = codes "X3"
