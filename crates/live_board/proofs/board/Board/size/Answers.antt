use Rattle.std.proofs.Common.{List, ap, length, ℕ, ◌∙◌}
use Rattle.live_board.proofs.board.Board.size.Goals as goal

pub returns : goal.returns
returns c = ap (λ (l : List ℕ). length l) c.samples.ensures.value ∙ c.samples.ensures.is_graymap.sized.filled
