use Rattle.std.proofs.Common.{◌≡◌}
use Rattle.core.specs.Mem.Slots.{slots_items}
use Rattle.live_board.specs.Reading.{IsReadOff}
use Rattle.live_board.proofs.closing.read_off.Given as goal

abbrev pub invariant-loop-cell : goal.invariant-loop-cell
invariant-loop-cell l = IsReadOff l.base l.generation (slots_items l.closed.words) l.cell l.image
    × (l.width ≡ l.image.width)
