use Rattle.std.proofs.Common.{◌+◌, arith}
use Rattle.marker_tiles.proofs.Enclosing.{disc_in_window}
use Rattle.marker_tiles.proofs.window.Window.round_disc.Goals as goal

pub returns : goal.returns
returns c p has =
    disc_in_window c.args.x c.args.y c.args.r (record {
      left = c.saturating_sub.result;
      right = c.from-x.result + c.from-r.result + 1;
      top = c.saturating_sub-2.result;
      bottom = c.from-y.result + c.from-r.result + 1;
    }) p (omega arith) (omega arith) (omega arith) (omega arith) has
