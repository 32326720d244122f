use Rattle.std.proofs.Common.{◌≡◌, ◌+◌, ◌-◌, ◌<◌, length, arith}
use Rattle.row_scans.proofs.Reaching.{raised_left}
use Rattle.row_scans.proofs.row_raises.raise_strip_from_left.Goals as goal

pub returns : goal.returns
returns c =
    let long = length c.args.strip.now in
    let whole : long - 16 + 16 ≡ long = omega (arith, c.if-strip-lt-STRIP.false) in
    let few : long - 16 < 2 = omega (arith, c.if-strip.false) in
    raised_left whole few c.reach_at.ensures c.twice_from_left-two.ensures c.twice_from_left-four.ensures
    c.twice_from_left-eight.ensures c.twice_from_left.ensures c.let_in.ensures
