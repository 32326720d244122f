use Rattle.std.proofs.Common.{◌≡◌, ◌+◌, ◌-◌, ◌≤◌, length, arith}
use Rattle.row_scans.proofs.Reaching.{raised_right}
use Rattle.row_scans.proofs.row_raises.raise_strip_from_right.Goals as goal

pub returns : goal.returns
returns c =
    let last = length c.args.strip.now - 1 in
    let end : last + 1 ≡ length c.args.strip.now = omega (arith, c.if-strip-lt-STRIP.false) in
    let some : 15 ≤ last = omega (arith, c.if-strip-lt-STRIP.false) in
    let few : last ≤ 16 = omega (arith, c.if-strip.false) in
    raised_right last end some few c.reach_at.ensures c.twice_from_right-two.ensures c.twice_from_right-four.ensures
    c.twice_from_right-eight.ensures c.twice_from_right.ensures c.let_in.ensures
