use Rattle.std.proofs.{Common.◌+◌, Common.◌*◌, Common.◌≤◌, Common.arith, lemmas.Bool.Decides.nat_tests}
use Rattle.marker_tiles.proofs.BlockLevels.{square_covered}
use Rattle.marker_tiles.proofs.blocks.has_square.Goals as goal

pub returns-then-dy-r : goal.returns-then-dy-r
returns-then-dy-r c near p is =
    let dx = c.max-dx.result in
    let dy = c.max-dy.result in
    let sum : dx * dx + dy * dy ≤ c.args.r * c.args.r = grind (arith, nat_tests) in
    square_covered c.args.x c.args.y c.args.r c.args.left c.args.top c.args.side dx dy p is (omega arith) (omega arith)
    (omega arith) (omega arith) sum
