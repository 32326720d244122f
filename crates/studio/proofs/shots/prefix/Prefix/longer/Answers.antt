use Rattle.std.proofs.Common.{rules, arith, ◌≤◌, length}
use mathlib.Core.List.{IsPrefix}
use Rattle.studio.proofs.Fronts.{prefix_shorter}
use Rattle.studio.proofs.shots.prefix.Prefix.longer.Goals as goal

pub returns-then-self-other-clause-this : goal.returns-then-self-other-clause-this
returns-then-self-other-clause-this c =
    let one : IsPrefix c.args.self.now.reached.log c.learn.new.self.log = search rules in
    let two : IsPrefix c.args.other.now.reached.log c.learn.new.self.log = search rules in
    let less : length c.args.self.now.reached.log ≤ length c.args.other.now.reached.log = grind (arith, rules) in
    rw (c.again.ensures) (prefix_shorter _ _ c.learn.new.self.log one two less)

pub returns-clause-that : goal.returns-clause-that
returns-clause-that c =
    let one : IsPrefix c.args.self.now.reached.log c.learn.new.self.log = search rules in
    let two : IsPrefix c.args.other.now.reached.log c.learn.new.self.log = search rules in
    let less : length c.args.other.now.reached.log ≤ length c.args.self.now.reached.log = grind (arith, rules) in
    rw (c.again-else-self-other.ensures) (prefix_shorter _ _ c.learn.new.self.log two one less)
