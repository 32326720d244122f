use Rattle.std.proofs.Common.{rules, arith, ◌+◌, ◌≤◌, length}
use mathlib.Core.List.{IsPrefix}
use Rattle.studio.proofs.Telling.{learnt_begins}
use Rattle.studio.proofs.shots.prefix.Prefix.is_behind.Goals as goal

pub returns : goal.returns
returns c =
    let near : length c.args.learnt.now.reached.log ≤ length c.args.self.now.reached.log + 1 = grind (arith, rules) in
    let one : IsPrefix c.args.self.now.reached.log c.learn.new.self.log = search rules in
    let two : IsPrefix c.args.learnt.now.reached.log c.learn.new.self.log = search rules in
    learnt_begins _ _ c.learn.new.self.log two one near
