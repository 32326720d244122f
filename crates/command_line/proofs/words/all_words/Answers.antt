use Rattle.std.proofs.Common.{sym, subst}
use Rattle.std.specs.{Iterator.Drains, Vec.Iter.into_iter_steps}
use Rattle.command_line.proofs.words.all_words.Goals as goal

pub returns : goal.returns
returns c =
    let ran = c.in_ok-all.ensures.ran in
    let last = ran.1.2 tt in
    subst (Drains into_iter_steps c.args.args) (sym ran.2.0) (last.0, (ran.1.0, ran.1.1, last.1))
