use Rattle.core_dispatch.proofs.Turning.{takes_turn}
use Rattle.core_dispatch.proofs.dispatcher.Dispatcher.turn.Goals as goal

pub returns : goal.returns
returns c =
    takes_turn c.args.self.now c.take_in-taken.result c.take_in-taken.new.self c.push_jobs-jobs.result
    c.push_jobs-jobs.new.self c.take_in-taken.ensures c.push_jobs-jobs.ensures
