use Rattle.crossbeam_deque.specs.Handles.{view}
use Rattle.steal_pool.specs.Names.{stolen_from}
use Rattle.steal_pool.proofs.Desks.{stolen}
use Rattle.steal_pool.proofs.desk.Desk.steal.Goals as goal

pub returns-clause-got : goal.returns-clause-got
returns-clause-got c =
    let was = c.self.inside in
    rw (← c.self.view_is)
    (stolen _ _ (stolen_from was.stealer) was.ring was.held (view was.pass) (view c.steal_as.new.pass) c.steal_as.result
    c.success.result c.steal_as.ensures.rule c.success.ensures)
