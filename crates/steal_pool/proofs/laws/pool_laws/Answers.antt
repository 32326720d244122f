use Rattle.steal_pool.proofs.Deals.{got_is_pushed, got_once}
use Rattle.steal_pool.proofs.laws.pool_laws.Goals as goal

pub returns : goal.returns
returns c = record { got_is_pushed = got_is_pushed; got_once = got_once }
