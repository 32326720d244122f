use Rattle.std.proofs.Common.{◌∙◌}
use Rattle.page_server.proofs.Turnings.{lets_none_in, lets_then}
use Rattle.page_server.proofs.server.Server.seat.Goals as goal

pub returns-then-len-ge-MOST_PEERS : goal.returns-then-len-ge-MOST_PEERS
returns-then-len-ge-MOST_PEERS g c = lets_none_in c.args.now c.args.self.now c.listen.new.self c.listen.ensures.key

pub returns-in-Some : goal.returns-in-Some
returns-in-Some g c =
    lets_then c.args.now c.args.self.now _ c.admit.new.self
    (lets_none_in c.args.now c.args.self.now c.next.new.self (c.next.ensures.key ∙ c.listen.ensures.key))
    c.admit.ensures

pub returns-in-None : goal.returns-in-None
returns-in-None g c =
    lets_none_in c.args.now c.args.self.now c.next.new.self (c.next.ensures.key ∙ c.listen.ensures.key)
