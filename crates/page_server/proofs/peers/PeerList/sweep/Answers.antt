use Rattle.std.proofs.{Common.rules, lemmas.Fn.filter_same}
use Rattle.page_server.proofs.peers.PeerList.sweep.Goals as goal

pub returns-clause-swept : goal.returns-clause-swept
returns-clause-swept g c = filter_same _ _ _ (λ x b f' k. search rules) _ _ c.retain.ensures.filtered
