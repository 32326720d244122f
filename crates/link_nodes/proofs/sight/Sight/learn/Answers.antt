use Rattle.link_nodes.proofs.sight.Sight.learn.Goals as goal

pub invariant_of-self : goal.invariant_of-self
invariant_of-self c = record { of_last = λ cursor is. rw c.learn.ensures.seen (c.args.self.now.of_last cursor is) }
