use Rattle.page_server.proofs.page.Page.new.Goals as goal

pub returns-clause-painting : goal.returns-clause-painting
returns-clause-painting c = rw (← c.embedded_page.ensures, ← c.embedded_policy.ensures.policy) c.new.ensures

pub new-requires : goal.new-requires
new-requires c = record { visible = c.embedded_policy.ensures.visible }
