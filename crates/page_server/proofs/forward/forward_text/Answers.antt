use Rattle.std.proofs.Common.{ap, ◌∙◌}
use Rattle.page_server.specs.Serving.{forwarding}
use Rattle.page_server.proofs.forward.forward_text.Goals as goal

pub returns : goal.returns
returns c = c.in_ok-page.ensures.ok ∙ ap forwarding c.in_ok-to.ensures
