use Rattle.std.proofs.Common.{refl}
use Rattle.page_server.proofs.page.embedded_page.Goals as goal

pub returns : goal.returns
returns c = refl
