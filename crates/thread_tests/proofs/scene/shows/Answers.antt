use Rattle.thread_tests.proofs.Companies.{shown_stays}
use Rattle.thread_tests.proofs.scene.shows.Goals as goal

pub returns : goal.returns
returns g c =
    shown_stays _ _ _ c.requires c.shows_to.ensures.books c.shows_to.ensures.eye c.shows_to.ensures.studio
