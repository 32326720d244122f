use Rattle.std.proofs.Common.{sym, ◌∙◌}
use Rattle.page_service.proofs.Showings.{all_behind, shown_behind, shown_nowhere}
use Rattle.page_service.proofs.showing.shows_key.Goals as goal

pub returns-in-Some : goal.returns-in-Some
returns-in-Some c =
    shown_behind c.args.key.now c.args.bytes.now _ c.in-Some.at c.rest_of.result c.is_some.result
    (sym c.first_space.ensures ∙ c.in-Some.is) (all_behind c.args.bytes.now _) c.rest_of.ensures.some
    c.rest_of.ensures.none c.is_some.ensures

pub returns-in-None : goal.returns-in-None
returns-in-None c = shown_nowhere c.args.key.now c.args.bytes.now (sym c.first_space.ensures ∙ c.in-None.is)
