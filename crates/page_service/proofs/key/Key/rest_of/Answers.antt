use Rattle.std.proofs.Common.{◌∙◌, ap, ◌++◌, List, ℕ}
use Rattle.page_service.proofs.Fronts.{not_keyed}
use Rattle.page_service.proofs.key.Key.rest_of.Goals as goal

pub returns-clause-none : goal.returns-clause-none
returns-clause-none c =
    let digits = c.as_bytes.ensures.value in
    let key = c.in_ok-slashed.ensures.some ∙ ap (λ (front : List ℕ). front ++ c.in_ok-slashed.slashed.now) digits in
    not_keyed c.args.path.now c.args.self.now c.in_ok-keyed.keyed.now c.in_ok-slashed.slashed.now c.behind-3.result
    c.in_ok-keyed.ensures.some (key ∙ ap (λ (front : List ℕ). front ++ c.in_ok-slashed.slashed.now) c.self.view_is)
    c.behind-3.ensures.none
