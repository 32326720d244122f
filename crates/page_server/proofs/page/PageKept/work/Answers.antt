use Rattle.std.proofs.Common.{subst, sym}
use Rattle.page_service.specs.Painting.{Painting}
use Rattle.page_server.specs.{Page.PageGrows, declared.page.Page.Page}
use Rattle.page_server.proofs.Counting.{page_grows, page_stays}
use Rattle.page_server.proofs.page.PageKept.work.Goals as goal

pub returns-then-is_quiet-clause-works : goal.returns-then-is_quiet-clause-works
returns-then-is_quiet-clause-works g c =
    let old : Page = c.args.self.now in
    subst (λ (p : Painting). PageGrows old (record old { painting = p })) (sym c.forget_read.ensures) (page_stays old)

pub returns-clause-works : goal.returns-clause-works
returns-clause-works g c =
    let old : Page = c.args.self.now in
    let new : Page = record old { painting = c.grow_in_bands.new.self } in
    subst (λ (p : Painting). PageGrows (record old { painting = p }) new) c.forget_read.ensures
    (page_grows (record old { painting = c.forget_read.new.self }) c.grow_in_bands.new.self c.grow_in_bands.ensures.rest
    c.grow_in_bands.ensures.grown c.grow_in_bands.ensures.later)
