use Rattle.std.proofs.Common.{◌≡◌, ap, refl, subst, sym}
use Rattle.page_board.specs.{Board.PageBoard, Keeping.KeepsBoard, Keeping.HasAllIn}
use Rattle.page_service.specs.Painting.{Painting}
use Rattle.page_server.specs.Slices.{AreFewThreads}
use Rattle.page_server.proofs.server.Server.new.Goals as goal

pub returns-in-Ok : goal.returns-in-Ok
returns-in-Ok g c =
    let is = c.new-page.ensures.painting in
    let shows : c.new-page.result.painting.board ≡ c.args.opened.board = ap (λ (p : Painting). p.board) is in
    record {
      page = c.new-page.result;
      is_page = record {
        shows = shows;
        port = ap (λ (p : Painting). p.port) is;
        key = ap (λ (p : Painting). p.key) is;
        name = ap (λ (p : Painting). p.name) is;
        html = ap (λ (p : Painting). p.page) is;
        policy = ap (λ (p : Painting). p.policy) is;
        threads = subst AreFewThreads (sym c.new-page.ensures.threads) c.requires.threads;
        jobs = rw (c.new-page.ensures.threads, c.new-page.ensures.jobs) c.jobs_of-jobs.ensures;
      };
      keeps = c.new.ensures.seen;
      tracked = c.new.ensures.tracked
          (subst (λ (b : PageBoard). KeepsBoard b c.args.opened.kept.items) (sym shows) c.requires.kept.keeps)
          (subst (λ (b : PageBoard). HasAllIn b c.args.opened.kept.items) (sym shows) c.requires.kept.had);
      nobody = c.in-Ok.ensures.nobody;
      most = c.in-Ok.ensures.most;
      key = c.in-Ok.ensures.key;
      empty = c.in-Ok.ensures.empty;
      busy = refl;
    }
