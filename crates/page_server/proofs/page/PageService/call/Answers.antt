use Rattle.std.proofs.{Common.refl, lemmas.Result.on_ok_weaker}
use Rattle.page_server.proofs.Counting.{answers_count, page_counts}
use Rattle.page_server.proofs.page.PageService.call.Goals as goal

pub returns-clause-ok : goal.returns-clause-ok
returns-clause-ok c =
    on_ok_weaker c.call.result (λ answers. record {
      answers = answers;
      rest = refl;
      counted = page_counts _ _ (answers_count c.args.self.now.painting c.call.new.self _ _ answers);
    }) c.call.ensures.ok
