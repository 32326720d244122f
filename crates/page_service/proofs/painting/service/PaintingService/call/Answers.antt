use Rattle.std.proofs.{Common.inl, Common.refl, Common.subst, lemmas.Result.on_ok_weaker}
use Rattle.page_service.specs.{Refusing.IsRefused, Painting.Painting}
use Rattle.page_service.proofs.painting.service.PaintingService.call.Goals as goal

pub returns-in-Err-clause-ok : goal.returns-in-Err-clause-ok
returns-in-Err-clause-ok c =
    on_ok_weaker c.put_refusal.result (λ told. inl (record {
      why = c.in-Err.refusal;
      refused = subst (λ (p : Painting). IsRefused p.port p.key c.args.request.now c.in-Err.refusal) c.self.view_is
          c.in-Err.ensures.refused;
      same = refl;
      told = told;
    })) c.put_refusal.ensures.filled
