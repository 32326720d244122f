use Rattle.std.proofs.Common.{◌≡◌, [], ◌∷◌, subst, codes}
use Rattle.http_header.specs.{FieldValue.FieldValue, HeaderMap.Entries, HeaderMap.get_all}
use Rattle.page_service.proofs.Senders.{from_us}
use Rattle.page_service.proofs.sender.is_from_us.Goals as goal

pub returns-in-Some : goal.returns-in-Some
returns-in-Some c =
    let origin = c.in-Some.origin.now in
    let named = subst (λ (m : Entries FieldValue). get_all m (codes "origin") ≡ origin ∷ []) c.headers.ensures
    c.in-Some.ensures.some in
    from_us c.args.hosts.now c.args.request.now origin c.as_bytes.result.now c.is_origin.result named
    c.as_bytes.ensures.value c.is_origin.ensures
