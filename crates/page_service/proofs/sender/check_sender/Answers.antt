use Rattle.std.proofs.Common.{◌≡◌, [], ◌∷◌, subst, sym, ap, ◌∙◌, codes}
use Rattle.http_header.specs.{FieldValue.FieldValue, HeaderMap.Entries, HeaderMap.get_all}
use Rattle.http_uri.specs.Uri.{uri_authority}
use Rattle.page_service.proofs.Senders.{has_authority, other_host}
use Rattle.page_service.proofs.sender.check_sender.Goals.{then-is_some-via-then-is_some}
use Rattle.page_service.proofs.sender.check_sender.Goals.{then-is_some-via-else-is_some+then-not-is_host}
use Rattle.page_service.proofs.sender.check_sender.Goals as goal

pub returns-then-is_some-clause-err : goal.returns-then-is_some-clause-err
returns-then-is_some-clause-err c =
    let host = c.in-Some.host.now in
    let named = subst (λ (m : Entries FieldValue). get_all m (codes "host") ≡ host ∷ []) c.headers.ensures
    c.in-Some.ensures.some in
    let r = c.args.request.now in
    let port = c.args.hosts.now in (
      (host, named),
      λ to. elim c.then-is_some.branch [
        | then-is_some-via-then-is_some w ↦
            has_authority port r c.authority.result (c.authority.ensures ∙ ap uri_authority c.uri.ensures)
            (sym c.is_some.ensures ∙ w.if-is_some.true) to
        | then-is_some-via-else-is_some+then-not-is_host w ↦
            other_host port r host w.as_bytes.result.now w.is_host.result named w.as_bytes.ensures.value
            w.is_host.ensures w.if-not-is_host.true to
      ],
    )
