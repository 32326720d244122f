use Rattle.std.proofs.Common.{ℕ, List, ◌++◌, inr, sym, ap, ◌∙◌, codes, option_copied}
use Rattle.http.specs.Request.{head_of}
use Rattle.http_uri.specs.Uri.{uri_path, uri_query}
use Rattle.page_service.specs.Table.{name_of}
use Rattle.page_service.proofs.Once.{one_rest, refused_there}
use Rattle.page_service.proofs.reading.read_request.Goals as goal

pub returns-in_default-named-clause-refused : goal.returns-in_default-named-clause-refused
returns-in_default-named-clause-refused c =
    let key = c.args.key.now in
    let path = uri_path (head_of c.args.request.now).uri in
    let name = c.in-Some.name.now in
    let at = sym (c.as_bytes.ensures.value ∙ c.path.ensures.value ∙ ap uri_path c.uri-uri.ensures)
    ∙ c.in-Some.ensures.some in
    inr (
      c.in_ok-check_sender.ensures.ok,
      (
        (name, at),
        λ place there. c.in_default-named.ensures.none place (one_rest key path name (name_of place) at there),
      ),
    )

pub returns-clause-refused : goal.returns-clause-refused
returns-clause-refused c =
    let key = c.args.key.now in
    let at = sym (c.as_bytes.ensures.value ∙ c.path.ensures.value ∙ ap uri_path c.uri-uri.ensures)
    ∙ c.in-Some.ensures.some
    ∙ ap (λ (name : List ℕ). codes "/" ++ (key ++ (codes "/" ++ name))) c.in-Some-named.ensures.some in
    refused_there c.args.hosts.now key c.args.request.now c.in-Some-named.resource c.as_str.result.now
    (option_copied c.query.result) c.asked_at.result c.in_ok-check_sender.ensures.ok at
    (c.as_str.ensures.value ∙ c.method.ensures) (c.query.ensures.value ∙ ap uri_query c.uri-uri.ensures)
    c.asked_at.ensures.err
