-- What every answer carries (RFC 9110; RFC 9111, section 5.2.2.5; Fetch; HTML; Content Security Policy).
use Rattle.std.specs.Prelude.{ℕ, List, [], ◌∷◌, ◌++◌, codes}
use Rattle.http1.specs.Fields.{Header}
use Rattle.page_service.specs.{declared.answer_fields.Media.Media, declared.table.Resource.Resource}
use Rattle.page_service.specs.{declared.refusal.RequestRefusal.RequestRefusal}
use Rattle.page_service.specs.declared.answer_fields.Media.TheVariants.{Html, Text, Graymap, Binary}
use Rattle.page_service.specs.declared.table.Resource.TheVariants.{State, Edits}
use Rattle.page_service.specs.declared.refusal.RequestRefusal.TheVariants.{NotOneHost, NotToUs, NotFromUs, NoKey}
use Rattle.page_service.specs.declared.refusal.RequestRefusal.TheVariants.{NoPath, WrongMethod, WrongQuery}

-- the media type of a body
abbrev pub media_text : Media → List ℕ
media_text Html = codes "text/html; charset=utf-8"
media_text Text = codes "text/plain; charset=utf-8"
media_text Graymap = codes "image/x-portable-graymap"
media_text Binary = codes "application/octet-stream"

-- how a body is coded: a page is compressed (RFC 9110, section 8.4.1.3), and nothing else is
abbrev pub coding_fields : Media → List Header
coding_fields Html = (codes "content-encoding", codes "gzip") ∷ []
coding_fields _ = []

-- the fields of an answer
abbrev pub answer_fields : Media → List ℕ → List Header
answer_fields media policy =
    (codes "content-type", media_text media) ∷ (codes "cache-control", codes "no-store")
    ∷ (codes "x-content-type-options", codes "nosniff") ∷ (codes "x-frame-options", codes "DENY")
    ∷ (codes "cross-origin-resource-policy", codes "same-origin") ∷ (codes "referrer-policy", codes "no-referrer")
    ∷ (codes "content-security-policy", policy) ∷ coding_fields media

-- the status of a refusal
abbrev pub status_of : RequestRefusal → ℕ
status_of NotOneHost = 400
status_of NotToUs = 421
status_of NotFromUs = 403
status_of NoKey = 404
status_of NoPath = 404
status_of (WrongMethod resource) = 405
status_of WrongQuery = 400

-- its words
abbrev pub words_of : RequestRefusal → List ℕ
words_of NotOneHost = codes "not one host"
words_of NotToUs = codes "not to this server"
words_of NotFromUs = codes "not from a page of this server"
words_of NoKey = codes "no such path"
words_of NoPath = codes "no such path"
words_of (WrongMethod resource) = codes "no such method here"
words_of WrongQuery = codes "no such query here"

-- the methods that a resource takes
abbrev pub allow_of : Resource → List ℕ
allow_of Edits = codes "POST"
allow_of State = codes "GET, POST"
allow_of _ = codes "GET"

-- what it has beside the fields of every answer
abbrev pub allow_fields : RequestRefusal → List Header
allow_fields (WrongMethod resource) = (codes "allow", allow_of resource) ∷ []
allow_fields _ = []

-- the fields of a refusal: those of a text that may load and run nothing, and the methods that are taken
abbrev pub refusal_fields : RequestRefusal → List Header
refusal_fields refusal =
    answer_fields Text (codes "default-src 'none'; frame-ancestors 'none'") ++ allow_fields refusal
