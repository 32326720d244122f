-- One answer fits a request, and what each answer leaves behind. Public functions have these as their contracts.
use Rattle.std.specs.Prelude.{◌≡◌, ℕ, List, Some}
use Rattle.http.specs.declared.request.Request.{Request}
use Rattle.http_server.specs.declared.response.Response.{Response}
use Rattle.run_faults.specs.declared.run_error.RunError.{RunError}
use Rattle.page_board.specs.Later.{IsLater}
use Rattle.page_service.specs.{Sender.MayAsk, Table.AsksFor, Refusing.IsRefused, declared.table.Asked.Asked}
use Rattle.page_service.specs.{declared.refusal.RequestRefusal.RequestRefusal, Painting.Painting, Answering.Answers}

-- each request asks for one thing at most, or is refused for one reason at most, and not both
pub record OneAnswer : Type 0 where
  pub one_asked : (key : List ℕ) (r : Request (List ℕ)) (a b : Asked) → AsksFor key r a → AsksFor key r b → a ≡ b
  pub not_both : (port : ℕ) (key : List ℕ) (r : Request (List ℕ)) (asked : Asked) (why : RequestRefusal)
      → MayAsk port r → AsksFor key r asked → IsRefused port key r why → ⊥
  pub one_refusal : (port : ℕ) (key : List ℕ) (r : Request (List ℕ)) (a b : RequestRefusal)
      → IsRefused port key r a → IsRefused port key r b → a ≡ b

-- the board that an answer leaves is the one before, later
abbrev pub AnswersLeaveLater : Type 0
AnswersLeaveLater =
    (old : Painting) (r : Request (List ℕ)) (response : Response) (new : Painting)
    → Answers old r response new → IsLater old.board new.board

-- while what there is is not kept, no answer changes anything
abbrev pub NothingIsTakenUnkept : Type 0
NothingIsTakenUnkept =
    (old : Painting) (r : Request (List ℕ)) (response : Response) (new : Painting) (why : RunError)
    → old.unkept ≡ Some why → Answers old r response new → new ≡ old
