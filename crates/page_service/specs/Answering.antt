-- What each request is answered, and what it leaves behind.
use Rattle.std.specs.Prelude.{◌≡◌, ℕ, List, ◌++◌, Some, None, ◌⊎◌, codes}
use Rattle.http.specs.{declared.request.Request.Request, Request.body_of}
use Rattle.http_server.specs.{declared.response.Response.Response, Response.IsResponse}
use Rattle.page_service.specs.{Sender.MayAsk, Table.AsksFor, Refusing.IsRefused, declared.answer_fields.Media.Media}
use Rattle.page_service.specs.{declared.refusal.RequestRefusal.RequestRefusal, declared.table.Asked.Asked}
use Rattle.page_service.specs.AnswerFields.{answer_fields, refusal_fields, status_of, words_of}
use Rattle.page_service.specs.MaskName.{name_fields}
use Rattle.page_service.specs.declared.answer_fields.Media.TheVariants.{Html, Text, Graymap, Binary}
use Rattle.page_service.specs.declared.table.Asked.TheVariants.{Page, Mask, Image, State, Strokes, Changes, Edits, Join}
use Rattle.page_service.specs.Painting.{Painting, IsImageFile, state_text}
use Rattle.pgm_codec.specs.Writing.{raw_text}
use Rattle.edit_lang.specs.Writing.{live_text}
use Rattle.run_faults.specs.{RunError.fault_text, declared.run_error.RunError.RunError}
use Rattle.page_board.specs.{Board.mask_of, Later.IsLater, Changes.AreChanges}
use Rattle.page_board.specs.Taking.{TextIsTaken, TextIsRefused, FileIsTaken, FileIsRefused}

-- the response has this status, the fields of every answer, and this body
abbrev pub Says : Painting → ℕ → Media → List ℕ → Response → Type 0
Says p status media bytes response = IsResponse status (answer_fields media p.policy) bytes response

-- ---- what is looked at

-- 200 with this body, and nothing changed
abbrev pub Shows : Media → List ℕ → Painting → Response → Painting → Type 0
Shows media bytes old response new = (new ≡ old) × Says old 200 media bytes response

-- 200 with the file of the mask, and the field that tells its name, where it is told
abbrev pub SaysMask : Painting → Response → Type 0
SaysMask p response =
    IsResponse 200 (answer_fields Graymap p.policy ++ name_fields p.name) (raw_text (mask_of p.board)) response

-- the file of the image
abbrev pub ShowsImage : Painting → Response → Painting → Type 0
ShowsImage old response new = (bytes : List ℕ) × IsImageFile old.board bytes × Shows Graymap bytes old response new

-- 200 with what changed since a page was told this step of this run
abbrev pub TellsChanges : Painting → ℕ → ℕ → Response → Type 0
TellsChanges p run since response =
    (bytes : List ℕ) × AreChanges p.board run since bytes × Says p 200 Binary bytes response

-- ---- what is posted

-- it was taken, and there was no memory to tell what changed
abbrev pub SaysTaken : Painting → Response → Type 0
SaysTaken p response = Says p 503 Text (codes "taken, and no memory to tell what changed") response

-- it was taken: the board is a later one, nothing else changed, and the answer tells what changed since, if it can
pub record IsTakenAndTold (taken : Type 0) (run since : ℕ) (old : Painting) (response : Response) (new : Painting)
    : Type 0 where
  pub is_taken : taken
  pub later : IsLater old.board new.board
  pub rest : new ≡ record old { board = new.board }
  pub told : TellsChanges new run since response ⊎ SaysTaken new response

-- it was refused: nothing changed, and the answer is the line of the fault
pub record IsTurnedDown (refuses : RunError → Type 0) (old : Painting) (response : Response) (new : Painting)
    : Type 0 where
  pub why : RunError
  pub refused : refuses why
  pub same : new ≡ old
  pub told : Says old 409 Text (fault_text why) response

-- an edit text; the page tells what it was told before
abbrev pub AnswersEdits : Painting → List ℕ → ℕ → ℕ → Response → Painting → Type 0
AnswersEdits old text run since response new =
    IsTakenAndTold (TextIsTaken old.board text new.board) run since old response new
    ⊎ IsTurnedDown (TextIsRefused old.board text) old response new

-- a state file; it is told what a page is told that knows all
abbrev pub AnswersJoin : Painting → List ℕ → Response → Painting → Type 0
AnswersJoin old file response new =
    IsTakenAndTold (FileIsTaken old.board file new.board) new.board.run new.board.step old response new
    ⊎ IsTurnedDown (FileIsRefused old.board file) old response new

-- what there is is not kept: nothing that is posted is taken, nothing changed, and the answer is the line of the reason
pub record IsHeldOff (old : Painting) (response : Response) (new : Painting) : Type 0 where
  pub why : RunError
  pub unkept : old.unkept ≡ Some why
  pub same : new ≡ old
  pub told : Says old 503 Text (fault_text why) response

-- what is posted is answered so only where what there is is kept
abbrev pub WhereKept : Type 0 → Painting → Response → Painting → Type 0
WhereKept answered old response new = IsHeldOff old response new ⊎ ((old.unkept ≡ None) × answered)

-- ---- each request

-- the answer to what is asked
abbrev pub AnswersAsked : Asked → Painting → List ℕ → Response → Painting → Type 0
AnswersAsked Page old body response new = Shows Html old.page old response new
AnswersAsked Mask old body response new = (new ≡ old) × SaysMask old response
AnswersAsked Image old body response new = ShowsImage old response new
AnswersAsked State old body response new = Shows Binary (state_text old.board) old response new
AnswersAsked Strokes old body response new = Shows Text (live_text old.board.core.state) old response new
AnswersAsked (Changes moment) old body response new =
    (new ≡ old) × TellsChanges old moment.run moment.step response
AnswersAsked (Edits moment) old body response new =
    WhereKept (AnswersEdits old body moment.run moment.step response new) old response new
AnswersAsked Join old body response new = WhereKept (AnswersJoin old body response new) old response new

-- the request is refused for a reason, which the answer tells, and nothing changed
pub record IsRefusal (old : Painting) (r : Request (List ℕ)) (response : Response) (new : Painting) : Type 0 where
  pub why : RequestRefusal
  pub refused : IsRefused old.port old.key r why
  pub same : new ≡ old
  pub told : IsResponse (status_of why) (refusal_fields why) (words_of why) response

-- who sent the request may ask, and what it asks for is answered
pub record IsAnswer (old : Painting) (r : Request (List ℕ)) (response : Response) (new : Painting) : Type 0 where
  pub asked : Asked
  pub sender : MayAsk old.port r
  pub asks : AsksFor old.key r asked
  pub answers : AnswersAsked asked old (body_of r) response new

-- each request is refused or answered
abbrev pub Answers : Painting → Request (List ℕ) → Response → Painting → Type 0
Answers old r response new = IsRefusal old r response new ⊎ IsAnswer old r response new
