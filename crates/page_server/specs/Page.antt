-- The service of a page: what its calls and its shares of settling do, and which files keep its state.
use Rattle.std.specs.Prelude.{◌≡◌, ◌⊎◌, ℕ, List, Option}
use Rattle.http.specs.declared.request.Request.{Request}
use Rattle.http_server.specs.declared.response.Response.{Response}
use Rattle.core_rules.specs.Work.{IsQuiet}
use Rattle.run_faults.specs.declared.run_error.RunError.{RunError}
use Rattle.page_board.specs.{Growing.IsGrown, Keeping.KeepsBoard, Keeping.HasAllIn, Taking.FileIsTaken}
use Rattle.page_service.specs.Answering.{Answers}
use Rattle.page_service.specs.{Kept.HasTaken, Kept.IsKeptAlike, Kept.IsLater}
use Rattle.page_server.specs.{declared.page.Page.Page}

-- how many texts and files were taken
abbrev pub page_version : Page → ℕ
page_version page = page.painting.board.version

-- the bytes of a state file keep each stroke and tombstone of the board
abbrev pub PageSpells : Page → List ℕ → Type 0
PageSpells page file = KeepsBoard page.painting.board file

-- the board has each stroke and tombstone that the bytes of a state file keep
abbrev pub PageHas : Page → List ℕ → Type 0
PageHas page file = HasAllIn page.painting.board file

-- work of its board is left
abbrev pub HasPageWork : Page → Type 0
HasPageWork page = ¬ (IsQuiet page.painting.board.core)

-- the new page is the old one, later
abbrev pub IsCounted : Page → Page → Type 0
IsCounted old new = IsLater page_version PageSpells PageHas old new

-- the painting answers, which is counted, and nothing else changes
pub record PageAnswers (old : Page) (request : Request (List ℕ)) (response : Response) (new : Page) : Type 0 where
  pub answers : Answers old.painting request response new.painting
  pub rest : new ≡ record old { painting = new.painting }
  pub counted : IsCounted old new

-- its board took what the bytes of a state file keep, and nothing else changes
pub record PageTakes (old : Page) (found : List ℕ) (new : Page) : Type 0 where
  pub taken : FileIsTaken old.painting.board found new.painting.board
  pub rest : new ≡ record old { painting = record old.painting { board = new.painting.board } }
  pub counted : HasTaken page_version PageHas old found new

-- it is told that its file keeps what it has, or why it does not, and nothing else changes
pub record PageNotes (old : Page) (why : Option RunError) (new : Page) : Type 0 where
  pub noted : new ≡ record old { painting = record old.painting { unkept = why } }
  pub alike : IsKeptAlike page_version PageSpells PageHas old new

-- the board settled for a slice, and nothing else changed
pub record IsPageGrown (old new : Page) : Type 0 where
  pub grown : IsGrown old.painting.board old.jobs new.painting.board
  pub rest : new ≡ record old { painting = record old.painting { board = new.painting.board } }

-- so it did, or it was left as it was; that is counted
pub record PageGrows (old new : Page) : Type 0 where
  pub grown : IsPageGrown old new ⊎ (new ≡ old)
  pub counted : IsCounted old new

pub calls_count : (old : Page) (request : Request (List ℕ)) (response : Response) (new : Page)
    → PageAnswers old request response new → IsLater page_version PageSpells PageHas old new
calls_count old request response new answered = answered.counted

pub works_count : (old new : Page) → PageGrows old new → IsLater page_version PageSpells PageHas old new
works_count old new grows = grows.counted

pub takes_count : (old : Page) (found : List ℕ) (new : Page) → PageTakes old found new
    → HasTaken page_version PageHas old found new
takes_count old found new taken = taken.counted

pub notes_count : (old : Page) (why : Option RunError) (new : Page) → PageNotes old why new
    → IsKeptAlike page_version PageSpells PageHas old new
notes_count old why new told = told.alike
