-- What calls and slices of settling do to the version and to what is kept.
use Rattle.std.proofs.Common.{◌≡◌, ℕ, ◌<◌, List, Option, Result, Ok, Err, inl, inr, refl, sym, ap, subst, arith, OnOk}
use Rattle.http.specs.{declared.request.Request.Request, Request.body_of}
use Rattle.http_server.specs.declared.response.Response.{Response}
use Rattle.page_service.specs.{declared.table.Asked.Asked, Answering.Answers, Answering.AnswersAsked, Painting.Painting}
use Rattle.page_service.specs.declared.table.Asked.TheVariants.{Image, Edits, Join}
use Rattle.stroke_lattice.specs.State.{State as Delta}
use Rattle.run_faults.specs.declared.run_error.RunError.{RunError}
use Rattle.page_board.specs.{Board.PageBoard, Growing.IsGrown, Keeping.HasAllIn, Later.IsLater}
use Rattle.page_board.specs.Taking.{AreTakenTogether, FileIsTaken}
use Rattle.core_rules.proofs.KeptRuns.{Keeps}
use Rattle.page_board.proofs.{Grounds.worked_on_keeps, Keeping.later_has_all}
use Rattle.page_board.proofs.{Keeping.same_state_is_kept, Later.each_is_later}
use Rattle.page_service.specs.{Kept.last_version}
use Rattle.page_server.specs.{declared.page.Page.Page}
use Rattle.page_server.specs.Page.{IsCounted, PageGrows, PageNotes, PageTakes}

-- the new board is the old one, later; and where the version stays, below the last one, so do strokes and tombstones
pub record BoardCounts (old new : PageBoard) : Type 0 where
  pub later : IsLater old new
  pub stays : new.version ≡ old.version → new.version < last_version → new.core.state ≡ old.core.state

counts_itself : (old new : Painting) → new ≡ old → BoardCounts old.board new.board
counts_itself old new same = subst (λ (p : Painting). BoardCounts old.board p.board) (sym same) (record {
  later = each_is_later old.board;
  stays = λ stays small. refl;
})

-- what is taken is counted, below the last version
taken_rises : (old new : PageBoard) (deltas : List Delta) → AreTakenTogether old deltas new → IsLater old new
    → BoardCounts old new
taken_rises old new deltas (delta, merged, taken) later = record {
  later = later;
  stays = λ stays small. absurd (omega (arith, taken.version, stays, small));
}

asked_counts : (asked : Asked) (old new : Painting) (body : List ℕ) (response : Response)
    → AnswersAsked asked old body response new → BoardCounts old.board new.board
asked_counts Image old new body response (bytes, is, (same, says)) = counts_itself old new same
asked_counts (Edits moment) old new body response (inl held) = counts_itself old new held.same
asked_counts (Edits moment) old new body response (inr (kept, inl taken)) =
    taken_rises old.board new.board taken.is_taken.0 taken.is_taken.2 taken.later
asked_counts (Edits moment) old new body response (inr (kept, inr refused)) = counts_itself old new refused.same
asked_counts Join old new body response (inl held) = counts_itself old new held.same
asked_counts Join old new body response (inr (kept, inl taken)) =
    taken_rises old.board new.board taken.is_taken.0 taken.is_taken.2 taken.later
asked_counts Join old new body response (inr (kept, inr refused)) = counts_itself old new refused.same
asked_counts asked old new body response answer = counts_itself old new answer.0

-- each call is counted
pub answers_count : (old new : Painting) (request : Request (List ℕ)) (response : Response)
    → Answers old request response new → BoardCounts old.board new.board
answers_count old new request response (inl refusal) = counts_itself old new refusal.same
answers_count old new request response (inr answer) =
    asked_counts answer.asked old new (body_of request) response answer.answers

-- a slice of settling leaves version, strokes and tombstones
pub grown_counts : (old new : PageBoard) (jobs : ℕ) → IsGrown old jobs new → IsLater old new → BoardCounts old new
grown_counts old new jobs grown later =
    let keeps : Keeps old.core new.core = worked_on_keeps old.core new.core jobs grown.worked in
    record { later = later; stays = λ stays small. keeps.state }

-- ---- the service of a page

pub page_counts : (old new : Page) → BoardCounts old.painting.board new.painting.board → IsCounted old new
page_counts old new counts = record {
  rises = counts.later.version;
  stays = λ stays small file spelled.
      same_state_is_kept old.painting.board new.painting.board file counts.later (counts.stays stays small) spelled;
  had = λ file has. later_has_all old.painting.board new.painting.board file counts.later has;
}

-- what its board takes, it takes
pub page_takes : {E : Type 0} (result : Result (Unit {0}) E) (old : Page) (painting : Painting) (found : List ℕ)
    → painting ≡ record old.painting { board = painting.board }
    → IsLater old.painting.board painting.board → OnOk result (FileIsTaken old.painting.board found painting.board)
    → OnOk result (HasAllIn painting.board found)
    → OnOk result (PageTakes old found (record old { painting = painting }))
page_takes (Ok value) old painting found rest later taken has = record {
  taken = taken;
  rest = ap (λ (p : Painting). record old { painting = p }) rest;
  counted = record {
    rises = later.version;
    taken = has;
    had = λ file had. later_has_all old.painting.board painting.board file later had;
  };
}
page_takes (Err e) old painting found rest later taken has = tt

-- what it is told changes nothing that is kept
pub page_notes : (old : Page) (painting : Painting) (why : Option RunError)
    → painting ≡ record old.painting { unkept = why } → PageNotes old why (record old { painting = painting })
page_notes old painting why rest =
    subst (λ (p : Painting). PageNotes old why (record old { painting = p })) (sym rest) (record {
      noted = refl;
      alike = record {
        counted = refl;
        spelled = λ file spelled. spelled;
        had = λ file had. had;
      };
    })

-- as its painting grows, it grows
pub page_grows : (old : Page) (painting : Painting) → painting ≡ record old.painting { board = painting.board }
    → IsGrown old.painting.board old.jobs painting.board → IsLater old.painting.board painting.board
    → PageGrows old (record old { painting = painting })
page_grows old painting rest grown later = record {
  grown = inl (record { grown = grown; rest = ap (λ (p : Painting). record old { painting = p }) rest });
  counted = page_counts old (record old { painting = painting })
      (grown_counts old.painting.board painting.board old.jobs grown later);
}

-- and where no work is left, it stays
pub page_stays : (page : Page) → PageGrows page page
page_stays page = record {
  grown = inr refl;
  counted = page_counts page page (counts_itself page.painting page.painting refl);
}
