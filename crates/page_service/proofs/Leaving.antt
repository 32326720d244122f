-- Each answer leaves a later board.
use Rattle.std.proofs.Common.{◌≡◌, ℕ, List, ◌⊎◌, inl, inr, sym, subst, Some}
use Rattle.http_server.specs.declared.response.Response.{Response}
use Rattle.page_service.specs.{declared.table.Asked.Asked, Painting.Painting}
use Rattle.page_service.specs.declared.table.Asked.TheVariants.{Image, Edits, Join}
use Rattle.page_service.specs.Answering.{IsTakenAndTold, IsTurnedDown, AnswersEdits, AnswersJoin, WhereKept}
use Rattle.page_service.specs.Answering.{AnswersAsked}
use Rattle.page_service.specs.Laws.{AnswersLeaveLater, NothingIsTakenUnkept}
use Rattle.run_faults.specs.declared.run_error.RunError.{RunError}
use Rattle.page_board.specs.{Later.IsLater, Laws.EachIsLater}

same_is_later : EachIsLater → (old new : Painting) → new ≡ old → IsLater old.board new.board
same_is_later each old new same = subst (λ (p : Painting). IsLater old.board p.board) (sym same) (each old.board)

post_is_later : EachIsLater → (taken : Type 0) (refuses : RunError → Type 0) (run since : ℕ) (old : Painting)
    (response : Response) (new : Painting)
    → IsTakenAndTold taken run since old response new ⊎ IsTurnedDown refuses old response new
    → IsLater old.board new.board
post_is_later each taken refuses run since old response new (inl done) = done.later
post_is_later each taken refuses run since old response new (inr down) = same_is_later each old new down.same

kept_is_later : EachIsLater → (answered : Type 0) (old : Painting) (response : Response) (new : Painting)
    → (answered → IsLater old.board new.board) → WhereKept answered old response new → IsLater old.board new.board
kept_is_later each answered old response new later (inl held) = same_is_later each old new held.same
kept_is_later each answered old response new later (inr (kept, done)) = later done

asked_is_later : EachIsLater → (asked : Asked) (old : Painting) (body : List ℕ) (response : Response)
    (new : Painting)
    → AnswersAsked asked old body response new → IsLater old.board new.board
asked_is_later each Image old body response new answer = same_is_later each old new answer.2.0
asked_is_later each (Edits moment) old body response new answer =
    kept_is_later each (AnswersEdits old body moment.run moment.step response new) old response new
    (λ done. post_is_later each _ _ _ _ old response new done) answer
asked_is_later each Join old body response new answer =
    kept_is_later each (AnswersJoin old body response new) old response new
    (λ done. post_is_later each _ _ _ _ old response new done) answer
asked_is_later each asked old body response new answer = same_is_later each old new answer.0

pub leaves_later : EachIsLater → AnswersLeaveLater
leaves_later each old r response new (inl refusal) = same_is_later each old new refusal.same
leaves_later each old r response new (inr answer) =
    asked_is_later each answer.asked old _ response new answer.answers

-- ---- while what there is is not kept

unkept_is_same : (answered : Type 0) (old : Painting) (response : Response) (new : Painting) (why : RunError)
    → old.unkept ≡ Some why → WhereKept answered old response new → new ≡ old
unkept_is_same answered old response new why unkept (inl held) = held.same
unkept_is_same answered old response new why unkept (inr (kept, done)) = absurd cc

asked_is_same : (asked : Asked) (old : Painting) (body : List ℕ) (response : Response) (new : Painting)
    (why : RunError) → old.unkept ≡ Some why → AnswersAsked asked old body response new → new ≡ old
asked_is_same Image old body response new why unkept answer = answer.2.0
asked_is_same (Edits moment) old body response new why unkept answer =
    unkept_is_same (AnswersEdits old body moment.run moment.step response new) old response new why unkept answer
asked_is_same Join old body response new why unkept answer =
    unkept_is_same (AnswersJoin old body response new) old response new why unkept answer
asked_is_same asked old body response new why unkept answer = answer.0

pub nothing_is_taken_unkept : NothingIsTakenUnkept
nothing_is_taken_unkept old r response new why unkept (inl refusal) = refusal.same
nothing_is_taken_unkept old r response new why unkept (inr answer) =
    asked_is_same answer.asked old _ response new why unkept answer.answers
