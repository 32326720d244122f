-- What becomes of what is posted: taken or refused.
use Rattle.std.proofs.Common.{◌≡◌, ℕ, List, ◌⊎◌, inl, inr, OnOk, subst, sym, Result, Ok, Err, arith}
use Rattle.http_server.specs.{declared.response.Response.Response}
use Rattle.page_service.specs.{declared.answer_fields.Media.TheVariants.Text}
use Rattle.page_service.specs.{Painting.Painting}
use Rattle.page_service.specs.Answering.{Says, SaysTaken, TellsChanges, IsTakenAndTold, IsTurnedDown}
use Rattle.run_faults.specs.RunError.{IsMemory, fault_text}
use Rattle.run_faults.specs.{declared.run_error.RunError.RunError, declared.run_error.RunError.TheVariants.StateFile}
use Rattle.page_board.specs.{Board.PageBoard, Later.IsLater, Taking.FileIsRefused}

-- what was taken is told, where the painting is the same behind the telling; `run` and `since` are those of the moment
-- that the page is told from
pub is_taken_and_told : (taken : Painting → Type 0) (run since : Painting → ℕ) (old mid new : Painting)
    (response : Response) (r s : ℕ)
    → r ≡ run mid → s ≡ since mid → taken mid → IsLater old.board mid.board → mid ≡ record old { board = mid.board }
    → TellsChanges mid r s response ⊎ SaysTaken mid response → new ≡ mid
    → IsTakenAndTold (taken new) (run new) (since new) old response new
is_taken_and_told taken run since old mid new response r s run_is since_is is_taken later rest told same =
    subst (λ (p : Painting). IsTakenAndTold (taken p) (run p) (since p) old response p) (sym same) (record {
      is_taken = is_taken;
      later = later;
      rest = rest;
      told = subst (λ (a : ℕ). TellsChanges mid a (since mid) response ⊎ SaysTaken mid response) run_is
          (subst (λ (b : ℕ). TellsChanges mid r b response ⊎ SaysTaken mid response) since_is told);
    })

-- a fault that is not want of memory is the other one
other_fault : (e : RunError) (P : Type 0) → (IsMemory e → ⊥) → IsMemory e ⊎ P → P
other_fault e P not_memory (inl memory) = absurd (not_memory memory)
other_fault e P not_memory (inr other) = other

-- where a fault was answered with its line, and the painting is as it was, what was posted is turned down
pub is_turned_down : {X F : Type 0} (result : Result X F) (taken : Type 0) (refuses : RunError → Type 0)
    (old new : Painting) (e : RunError) (response : Response)
    → new ≡ old → IsMemory e ⊎ refuses e → OnOk result (IsMemory e → ⊥)
    → OnOk result (Says new 409 Text (fault_text e) response)
    → OnOk result (taken ⊎ IsTurnedDown refuses old response new)
is_turned_down (Ok x) taken refuses old new e response same fault not_memory told =
    inr (record {
      why = e;
      refused = other_fault e (refuses e) not_memory fault;
      same = same;
      told = subst (λ (p : Painting). Says p 409 Text (fault_text e) response) same told;
    })
is_turned_down (Err x) taken refuses old new e response same fault not_memory told = told

-- no fault of a state file that is taken is one of the store
pub fault_of_no_store : (b : PageBoard) (file : List ℕ) (e : RunError) → IsMemory e ⊎ FileIsRefused b file e
    → e ≡ StateFile → ⊥
fault_of_no_store b file e fault store = grind arith
