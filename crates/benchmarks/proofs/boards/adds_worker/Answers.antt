use Rattle.std.proofs.Common.{All, Bool, List, [], ◌++◌, false, if◌then◌else◌, true, ◌∷◌, ◌≡◌}
use Rattle.std.proofs.lemmas.List.Elements.{All-push, All-same}
use Rattle.live_board.specs.{Floods.IsDraftOf, Seats.IsHandOf}
use Rattle.benchmarks.proofs.boards.adds_worker.Goals as goal

-- one more, if there was memory for it
all_pushed : {X : Type 0} (P : X → Type 0) (xs ys : List X) (x : X) (ok : Bool) → All P xs → P x
    → ys ≡ (if ok then xs ++ x ∷ [] else xs) → All P ys
all_pushed P xs ys x true all one is = All-same P ys (xs ++ x ∷ []) is (All-push P xs x all one)
all_pushed P xs ys x false all one is = All-same P ys xs is all

pub returns-in-Some-worker_of-clause-workers : goal.returns-in-Some-worker_of-clause-workers
returns-in-Some-worker_of-clause-workers c =
    all_pushed (λ w. IsHandOf c.args.board.now w.0 × IsDraftOf c.args.board.now w.1) _ _ c.in-Some-worker_of.worker _
    c.requires.workers c.in-Some-worker_of.ensures c.push.ensures.items
