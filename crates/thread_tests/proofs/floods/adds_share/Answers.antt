use Rattle.std.proofs.Common.{All, Bool, List, [], ◌++◌, false, if◌then◌else◌, true, ◌∷◌, ◌≡◌}
use Rattle.std.proofs.lemmas.List.Elements.{All-push, All-same}
use Rattle.thread_tests.specs.Company.{IsShareOf}
use Rattle.thread_tests.proofs.floods.adds_share.Goals as goal

-- one more, if there was memory for it
all_pushed : {X : Type 0} (P : X → Type 0) (xs ys : List X) (x : X) (ok : Bool) → All P xs → P x
    → ys ≡ (if ok then xs ++ x ∷ [] else xs) → All P ys
all_pushed P xs ys x true all one is = All-same P ys (xs ++ x ∷ []) is (All-push P xs x all one)
all_pushed P xs ys x false all one is = All-same P ys xs is all

pub returns-in-Some-share_of-clause-shares : goal.returns-in-Some-share_of-clause-shares
returns-in-Some-share_of-clause-shares c =
    all_pushed (IsShareOf c.args.board.now) _ _ c.in-Some-share_of.share _ c.requires.shares c.in-Some-share_of.ensures
    c.push.ensures.items
