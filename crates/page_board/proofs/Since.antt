-- From which step on a page has to be told what changed.
use Rattle.std.proofs.Common.{◌≡◌, ℕ, suc, ◌≤◌, inl, inr, arith, true, false, ◌≢◌, Bool, ◌==◌, nat_lt, if◌then◌else◌}
use Rattle.std.proofs.{lemmas.Bool.Decides.leb_tells, lemmas.Bool.ne_eqb}
use Rattle.page_board.specs.Board.{PageBoard, since_in, since_of, HasTurned}

-- once steps have gone on, it is the same or earlier
pub since_falls : (a b s t last : ℕ) → a ≤ b → s ≤ t
    → (if nat_lt b last then s else 0) ≤ (if nat_lt a last then t else 0)
since_falls a b s t last further before = elim (leb_tells (suc b) last) [
  | inl goes_on ↦ elim (leb_tells (suc a) last) [
    | inl went_on ↦ rw (goes_on.0, went_on.0) before
    | inr spent ↦ absurd (omega (arith, goes_on.1, spent.1))
  ]
  | inr spent ↦ rw spent.0 (omega arith)
]

-- a number where a test holds, else 0, is at most the number
chosen_at_most : (test : Bool) (n : ℕ) → (if test then n else 0) ≤ n
chosen_at_most true n = omega arith
chosen_at_most false n = omega arith

-- a page of another run is told no less
pub since_of_at_most : (b : PageBoard) (run since : ℕ) → since_of b run since ≤ since_in b since
since_of_at_most b run since = chosen_at_most (run == b.run) (since_in b since)

-- it is told all
pub since_another_run : (b : PageBoard) (run since : ℕ) → run ≢ b.run → since_of b run since ≡ 0
since_another_run b run since other = rw (ne_eqb run b.run other)

-- what turned after a step turned after an earlier one
pub turned_after : (b : PageBoard) (s t tag : ℕ) → s ≤ t → HasTurned b t tag → HasTurned b s tag
turned_after b s t tag before turned = record {
  news = turned.news;
  told = turned.told;
  later = omega (arith, before, turned.later);
  turned = turned.turned;
}
