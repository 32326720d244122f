use Rattle.std.proofs.Common.{Contains, ◌≡◌, ◌≤◌, take}
use Rattle.live_board.specs.{Following.IsNamed, declared.fact.Fact.Fact}
use Rattle.live_board.proofs.trail.Trail.name_all.Given as goal

abbrev pub invariant-loop-place : goal.invariant-loop-place
invariant-loop-place l = (l.self.waiting ≡ l.fn.self.waiting) × (l.self.end ≤ l.height)
    × ((f : Fact) → Contains (take l.place l.fn.self.waiting.items) f → IsNamed l.self f.pixel.y)
    × ((f : Fact) → IsNamed l.fn.self f.pixel.y → IsNamed l.self f.pixel.y)
