use Rattle.std.proofs.Common.{◌≡◌, ◌+◌, ◌-◌, ◌*◌, ◌≤◌, ◌++◌, max, flat_map}
use Rattle.std.specs.List.{range_with_len}
use Rattle.border_queues.specs.{Waiting.places, OpenEdges.hints_from, Borders.sender_of}
use Rattle.border_queues.proofs.border.Border.push_line.Given as goal

-- the hints of the columns so far are told
abbrev pub invariant-loop-x : goal.invariant-loop-x
invariant-loop-x l =
    let left = l.self.bounds.left in
    record {
      upto : l.x ≤ max left l.self.bounds.right;
      hints : l.out.hints ≡ l.initial.out.hints ++ flat_map (λ x. hints_from (sender_of l.self)
          (record { x = x; y = l.y })) (range_with_len left (l.x - left));
      room : l.initial.out.room ≤ l.out.room + 8 * (l.x - left);
      kept : places l.initial.out ≤ places l.out;
    }
