use Rattle.std.proofs.Common.{◌≡◌, ◌+◌, ◌-◌, ◌*◌, ◌<◌, ◌≤◌, ◌++◌, max, flat_map}
use Rattle.std.specs.List.{range_with_len}
use Rattle.border_queues.specs.{Waiting.places, Borders.hints_of_row}
use Rattle.border_queues.proofs.border.Border.push_all.Given as goal

-- the hints of the rows so far are told
abbrev pub invariant-loop-y : goal.invariant-loop-y
invariant-loop-y l =
    let rect = l.self.rect in
    let top = l.self.bounds.top in
    record {
      upto : l.y ≤ max top l.self.bounds.bottom;
      hints : l.out.hints
          ≡ l.initial.out.hints ++ flat_map (hints_of_row l.self) (range_with_len top (l.y - top));
      at_first : l.y ≤ rect.y → l.initial.out.room ≤ l.out.room;
      before_last : l.y < rect.y + rect.h
          → l.initial.out.room ≤ l.out.room + 16 * (l.y - rect.y) + 8 * rect.w;
      room : l.initial.out.room ≤ l.out.room + 16 * (l.y - rect.y) + 16 * rect.w;
      kept : places l.initial.out ≤ places l.out;
    }
