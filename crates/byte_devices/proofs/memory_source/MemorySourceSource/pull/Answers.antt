use Rattle.std.proofs.Common.{◌≡◌, ◌≤◌, length, take, drop, sym, ap, ◌∙◌, arith, rules}
use Rattle.std.proofs.{lemmas.List.places, lemmas.Grind.common_steps}
use Rattle.byte_devices.proofs.Pieces.{copied_piece}
use Rattle.byte_devices.proofs.memory_source.MemorySourceSource.pull.Goals as goal

pub returns-else-n-eq0 : goal.returns-else-n-eq0
returns-else-n-eq0 c =
    let s = c.self.inside in
    let n = c.min-n.result in
    let fits : n ≤ length (drop s.at s.bytes.items) = search (rules, places) in
    let copied : c.copy_from_slice.new.self ≡ take n (drop s.at s.bytes.items) = search (rules, places) in
    record {
      pulls = record {
        bound = grind (arith, common_steps);
        bytes = (
          ap (λ r. r.left) (sym c.self.view_is)
              ∙ copied_piece s.bytes.items c.copy_from_slice.new.self c.args.buf.now s.at n fits copied,
          λ none room. absurd (c.if-n-eq0.false none),
        );
        pulls = search rules;
        failures = search rules;
        ends = search rules;
      };
      count = search (rules, places);
      chosen = search rules;
      same_piece = search rules;
      same_choice = search rules;
    }
