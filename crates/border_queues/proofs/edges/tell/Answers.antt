use Rattle.std.proofs.Common.{◌++◌, ap, ◌∙◌, arith, rules, List, length, flat_map}
use Rattle.border_queues.specs.{declared.hint.Hint.Hint, Borders.sender_of}
use Rattle.border_queues.specs.OpenEdges.{hints_from, pixels_of}
use Rattle.border_queues.proofs.edges.tell.Goals as goal

pub returns : goal.returns
returns c =
    let b = c.args.border.now in
    record {
      hints = c.push_all.ensures.behind
          ∙ (λ i. c.reserve.ensures.hints i ++ flat_map (hints_from (sender_of b)) (pixels_of (c.requires.rect i)));
      enough = λ _. search rules;
      kept = omega (
        arith,
        c.push_all.ensures.kept,
        ap (λ (hs : List Hint). length hs) c.reserve.ensures.hints,
        c.reserve.ensures.grown,
      );
      err = search rules;
    }
