use Rattle.std.proofs.Common.{◌≡◌, [], ◌∷◌, ◌++◌, ◌∙◌}
use Rattle.edit_lang.proofs.Runs.{goes_on, stops, ends, ends_wrong}
use Rattle.edit_lang.proofs.shape.parse_runs.Goals as goal

pub returns-in_default-parse_run : goal.returns-in_default-parse_run
returns-in_default-parse_run c = stops c.loop-piece.runs.items c.loop-piece.rest.now _ _ c.in-Some.ensures.parts
    c.in_default-parse_run.ensures ∙ c.loop-piece.invariant

pub loop-piece-preserved : goal.loop-piece-preserved
loop-piece-preserved c =
    let pushed : c.push.new.self.items ≡ c.loop-piece.runs.items ++ c.in-Some-parse_run.run' ∷ [] =
    c.in_ok-push.ensures.items in
    rw pushed (goes_on c.loop-piece.runs.items c.loop-piece.rest.now _ _ c.in-Some-parse_run.run'
    c.in-Some.ensures.parts c.in-Some-parse_run.ensures ∙ c.loop-piece.invariant)

pub returns-in_default-parse_run-2 : goal.returns-in_default-parse_run-2
returns-in_default-parse_run-2 c = ends_wrong c.loop-piece.runs.items c.loop-piece.rest.now
    c.in_default.ensures.parts c.in_default-parse_run-2.ensures ∙ c.loop-piece.invariant

pub returns : goal.returns
returns c =
    let pushed : c.push-2.new.self.items ≡ c.loop-piece.runs.items ++ c.in-Some-parse_run-2.last ∷ [] =
    c.in_ok-push-2.ensures.items in
    rw pushed (ends c.loop-piece.runs.items c.loop-piece.rest.now c.in-Some-parse_run-2.last
    c.in_default.ensures.parts c.in-Some-parse_run-2.ensures ∙ c.loop-piece.invariant)
