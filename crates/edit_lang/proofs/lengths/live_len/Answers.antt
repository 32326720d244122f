use Rattle.std.proofs.Common.{◌≡◌, ◌+◌, ◌-◌, ◌^◌, ℕ, List, [], length, min, ap, ◌∙◌, arith, flat_map}
use Rattle.stroke_core.specs.Seed.{Seed}
use Rattle.edit_lang.specs.Writing.{placement_text, live_of, live_text}
use Rattle.edit_lang.proofs.LiveStrokes.{live_are}
use Rattle.edit_lang.proofs.lengths.live_len.Goals as goal

pub loop-tag-init : goal.loop-tag-init
loop-tag-init c =
    let all : c.into_iter-tag-iterator.result ≡ live_of c.args.state.now =
    c.into_iter-tag-iterator.ensures.into_iter_gives
    ∙ live_are c.args.state.now c.live-tag-items.result c.live-tag-items.ensures.strokes in
    let none : 0 + length (live_text c.args.state.now) ≡ length (live_text c.args.state.now) = omega arith in
    record {
      rest = ap
          (λ (es : List (ℕ × Seed)). min (0 + length (flat_map (λ e. placement_text e.0 e.1) es)) (2 ^ 64 - 1)) all
          ∙ ap (λ (n : ℕ). min n (2 ^ 64 - 1)) none;
      within = omega arith;
    }

pub returns : goal.returns
returns c =
    let none : c.loop-tag.tag-iterator ≡ [] = c.in-None.ensures.steps.0 in
    let rest : length (flat_map (λ e. placement_text e.0 e.1) c.loop-tag.tag-iterator) ≡ 0 =
    ap (λ (es : List (ℕ × Seed)). length (flat_map (λ e. placement_text e.0 e.1) es)) none in
    omega (arith, rest, c.loop-tag.invariant.rest, c.loop-tag.invariant.within)
