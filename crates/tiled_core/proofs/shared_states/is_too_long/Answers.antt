-- What the tactics leave open of `is_too_long`.
use Rattle.std.proofs.Common.{◌≡◌, arith, length, ap, inl, inr, ◌∙◌}
use Rattle.std.proofs.lemmas.Bool.{lt-ltb, ltb-true}
use Rattle.stroke_lattice.specs.Pieces.{strokes_of, tombstones_of}
use Rattle.stroke_lattice.proofs.Items.{strokes_are, tombstones_are}
use Rattle.tiled_core.proofs.shared_states.is_too_long.Goals.{After-len}
use Rattle.tiled_core.proofs.shared_states.is_too_long.Goals as goal

strokes_counted : (c : After-len) → c.len.result ≡ length (strokes_of c.args.delta.now)
strokes_counted c =
    c.len.ensures.value ∙ ap length (strokes_are c.args.delta.now c.strokes.result c.strokes.ensures.strokes)

pub returns-then-len-gt-MOST_KEPT : goal.returns-then-len-gt-MOST_KEPT
returns-then-len-gt-MOST_KEPT c = (
  λ long. inl (omega (
    arith,
    c.if-len-gt-MOST_KEPT.true,
    strokes_counted (goal.at.returns-then-len-gt-MOST_KEPT c).After-len,
  )),
  λ either. lt-ltb 256 c.len.result c.if-len-gt-MOST_KEPT.true,
)

pub returns-else-len-gt-MOST_KEPT : goal.returns-else-len-gt-MOST_KEPT
returns-else-len-gt-MOST_KEPT c =
    let tags = c.tombstones.result in
    let strokes = strokes_counted (goal.at.returns-else-len-gt-MOST_KEPT c).After-len in
    let tombstones : c.len-else-len-gt-MOST_KEPT.result ≡ length (tombstones_of c.args.delta.now) =
    c.len-else-len-gt-MOST_KEPT.ensures.value
    ∙ ap length (tombstones_are c.args.delta.now tags c.tombstones.ensures.tombstones) in (
      λ long. inr (omega (arith, ltb-true 256 c.len-else-len-gt-MOST_KEPT.result long, tombstones)),
      λ either. elim either [
        | inl many ↦ absurd (omega (arith, many, strokes, c.if-len-gt-MOST_KEPT.false))
        | inr many ↦ lt-ltb 256 c.len-else-len-gt-MOST_KEPT.result (omega (arith, many, tombstones))
      ],
    )
