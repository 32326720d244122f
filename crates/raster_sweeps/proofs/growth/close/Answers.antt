use Rattle.std.proofs.Common.{◌<◌, ◌≤◌, sym, ◌∙◌, arith, inl, inr}
use Rattle.std.proofs.lemmas.Bool.{false≢true}
use Rattle.grid_core.specs.Raster.{headroom}
use Rattle.raster_sweeps.specs.Growth.{rows_of}
use Rattle.raster_sweeps.proofs.Grown.{grown_filled, grown_headroom, grown_twice}
use Rattle.raster_sweeps.proofs.Growing.{can_close_on, grown_nowhere}
use Rattle.raster_sweeps.proofs.growth.close.Goals.{else-all-via-then-all+else-drain, else-all-via-else-all}
use Rattle.raster_sweeps.proofs.growth.close.Goals as goal

pub rounds-init : goal.rounds-init
rounds-init c = grown_nowhere c.requires

pub fill-all-requires : goal.fill-all-requires
fill-all-requires c = can_close_on c.requires c.rounds.invariant

pub returns-then-drain : goal.returns-then-drain
returns-then-drain c = record {
  grown = grown_twice (grown_twice c.rounds.invariant c.fill-all.ensures.scanned.grown) c.drain.ensures.grown;
  closed = c.drain.ensures.closed c.if-drain.true (c.fill-all.ensures.scanned.waits c.if-all.true);
}

pub rounds-smaller : goal.rounds-smaller
rounds-smaller c =
    let size = c.args.size in
    let image = rows_of size c.rounds.image in
    let filled = rows_of size c.fill-all.new.image in
    let by_fill : headroom filled.cells ≤ headroom image.cells =
    grown_headroom (grown_filled c.requires.filled c.rounds.invariant) c.fill-all.ensures.scanned.grown in
    let less : headroom c.else-all.image < headroom c.rounds.image =
    elim c.else-all.branch [
      | else-all-via-then-all+else-drain w ↦ elim w.drain.ensures.rose [
        | inl done ↦ absurd (false≢true (sym w.if-drain.false ∙ done))
        | inr rose ↦ rw w.image-is (omega (arith, rose, by_fill))
      ]
      | else-all-via-else-all w ↦ elim c.fill-all.ensures.rose [
        | inl all ↦ absurd (false≢true (sym w.if-all.false ∙ all))
        | inr rose ↦ rw w.image-is rose
      ]
    ] in
    less

pub rounds-preserved : goal.rounds-preserved
rounds-preserved c =
    let grown = grown_twice c.rounds.invariant c.fill-all.ensures.scanned.grown in
    elim c.else-all.branch [
      | else-all-via-then-all+else-drain w ↦
          rw w.image-is (grown_twice grown w.drain.ensures.grown)
      | else-all-via-else-all w ↦ rw w.image-is grown
    ]
