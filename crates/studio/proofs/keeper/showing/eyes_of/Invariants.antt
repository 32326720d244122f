use Rattle.studio.specs.Opening.{AreEyesOf, ShowsTheSame}
use Rattle.studio.proofs.keeper.showing.eyes_of.Given as goal

abbrev pub invariant-loop-eye : goal.invariant-loop-eye
invariant-loop-eye l = record {
  eyes : AreEyesOf l.fn.publisher l._eye l.eyes.items;
  shows : ShowsTheSame l.fn.publisher l.publisher;
}
