use Rattle.core_dispatch.specs.{declared.pen.Pen.Pen, Pens.IsOf}
use Rattle.studio.specs.{declared.shots.eye.Eye.Eye, Words.eye_studio, Keeping.books_of, Keeping.studio_of}
use Rattle.std.proofs.Common.{◌≡◌}
use Rattle.thread_tests.proofs.Companies.{popped}
use Rattle.thread_tests.proofs.scene.scene_of.Goals as goal

pub returns-in-Some-Some : goal.returns-in-Some-Some
returns-in-Some-Some g c = record {
  pen = popped (λ (p : Pen). IsOf p (books_of c.args.studio.keeper)) _ c.pop.new.self.items c.pop.result _
      c.requires.pens
      c.pop.ensures.items c.in-Some-Some.is-0;
  eye = popped (λ (e : Eye). eye_studio e ≡ studio_of c.args.studio.keeper) _ c.pop-2.new.self.items c.pop-2.result _
      c.requires.eyes c.pop-2.ensures.items c.in-Some-Some.is-1;
}
