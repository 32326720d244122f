use Rattle.std.proofs.Common.{refl, sym, ap, ◌∙◌, subst}
use Rattle.left_right.specs.Sides.{view}
use Rattle.studio.specs.{declared.shots.shown.Shown.Shown, Chains.Begins, Chains.Holds}
use Rattle.studio.specs.History.{confirmed, whole}
use Rattle.studio.specs.Publishing.{books, published}
use Rattle.studio.proofs.Chains.{all_lead_to_last, begins_on, holds_on, last_is_sound}
use Rattle.studio.proofs.Keeping.{looks, one_book}
use Rattle.studio.proofs.shots.eye.Eye.look.Goals as goal

pub enter_as-requires : goal.enter_as-requires
enter_as-requires c = looks _ _

pub is_behind-requires : goal.is_behind-requires
is_behind-requires c =
    ap (λ x. x.prefix.reached.book) c.get.ensures
    ∙ one_book (published c.in-Ok.reading.part.value) (view c.args.self.reader.place) c.args.self.learnt.reached.book
    c.args.self.book c.in-Ok.ensures.1.fits

pub invariant_of-result : goal.invariant_of-result
invariant_of-result c =
    let told = c.in-Ok.ensures.1 in
    let same = c.leave.ensures.1 in
    record {
      book = ap books same ∙ ap books told.view ∙ c.args.self.book;
      sees = subst (λ v. Holds v.seen (whole c.args.self.seen.reached.log)) (sym (same ∙ told.view))
          (holds_on (view c.args.self.reader.place).seen _ _ c.args.self.sees told.fits.1);
    }

pub invariant_of-result-in-Ok : goal.invariant_of-result-in-Ok
invariant_of-result-in-Ok c =
    let told = c.in-Ok.ensures.1 in
    record {
      book = ap books told.view ∙ c.args.self.book;
      sees = ap (λ v. v.seen) told.view;
    }

pub invariant_of-result-in-Err : goal.invariant_of-result-in-Err
invariant_of-result-in-Err c =
    let same = c.in-Err.ensures.1 in
    record {
      book = ap books same ∙ c.args.self.book;
      sees = subst (λ v. Holds v.seen (whole c.args.self.seen.reached.log)) (sym same) c.args.self.sees;
    }

pub returns-else-is_behind-clause-chain : goal.returns-else-is_behind-clause-chain
returns-else-is_behind-clause-chain c = c.in-Ok.ensures.1.sound

pub returns-else-is_behind-clause-last : goal.returns-else-is_behind-clause-last
returns-else-is_behind-clause-last c = c.in-Ok.ensures.1.last

pub returns-else-is_behind-clause-sound : goal.returns-else-is_behind-clause-sound
returns-else-is_behind-clause-sound c =
    let told = c.in-Ok.ensures.1 in
    last_is_sound (whole c.in-Ok.reading.part.value.prefix.reached.log) _ told.sound told.last

pub returns-else-is_behind-clause-above : goal.returns-else-is_behind-clause-above
returns-else-is_behind-clause-above c =
    let told = c.in-Ok.ensures.1 in
    all_lead_to_last (whole c.in-Ok.reading.part.value.prefix.reached.log) _ told.sound told.last

pub returns-else-is_behind-clause-seen : goal.returns-else-is_behind-clause-seen
returns-else-is_behind-clause-seen c =
    begins_on (view c.args.self.reader.place).seen _ _ c.args.self.sees c.in-Ok.ensures.1.fits.1

pub returns-else-is_behind-clause-learnt : goal.returns-else-is_behind-clause-learnt
returns-else-is_behind-clause-learnt c =
    subst (λ (x : Shown). Begins (whole x.prefix.reached.log) (confirmed c.args.self.learnt.reached.log)) c.get.ensures
    c.if-is_behind.ensures

pub returns-else-is_behind-clause-remembered : goal.returns-else-is_behind-clause-remembered
returns-else-is_behind-clause-remembered c = refl

pub returns-else-is_behind-clause-studio : goal.returns-else-is_behind-clause-studio
returns-else-is_behind-clause-studio c = refl
