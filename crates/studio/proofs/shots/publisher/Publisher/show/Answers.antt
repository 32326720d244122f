use Rattle.std.proofs.Common.{[], ◌∷◌, ◌++◌, ◌+◌, ◌≤◌, length, sym, ap, ◌∙◌, subst}
use Rattle.std.specs.Arc.{arc_value}
use Rattle.std.proofs.lemmas.Result.{IfOk-from_err, MatchResult-from_err}
use Rattle.studio.specs.declared.shots.history.Entry.TheVariants.{Announced}
use Rattle.studio.specs.{History.confirmed, History.head_of, History.whole, Words.last_by, Chains.MayFollow}
use Rattle.studio.specs.Publishing.{informed, published}
use Rattle.studio.proofs.Telling.{abreast_next, announced, announced_next, confirmed_next}
use Rattle.studio.proofs.shots.publisher.Publisher.show.Goals as goal

pub replace_with-requires : goal.replace_with-requires
replace_with-requires g c =
    let old = c.args.self.now in
    let announces = c.add.ensures.log ∙ ap (λ s. old.prefix.reached.log ++ Announced s ∷ []) c.deref.ensures in
    record {
      book = ap (λ p. p.reached.book) c.again.ensures ∙ c.add.ensures.book ∙ sym old.book;
      longer = ap (λ p. whole p.reached.log) c.again.ensures
          ∙ announced_next old.prefix.reached.log c.add.result.reached.log (arc_value c.in-Ok.shot) announces
          ∙ ap (λ l. l ++ arc_value c.in-Ok.shot ∷ []) old.chain;
      follows = subst (MayFollow (last_by old)) (sym c.in-Ok.ensures.ok) c.requires.next;
    }

pub invariant_of-self : goal.invariant_of-self
invariant_of-self g c =
    let old = c.args.self.now in
    let adds = c.add.ensures in
    let same = c.in_err-replace_with.ensures in
    let confirms = announced old.prefix.reached.log c.add.result.reached.log _ adds.log in
    record {
      head_is = old.head_is ∙ ap head_of (sym adds.book);
      informed = same.1 ∙ old.informed ∙ ap (λ v. informed (published v)) (sym same.0);
      book = ap (λ v. v.prefix.reached.book) same.0 ∙ old.book ∙ sym adds.book;
      chain = confirms ∙ old.chain ∙ ap (λ v. whole v.prefix.reached.log) (sym same.0);
      told_book = old.told_book ∙ sym adds.book;
      told_chain = old.told_chain ∙ sym confirms;
      abreast =
          subst (λ v. length old.told.reached.log ≤ length v.prefix.reached.log + 1) (sym same.0) old.abreast;
    }

pub invariant_of-self-2 : goal.invariant_of-self-2
invariant_of-self-2 g c =
    let shown = c.in_ok-replace_with.ensures in
    let confirms = c.add-2.ensures in
    let told = c.again-2.ensures in
    record {
      head_is = c.args.self.now.head_is ∙ ap head_of (sym (confirms.book ∙ c.add.ensures.book));
      informed = shown.1;
      book = ap (λ p. p.prefix.reached.book) shown.0 ∙ ap (λ p. p.reached.book) c.again.ensures ∙ sym confirms.book;
      chain = confirmed_next c.add.result.reached.log c.add-2.result.reached.log confirms.log
          ∙ sym (ap (λ p. whole p.prefix.reached.log) shown.0 ∙ ap (λ p. whole p.reached.log) c.again.ensures);
      told_book = ap (λ p. p.reached.book) told;
      told_chain = ap (λ p. confirmed p.reached.log) told;
      abreast = abreast_next c.add.result.reached.log c.add-2.result.reached.log _ _ confirms.log
          (ap (λ p. p.prefix.reached.log) shown.0 ∙ ap (λ p. p.reached.log) c.again.ensures)
          (ap (λ p. p.reached.log) told);
    }

pub returns-clause-chain : goal.returns-clause-chain
returns-clause-chain g c =
    let log = c.args.self.now.prefix.reached.log in
    let announces = c.add.ensures.log ∙ ap (λ s. log ++ Announced s ∷ []) (c.deref.ensures ∙ c.in-Ok.ensures.ok) in
    confirmed_next c.add.result.reached.log c.add-2.result.reached.log c.add-2.ensures.log
    ∙ announced_next log c.add.result.reached.log c.args.shot announces

pub returns-clause-last : goal.returns-clause-last
returns-clause-last g c = ap (λ p. p.shot) c.in_ok-replace_with.ensures.0 ∙ c.in-Ok.ensures.ok

pub returns-clause-told : goal.returns-clause-told
returns-clause-told g c = ap (λ p. confirmed p.reached.log) c.again-3.ensures

pub returns-clause-abreast : goal.returns-clause-abreast
returns-clause-abreast g c =
    abreast_next c.add.result.reached.log c.add-2.result.reached.log _ _ c.add-2.ensures.log
    (ap (λ p. p.prefix.reached.log) c.in_ok-replace_with.ensures.0 ∙ ap (λ p. p.reached.log) c.again.ensures)
    (ap (λ p. p.reached.log) c.again-3.ensures)

pub returns-clause-told_studio : goal.returns-clause-told_studio
returns-clause-told_studio g c =
    ap (λ p. p.reached.book) c.again-3.ensures ∙ c.add-2.ensures.book ∙ c.add.ensures.book

pub returns-clause-studio : goal.returns-clause-studio
returns-clause-studio g c = c.add-2.ensures.book ∙ c.add.ensures.book

pub returns-in_err-replace_with-clause-chain : goal.returns-in_err-replace_with-clause-chain
returns-in_err-replace_with-clause-chain g c =
    MatchResult-from_err _ _ _ c.from_residual.ensures.0
    (λ _. announced c.args.self.now.prefix.reached.log c.add.result.reached.log _ c.add.ensures.log)

pub returns-in_err-replace_with-clause-last : goal.returns-in_err-replace_with-clause-last
returns-in_err-replace_with-clause-last g c =
    MatchResult-from_err _ _ _ c.from_residual.ensures.0
    (λ _. ap (λ v. arc_value v.shot) c.in_err-replace_with.ensures.0)

pub returns-in_err-replace_with-clause-told : goal.returns-in_err-replace_with-clause-told
returns-in_err-replace_with-clause-told g c = IfOk-from_err _ _ c.from_residual.ensures.0

pub returns-in_err-replace_with-clause-abreast : goal.returns-in_err-replace_with-clause-abreast
returns-in_err-replace_with-clause-abreast g c = IfOk-from_err _ _ c.from_residual.ensures.0

pub returns-in_err-replace_with-clause-told_studio : goal.returns-in_err-replace_with-clause-told_studio
returns-in_err-replace_with-clause-told_studio g c = IfOk-from_err _ _ c.from_residual.ensures.0

pub returns-in_err-replace_with-clause-studio : goal.returns-in_err-replace_with-clause-studio
returns-in_err-replace_with-clause-studio g c = c.add.ensures.book
