use Rattle.std.proofs.Common.{[], ◌∷◌, ◌++◌, sym, ap, ◌∙◌, subst}
use Rattle.std.specs.Arc.{arc_value}
use Rattle.studio.specs.declared.shots.history.Entry.TheVariants.{Announced}
use Rattle.studio.specs.{History.confirmed, History.head_of, History.whole, Shots.IsSound}
use Rattle.studio.proofs.Telling.{abreast_next, announced_next, confirmed_next}
use Rattle.studio.proofs.shots.publisher.Publisher.open.Goals as goal

pub open_writing-requires : goal.open_writing-requires
open_writing-requires g c =
    let none = c.open_history-head.ensures.1 in
    let announced = c.add-prefix.ensures.log ∙ ap (λ l. l ++ Announced c.deref.result.now ∷ []) none
    ∙ ap (λ s. Announced s ∷ []) c.deref.ensures in
    record {
      eyes = c.requires.eyes;
      sound = subst IsSound (sym c.in-Ok.ensures.ok) c.requires.sound;
      prefix = announced_next [] c.add-prefix.result.reached.log (arc_value c.in-Ok.shot) announced;
    }

pub invariant_of-result : goal.invariant_of-result
invariant_of-result g c =
    let shown = c.in_ok-writer.ensures in
    let confirms = c.add-prefix-2.ensures in
    let told = c.again-told.ensures in
    record {
      head_is = c.open_history-head.ensures.0 ∙ ap head_of (sym (confirms.book ∙ c.add-prefix.ensures.book));
      informed = shown.known;
      book = ap (λ p. p.prefix.reached.book) shown.value ∙ sym confirms.book;
      chain = confirmed_next c.add-prefix.result.reached.log c.add-prefix-2.result.reached.log confirms.log
          ∙ sym (ap (λ p. whole p.prefix.reached.log) shown.value);
      told_book = ap (λ p. p.reached.book) told;
      told_chain = ap (λ p. confirmed p.reached.log) told;
      abreast = abreast_next c.add-prefix.result.reached.log c.add-prefix-2.result.reached.log _ _ confirms.log
          (ap (λ p. p.prefix.reached.log) shown.value) (ap (λ p. p.reached.log) told);
    }

pub returns-clause-chain : goal.returns-clause-chain
returns-clause-chain g c =
    let none = c.open_history-head.ensures.1 in
    let announced = c.add-prefix.ensures.log ∙ ap (λ l. l ++ Announced c.deref.result.now ∷ []) none
    ∙ ap (λ s. Announced s ∷ []) c.deref.ensures in
    confirmed_next c.add-prefix.result.reached.log c.add-prefix-2.result.reached.log c.add-prefix-2.ensures.log
    ∙ announced_next [] c.add-prefix.result.reached.log c.args.shot
    (announced ∙ ap (λ s. Announced s ∷ []) c.in-Ok.ensures.ok)

pub returns-clause-last : goal.returns-clause-last
returns-clause-last g c = ap (λ p. p.shot) c.in_ok-writer.ensures.value ∙ c.in-Ok.ensures.ok
