use Rattle.std.proofs.Common.{◌≡◌, ◌∙◌, ◌∷◌, ◌++◌, [], List, ap, refl, sym, subst, ℕ}
use mathlib.Core.Option.{some}
use lib.ListN.{get_elem?}
use Rattle.stroke_lattice.specs.{State.State, Change.Turnover}
use Rattle.core_rules.specs.{Work.Core, Merge.IsMerged, declared.error.CoreError.CoreError}
use Rattle.reset_core.specs.Answers.{IsNotMerged}
use Rattle.core_dispatch.specs.{contracts.books.Books.the_view, Taking.IsEditTaken, declared.refusal.Refusal.Refusal}
use Rattle.core_dispatch.proofs.Taking.{books, desk_at, faithful, took}
use Rattle.core_dispatch.specs.declared.taken.Taken.TheVariants as answers
use Rattle.core_dispatch.proofs.books.Books.take_edit.Goals.{After-pop}
use Rattle.core_dispatch.proofs.books.Books.take_edit.Goals as goal

-- the desk is the pen's
desk_is : (c : After-pop)
    → get_elem? (the_view c.self.inside).desks c.args.pen ≡ some c.index_mut.result.now
desk_is c = desk_at (the_view c.self.inside) c.args.self.now c.args.pen c.index_mut.result.now c.self.view_is c.requires
    c.index_mut.ensures.value

-- the edit is merged into the core of the books
merged : (before lent : Core) (delta : State) (turnover : Turnover) (after : Core) → lent ≡ before
    → IsMerged lent delta turnover after → (t : Turnover) × IsMerged before delta t after
merged before lent delta turnover after same is =
    (turnover, subst (λ (k : Core). IsMerged k delta turnover after) same is)

-- the refusal stands behind the others
now_listed : (pen number count : ℕ) (error : CoreError) (delta : State) (old room new : List Refusal) → room ≡ old
    → number ≡ count → new ≡ room ++ record { pen = pen; number = number; error = error; delta = delta } ∷ []
    → new ≡ old ++ record { pen = pen; number = count; error = error; delta = delta } ∷ []
now_listed pen number count error delta old room new same counted is =
    let refusal : ℕ → Refusal = λ n. record { pen = pen; number = n; error = error; delta = delta } in
    is ∙ ap (λ (l : List Refusal). l ++ refusal number ∷ []) same
    ∙ ap (λ (n : ℕ). old ++ refusal n ∷ []) counted

pub invariant_of-self-in_default : goal.invariant_of-self-in_default
invariant_of-self-in_default c =
    faithful (the_view c.self.inside) c.args.pen c.index_mut.result.now c.pop.new.self
    (desk_is (goal.at.invariant_of-self-in_default c).After-pop) answers.Nothing _ c.reserve.new.self.items
    (c.in_default.ensures.none, refl, c.reserve.ensures.items) c.self.invariant

pub returns-in_default-clause-taken : goal.returns-in_default-clause-taken
returns-in_default-clause-taken c =
    rw (← c.self.view_is)
    (took (the_view c.self.inside) c.args.pen c.index_mut.result.now c.pop.new.self
    (desk_is (goal.at.returns-in_default-clause-taken c).After-pop) answers.Nothing _ c.reserve.new.self.items
    c.pop.ensures.ring (c.in_default.ensures.none, refl, c.reserve.ensures.items))

pub invariant_of-self-in-Ok-1 : goal.invariant_of-self-in-Ok-1
invariant_of-self-in-Ok-1 c =
    faithful (the_view c.self.inside) c.args.pen c.index_mut.result.now c.pop.new.self
    (desk_is (goal.at.invariant_of-self-in-Ok-1 c).After-pop) answers.Merged c.merge.new.self
    c.reserve.new.self.items (
      c.in-Some.delta,
      c.in-Some.ensures.next,
      merged _ _ _ _ _ c.deref_mut.ensures.value c.in-Ok.ensures.merged,
      c.reserve.ensures.items,
    ) c.self.invariant

pub returns-in-Ok-clause-taken : goal.returns-in-Ok-clause-taken
returns-in-Ok-clause-taken c =
    rw (← c.self.view_is)
    (took (the_view c.self.inside) c.args.pen c.index_mut.result.now c.pop.new.self
    (desk_is (goal.at.returns-in-Ok-clause-taken c).After-pop) answers.Merged c.merge.new.self
    c.reserve.new.self.items c.pop.ensures.ring (
      c.in-Some.delta,
      c.in-Some.ensures.next,
      merged _ _ _ _ _ c.deref_mut.ensures.value c.in-Ok.ensures.merged,
      c.reserve.ensures.items,
    ))

pub invariant_of-self-in-Err : goal.invariant_of-self-in-Err
invariant_of-self-in-Err c =
    faithful (the_view c.self.inside) c.args.pen c.index_mut.result.now c.pop.new.self
    (desk_is (goal.at.invariant_of-self-in-Err c).After-pop) (answers.Listed c.in-Err.error) c.merge.new.self
    c.push_reserved.new.self.items (
      c.in-Some.delta,
      c.in-Some.ensures.next,
      c.in-Err.ensures.err ∙ c.deref_mut.ensures.value,
      subst (λ (k : Core). IsNotMerged k c.in-Some.delta c.in-Err.error) c.deref_mut.ensures.value
          c.in-Err.ensures.refused,
      now_listed _ _ _ _ _ _ _ _ c.reserve.ensures.items c.in-Some.ensures.number c.push_reserved.ensures.items,
    ) c.self.invariant

pub returns-in-Err-clause-taken : goal.returns-in-Err-clause-taken
returns-in-Err-clause-taken c =
    let b = the_view c.self.inside in
    let desk = c.index_mut.result.now in
    let at = desk_is (goal.at.returns-in-Err-clause-taken c).After-pop in
    let after = books b c.args.pen desk c.pop.new.self at c.merge.new.self c.push_reserved.new.self.items in
    rw (← c.self.view_is)
    (subst (λ (e : CoreError). IsEditTaken c.args.pen b (answers.Listed e) after) (sym c.copy_of-why.ensures)
    (took b c.args.pen desk c.pop.new.self at (answers.Listed c.in-Err.error) c.merge.new.self
    c.push_reserved.new.self.items c.pop.ensures.ring (
      c.in-Some.delta,
      c.in-Some.ensures.next,
      c.in-Err.ensures.err ∙ c.deref_mut.ensures.value,
      subst (λ (k : Core). IsNotMerged k c.in-Some.delta c.in-Err.error) c.deref_mut.ensures.value
          c.in-Err.ensures.refused,
      now_listed _ _ _ _ _ _ _ _ c.reserve.ensures.items c.in-Some.ensures.number c.push_reserved.ensures.items,
    )))
