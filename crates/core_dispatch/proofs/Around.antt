-- What a turn leaves, besides the core.
use Rattle.std.proofs.Common.{◌≡◌, ◌≤◌, length, sym, refl, ap, ◌∙◌, subst, arith}
use Rattle.steal_pool.specs.Views.{IsSamePool}
use Rattle.core_dispatch.specs.Books.{BooksView, KeepsRest}
use Rattle.core_dispatch.specs.{Pens.KeepsPens, Jobs.with_core, Dispatching.Dispatcher}
use Rattle.core_dispatch.proofs.Steady.{rest_kept}

-- the books are as they were but for the core; no pushed job is lost, and as many pushes surely succeed; the pool has
-- the same hands
pub record KeepsAround (old new : Dispatcher) : Type 0 where
  pub rest : KeepsRest old.books new.books
  pub capacity : new.owner.capacity ≡ old.owner.capacity
  pub pushed : length old.owner.pushed ≤ length new.owner.pushed
  pub hands : IsSamePool old.owner new.owner

pub around_itself : (old new : Dispatcher) → new ≡ old → KeepsAround old new
around_itself old new same = subst (λ (d : Dispatcher). KeepsAround old d) (sym same)
    (record { rest = refl; capacity = refl; pushed = omega arith; hands = record { deque = refl; rings = refl } })

pub around_through : (a b c : Dispatcher) → KeepsAround a b → KeepsAround b c → KeepsAround a c
around_through a b c first second = record {
  rest = rest_kept a.books b.books c.books first.rest second.rest;
  capacity = second.capacity ∙ first.capacity;
  pushed = omega arith;
  hands = record {
    deque = second.hands.deque ∙ first.hands.deque;
    rings = second.hands.rings ∙ first.hands.rings;
  };
}

-- nothing but the core is another
pub around_core : (old new : Dispatcher) → new ≡ with_core old new.books.core → KeepsAround old new
around_core old new same = record {
  rest = ap (λ (d : Dispatcher). d.books) same;
  capacity = ap (λ (d : Dispatcher). d.owner.capacity) same;
  pushed = omega (arith, ap (λ (d : Dispatcher). length d.owner.pushed) same);
  hands = record {
    deque = ap (λ (d : Dispatcher). d.owner.deque) same;
    rings = ap (λ (d : Dispatcher). d.owner.rings) same;
  };
}

-- where all but the core is kept, each pen has its desk
pub rest_pens : (old new : BooksView) → KeepsRest old new → KeepsPens old new
rest_pens old new rest = subst (λ (b : BooksView). KeepsPens old b) (sym rest)
    (record { count = refl; pens = λ pen h. h; ends = λ end h. h })
