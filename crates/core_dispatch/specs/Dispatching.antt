-- What contracts say of dispatchers.
use Rattle.std.specs.Prelude.{refl}
use Rattle.std.specs.Coded.{Coded, code_by, coded×}
use Rattle.core_rules.specs.Work.{Core}
use Rattle.steal_pool.specs.Views.{OwnerView}
use Rattle.core_dispatch.specs.Books.{BooksView}

-- a dispatcher: the books of the core, and the owner of the pool that the jobs go to
pub record Dispatcher : Type 0 where
  pub books : BooksView
  pub owner : OwnerView

-- the books of the core
abbrev pub books_by : Dispatcher → BooksView
books_by d = d.books

-- the owner of the pool that the jobs go to
abbrev pub owner_by : Dispatcher → OwnerView
owner_by d = d.owner

-- the core
abbrev pub core_by : Dispatcher → Core
core_by d = d.books.core

-- the code of dispatchers, from those of their parts
abbrev pub dispatcher_code : Coded BooksView → Coded OwnerView → Coded Dispatcher
dispatcher_code books owner =
    code_by (BooksView × OwnerView) (coded× books owner) (λ d. (d.books, d.owner))
    (λ p. record { books = p.0; owner = p.1 }) (λ _. refl)
