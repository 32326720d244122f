-- What is seen of a hall.
use Rattle.std.specs.Prelude.{ℕ, ◌+◌, ◌<◌, List}
use Rattle.page_server.specs.{declared.hall.Hall.Hall, declared.guest.Guest.Guest}

module _ {C : Type 0} where
  -- who waits there, the longest first
  abbrev pub guests_of : Hall C → List (Guest C)
  guests_of h = h.guests.items

  -- it came less than ten seconds ago
  abbrev pub IsWaiting : ℕ → Guest C → Type 0
  IsWaiting now g = now < g.came + 10_000
