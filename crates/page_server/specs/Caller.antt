-- What a reader has of a stream of which bytes were read before.
use Rattle.std.specs.Prelude.{ℕ, ◌++◌, List, Option, option_map}
use Rattle.page_server.specs.declared.caller.Caller.{Caller}

module _ {C : Type 0} where
  -- the bytes that were read of it before
  abbrev pub front_of : Caller C → List ℕ
  front_of c = c.front.items

  -- those, and then what the stream has
  abbrev pub caller_remaining : (C → Option (List ℕ)) → Caller C → Option (List ℕ)
  caller_remaining remaining c = option_map (λ rest. front_of c ++ rest) (remaining c.stream)
