-- The rings between pens and their desks.
use Rattle.std.specs.Prelude.{ℕ}

-- how many edits a pen surely sends before its ring is full
abbrev pub ring_room : ℕ
ring_room = 64
