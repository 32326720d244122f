-- What contracts say of publishers, receipts, eyes and glimpses.
use Rattle.std.specs.{Prelude.List, Prelude.length, Prelude.◌+◌, Prelude.◌≤◌, Arc.arc_value}
use Rattle.logbook.specs.Pages.{Book}
use Rattle.studio.specs.{declared.shots.publisher.Publisher.Publisher, declared.shots.told.Told.Told}
use Rattle.studio.specs.{declared.shots.eye.Eye.Eye, declared.shots.eye.Glimpse.Glimpse, Shots.Shot}
use Rattle.studio.specs.History.{confirmed, whole}

-- all that was shown
abbrev pub shown_by : Publisher → List Shot
shown_by p = confirmed p.prefix.reached.log

-- the last of it
abbrev pub last_by : Publisher → Shot
last_by p = arc_value p.writer.desk.shown.value.shot

-- all that was shown up to the show whose receipt it is
abbrev pub told_by : Told → List Shot
told_by t = confirmed t.prefix.reached.log

-- the chain that the eye saw: that of its last glimpse
abbrev pub seen_by : Eye → List Shot
seen_by e = whole e.seen.reached.log

-- the longest chain that the eye was told of
abbrev pub learnt_by : Eye → List Shot
learnt_by e = confirmed e.learnt.reached.log

-- the chain whose last shot is glimpsed
abbrev pub glimpsed_by : Glimpse → List Shot
glimpsed_by g = whole g.reading.part.value.prefix.reached.log

-- what is published lacks at most the last entry of what the eye was told: a look is in vain where it lacks more
abbrev pub IsAbreast : Publisher → Eye → Type 0
IsAbreast p e = length e.learnt.reached.log ≤ length p.writer.desk.shown.value.prefix.reached.log + 1

-- what is published lacks at most the last entry of what was told: no eye looks in vain for having learnt it
abbrev pub ShowsTold : Publisher → Told → Type 0
ShowsTold p t = length t.prefix.reached.log ≤ length p.writer.desk.shown.value.prefix.reached.log + 1

-- the shot that is glimpsed
abbrev pub shot_by : Glimpse → Shot
shot_by g = arc_value g.reading.part.value.shot

-- what the eye that glimpses had learnt
abbrev pub remembered_by : Glimpse → List Shot
remembered_by g = confirmed g.learnt.reached.log

-- whose studio each is of
abbrev pub publisher_studio : Publisher → Book
publisher_studio p = p.prefix.reached.book

abbrev pub told_studio : Told → Book
told_studio t = t.prefix.reached.book

abbrev pub eye_studio : Eye → Book
eye_studio e = e.learnt.reached.book

abbrev pub glimpse_studio : Glimpse → Book
glimpse_studio g = g.learnt.reached.book
