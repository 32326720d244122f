-- What threads may share, in the words of the logic: `Sync` says the same of a type.
use denote.Param.Send.{SyncAt}
use denote.RattleType.{RattleType}

-- a reference to any value of the type says the same to every thread
abbrev pub IsShared : RattleType → Type 0
IsShared R = (value : R.Denot) → SyncAt R value
