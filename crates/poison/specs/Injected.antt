-- What became of an injection (document 01, "Poison list"; document 02, W-204), for its three cases. Assumes nothing.
use Rattle.std.specs.Prelude.{Bool, true, false}
use Rattle.poison.specs.declared.inject.Injected.{Injected}
use Rattle.poison.specs.declared.inject.Injected.TheVariants.{Added, Covered, Full}

-- whether it was taken
abbrev pub taken : Injected → Bool
taken Added = true
taken Covered = true
taken Full = false

-- whether it added an entry
abbrev pub added : Injected → Bool
added Added = true
added Covered = false
added Full = false
