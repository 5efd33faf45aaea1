-- What open states and pledges note.
use Rattle.std.specs.Prelude.{false, ℕ}
use Rattle.states.specs.declared.holding.Noted.{Noted}
use Rattle.states.specs.declared.holding.OpenState.{OpenState}
use Rattle.states.specs.declared.holding.Pledge.{Pledge}

abbrev pub opened : Noted → OpenState
opened n = record { count = n.shape.count; size = n.shape.size; system = n.system }

abbrev pub noted_by : OpenState → Noted
noted_by s = record { shape = record { count = s.count; size = s.size }; system = s.system }

-- a pledge of blocks from the first on, not yet spent
abbrev pub pledged : OpenState → ℕ → ℕ → Pledge
pledged s first blocks = record { noted = noted_by s; first = first; blocks = blocks; spent = false }
