-- The model that a new place holds: a single stop at place 0, number 0.
use Rattle.std.specs.Prelude.{List, [], ◌∷◌}
use Rattle.answer.specs.declared.standings.Address.{Address}
use Rattle.instruction.specs.declared.tables.Action.TheVariants.{Stop}
use Rattle.instruction.specs.declared.tables.Instruction.{Instruction}

abbrev pub first_address : Address
first_address = record { place = 0; number = 0 }

abbrev pub built_in : List Instruction
built_in = record { address = first_address; action = Stop } ∷ []
