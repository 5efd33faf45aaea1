-- What the packed object of a set says, by the table of codes.
use Rattle.std.specs.Prelude.{ℕ, List, Ok, Err, Result}
use Rattle.codes.specs.declared.fault.Fault.{Fault}
use Rattle.codes.specs.Numbers.{fault_number, fault_group}
use Rattle.codes.specs.Table.{packed_code, unpacked_code, first_code}
use Rattle.sets.specs.Sets.{Set}
use Rattle.sets.specs.Parsing.{Flaw}
use Rattle.sets.specs.Writing.{shortest}
use Rattle.sets.specs.Scans.{Unpack}

abbrev pub code_flaw : Fault → Flaw
code_flaw f = record { number = fault_number f; group = fault_group f }

abbrev pub flawed : Result (List ℕ) Fault → Result (List ℕ) Flaw
flawed (Ok object) = Ok object
flawed (Err f) = Err (code_flaw f)

abbrev pub unpacked : Unpack
unpacked code object = flawed (unpacked_code code object)

-- The form of an identifier, a kind and an object: the shortest identifier, the object packed by the first code of its kind
-- that is permitted, with so many bytes of offset and pad. Without any it is the smallest.
abbrev pub form : ℕ → List ℕ → ℕ → List ℕ → Set
form extra c kind object = record { extra = extra; name = shortest c; code = first_code kind object; object = packed_code (first_code kind object) object }

abbrev pub smallest_of : List ℕ → ℕ → List ℕ → Set
smallest_of = form 0
