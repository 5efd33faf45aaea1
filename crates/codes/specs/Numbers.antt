-- The numbers of kinds, codes and faults.
use Rattle.std.specs.Prelude.{ℕ, List, ◌++◌, codes}
use Rattle.std.specs.Fmt.{decimal}
use Rattle.codes.specs.declared.kind.Kind.{Kind}
use Rattle.codes.specs.declared.kind.Kind.TheVariants.{Application, Compact, Utf8}
use Rattle.codes.specs.declared.kind.Compaction.{Compaction}
use Rattle.codes.specs.declared.kind.Compaction.TheVariants.{ApplicationDefined, Integer, Numeric, FiveBit, SixBit, SevenBit, OctetString, Utf8String}
use Rattle.codes.specs.declared.fault.Fault.{Fault}
use Rattle.codes.specs.declared.fault.Fault.TheVariants.{TooLarge, NoCharacter, NoPadding}

abbrev pub kind_number : Kind → ℕ
kind_number Application = 0
kind_number Compact = 1
kind_number Utf8 = 2

abbrev pub code_number : Compaction → ℕ
code_number ApplicationDefined = 0
code_number Integer = 1
code_number Numeric = 2
code_number FiveBit = 3
code_number SixBit = 4
code_number SevenBit = 5
code_number OctetString = 6
code_number Utf8String = 7

abbrev pub fault_number : Fault → ℕ
fault_number TooLarge = 13
fault_number (NoCharacter group) = 14
fault_number (NoPadding whole) = 15

-- the group that a fault tells, 0 where it tells none
abbrev pub fault_group : Fault → ℕ
fault_group TooLarge = 0
fault_group (NoCharacter group) = group
fault_group (NoPadding whole) = whole

-- what is said of a number that no kind, or no code, has
abbrev pub unknown_text : ℕ → List ℕ
unknown_text n = codes "nothing has the number " ++ decimal n
