-- What is printed of a fault.
use Rattle.std.specs.Prelude.{ℕ, List, codes}
use Rattle.vectors.specs.declared.faults.WordFault.{WordFault}
use Rattle.vectors.specs.declared.faults.WordFault.TheVariants.{NotHexadecimal, NoMemory}

abbrev pub fault_text : WordFault → List ℕ
fault_text (NotHexadecimal c i) = codes "not hexadecimal"
fault_text NoMemory = codes "memory allocation failed"
