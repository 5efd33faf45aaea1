-- What each code of the table is, whichever it is.
use Rattle.std.specs.Prelude.{ℕ}
use Rattle.codes.specs.Numbers.{code_number}
use Rattle.packing.specs.declared.any.AnyCode.{AnyCode}
use Rattle.packing.specs.declared.any.AnyCode.TheVariants.{Octets, Integer, Letters}
use Rattle.packing.specs.declared.rows.Alphabet.{Alphabet}
use Rattle.packing.specs.Rows.{Listed, listed}

-- an alphabet is a row of the table
pub row : (a : Alphabet) → Listed (code_number a.code) a.width.bits a.padding a.least a.first a.last a.blank
row a = listed (code_number a.code) a.width.bits a.padding a.least a.first a.last a.blank a.ok

abbrev pub any_listed : AnyCode → ℕ
any_listed (Octets c) = code_number c.code
any_listed (Integer c) = 1
any_listed (Letters c) = code_number c.code
