-- The form that a set is written in, and what its writing answers and leaves.
use Rattle.std.specs.Prelude.{◌≡◌, ℕ, ◌<◌, ◌≤◌, List, ◌++◌, length, drop, Ok, Err, Result}
use Rattle.codes.specs.declared.kind.Kind.{Kind}
use Rattle.codes.specs.Table.{packed_code, first_code}
use Rattle.codes.specs.Numbers.{kind_number, code_number}
use Rattle.packing.specs.declared.choice.Packed.{Packed}
use Rattle.packing.specs.Packing.{Sized}
use Rattle.sets.specs.Sets.{Set, size}
use Rattle.sets.specs.Writing.{encode}
use Rattle.sets.specs.Objects.{form}
use Rattle.sets.specs.Laws.{Proper}
use Rattle.writing.specs.declared.items.Item.{Item}
use Rattle.writing.specs.declared.faults.WriteFault.{WriteFault}
use Rattle.writing.specs.declared.faults.WriteFault.TheVariants.{Identifier, Size, Extra, Short}

-- an identifier's content and an object of a kind, wanted as a set
pub record Wanted : Type 0 where
  pub identifier : List ℕ
  pub kind : Kind
  pub object : List ℕ

abbrev pub wanted : Item → Wanted
wanted i = record { identifier = i.identifier.now; kind = i.kind; object = i.object.now }

-- one that a set can hold
pub record Fit (w : Wanted) : Type 0 where
  pub identifier : Proper w.identifier
  pub object : Sized w.object

-- its set with so many bytes of offset and pad; without any it is the smallest form
abbrev pub formed : ℕ → Wanted → Set
formed extra w = form extra w.identifier (kind_number w.kind) w.object

-- its code, and how many bytes its object then has
pub record Planned (w : Wanted) (p : Packed) : Type 0 where
  pub code : code_number p.code ≡ first_code (kind_number w.kind) w.object
  pub long : p.length ≡ length (packed_code (first_code (kind_number w.kind) w.object) w.object)

-- why there is no such form
abbrev pub Refused : ℕ → Wanted → WriteFault → Type 0
Refused extra w Identifier = Proper w.identifier → ⊥
Refused extra w Size = Proper w.identifier × (Sized w.object → ⊥)
Refused extra w Extra = Fit w × (256 < extra)
Refused extra w (Short n) = ⊥

-- the bytes of the smallest form, or why there is none
abbrev pub Sizes : Wanted → Result ℕ WriteFault → Type 0
Sizes w (Ok n) = Fit w × (n ≡ size (formed 0 w))
Sizes w (Err Identifier) = Proper w.identifier → ⊥
Sizes w (Err Size) = Proper w.identifier × (Sized w.object → ⊥)
Sizes w (Err Extra) = ⊥
Sizes w (Err (Short n)) = ⊥

-- the form at the front of the room, which is as before behind it; or why not, and all is as before
abbrev pub Writes : ℕ → Wanted → List ℕ → List ℕ → Result ℕ WriteFault → Type 0
Writes extra w old new (Ok n) = Fit w × (extra ≤ 256) × (n ≡ size (formed extra w)) × (new ≡ encode (formed extra w) ++ drop n old)
Writes extra w old new (Err Identifier) = (Proper w.identifier → ⊥) × (new ≡ old)
Writes extra w old new (Err Size) = Proper w.identifier × (Sized w.object → ⊥) × (new ≡ old)
Writes extra w old new (Err Extra) = Fit w × (256 < extra) × (new ≡ old)
Writes extra w old new (Err (Short n)) = Fit w × (extra ≤ 256) × (n ≡ size (formed extra w)) × (length old < n) × (new ≡ old)
