-- What a declined call tells: number, place, group and layer.
use Rattle.std.specs.Prelude.{ℕ}
use Rattle.tags.specs.declared.faults.Layer.{Layer}
use Rattle.tags.specs.declared.faults.Layer.TheVariants.{Call}
use Rattle.drivers.specs.declared.faults.WholeFault.{WholeFault}
use Rattle.drivers.specs.declared.faults.WholeFault.TheVariants as wholes
use Rattle.drivers.specs.Faults.{driver_number, driver_place, driver_layer}
use Rattle.sets.specs.Scans.{Refusal}
use Rattle.reading.specs.Faults.{read_number, read_place, read_group, read_layer}
use Rattle.states.specs.declared.faults.Lent.{Lent}
use Rattle.states.specs.declared.faults.Lent.TheVariants.{Image, Table, Scratch}
use Rattle.states.specs.declared.faults.CallFault.{CallFault}
use Rattle.states.specs.declared.faults.CallFault.TheVariants.{Shape, Short, System, Noted, Reading, Locked, Identifier, Size, Kind, Present, Absent, Sealed, Pledged, Output, Room, Driver}

abbrev pub lent_place : Lent → ℕ
lent_place Image = 1
lent_place Table = 2
lent_place Scratch = 3

abbrev pub call_number : CallFault → ℕ
call_number Shape = 2
call_number (Short lent) = 4
call_number (System byte) = 5
call_number Noted = 6
call_number (Reading f) = read_number f
call_number (Locked block) = 17
call_number Identifier = 19
call_number Size = 20
call_number Kind = 21
call_number (Present at) = 22
call_number Absent = 23
call_number (Sealed at) = 24
call_number Pledged = 25
call_number (Output needed) = 26
call_number Room = 27
call_number (Driver f) = driver_number f

abbrev pub call_place : CallFault → ℕ
call_place Shape = 0
call_place (Short lent) = lent_place lent
call_place (System byte) = byte
call_place Noted = 0
call_place (Reading f) = read_place f
call_place (Locked block) = block
call_place Identifier = 0
call_place Size = 0
call_place Kind = 0
call_place (Present at) = at
call_place Absent = 0
call_place (Sealed at) = at
call_place Pledged = 0
call_place (Output needed) = needed
call_place Room = 0
call_place (Driver f) = driver_place f

abbrev pub call_group : CallFault → ℕ
call_group Shape = 0
call_group (Short lent) = 0
call_group (System byte) = 0
call_group Noted = 0
call_group (Reading f) = read_group f
call_group (Locked block) = 0
call_group Identifier = 0
call_group Size = 0
call_group Kind = 0
call_group (Present at) = 0
call_group Absent = 0
call_group (Sealed at) = 0
call_group Pledged = 0
call_group (Output needed) = 0
call_group Room = 0
call_group (Driver f) = 0

abbrev pub call_layer : CallFault → Layer
call_layer Shape = Call
call_layer (Short lent) = Call
call_layer (System byte) = Call
call_layer Noted = Call
call_layer (Reading f) = read_layer f
call_layer (Locked block) = Call
call_layer Identifier = Call
call_layer Size = Call
call_layer Kind = Call
call_layer (Present at) = Call
call_layer Absent = Call
call_layer (Sealed at) = Call
call_layer Pledged = Call
call_layer (Output needed) = Call
call_layer Room = Call
call_layer (Driver f) = driver_layer f

-- a tag that was not read whole: for want of room in the image, or by the driver's refusal
abbrev pub whole_fault : WholeFault → CallFault
whole_fault (wholes.Room n) = Short Image
whole_fault (wholes.Driver f) = Driver f

abbrev pub refusal_of : CallFault → Refusal
refusal_of f = record { place = call_place f; flaw = record { number = call_number f; group = call_group f } }
