-- What a driver's refusal tells: number, place and layer.
use Rattle.std.specs.Prelude.{ℕ}
use Rattle.tags.specs.declared.faults.Layer.{Layer}
use Rattle.tags.specs.declared.faults.Layer.TheVariants.{Driver}
use Rattle.drivers.specs.declared.faults.DriverFault.{DriverFault}
use Rattle.drivers.specs.declared.faults.DriverFault.TheVariants.{NoBlock, WrongBuffer, Locked}

abbrev pub driver_number : DriverFault → ℕ
driver_number (NoBlock k) = 28
driver_number (WrongBuffer k) = 29
driver_number (Locked k) = 30

-- the block that the driver was asked for
abbrev pub driver_place : DriverFault → ℕ
driver_place (NoBlock k) = k
driver_place (WrongBuffer k) = k
driver_place (Locked k) = k

abbrev pub driver_layer : DriverFault → Layer
driver_layer f = Driver
