-- What a driver answers to a change, and what tag it then means.
use Rattle.std.specs.Prelude.{ℕ, true, cond, List, length, is_ok, Ok, Err, Result, ◌==◌, nat_lt, slice_set}
use Rattle.tags.specs.Tags.{Tag}
use Rattle.drivers.specs.declared.faults.DriverFault.{DriverFault}
use Rattle.drivers.specs.declared.faults.DriverFault.TheVariants.{NoBlock, WrongBuffer, Locked}
use Rattle.drivers.specs.Questions.{shut}

-- the tag with block k replaced
abbrev pub with_block : Tag → ℕ → List ℕ → Tag
with_block t k b = record { count = t.count; size = t.size; system = t.system; blocks = slice_set t.blocks k b; locks = t.locks }

-- the tag with block k locked
abbrev pub with_lock : Tag → ℕ → Tag
with_lock t k = record { count = t.count; size = t.size; system = t.system; blocks = t.blocks; locks = slice_set t.locks k true }

-- the tag with another system byte
abbrev pub with_system : Tag → ℕ → Tag
with_system t b = record { count = t.count; size = t.size; system = b; blocks = t.blocks; locks = t.locks }

-- to write m bytes to block k
abbrev pub write_answer : Tag → ℕ → ℕ → Result (Unit {0}) DriverFault
write_answer t k m =
    cond (nat_lt k t.count) (cond (m == t.size) (cond (shut t k) (Err (Locked k)) (Ok tt)) (Err (WrongBuffer k))) (Err (NoBlock k))

abbrev pub write_tag : Tag → ℕ → List ℕ → Tag
write_tag t k b = cond (is_ok (write_answer t k (length b))) (with_block t k b) t

abbrev pub lock_answer : Tag → ℕ → Result (Unit {0}) DriverFault
lock_answer t k = cond (nat_lt k t.count) (Ok tt) (Err (NoBlock k))

abbrev pub lock_tag : Tag → ℕ → Tag
lock_tag t k = cond (is_ok (lock_answer t k)) (with_lock t k) t

-- to set the system byte
abbrev pub set_answer : Result (Unit {0}) DriverFault
set_answer = Ok tt
