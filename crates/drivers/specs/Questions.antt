-- What a driver answers to a question, and what a buffer then holds. No question alters the tag.
use Rattle.std.specs.Prelude.{ℕ, Bool, false, cond, List, [], length, is_ok, Ok, Err, Result, ◌==◌, nat_lt, slice_index_or}
use Rattle.tags.specs.Tags.{Tag}
use Rattle.drivers.specs.declared.faults.DriverFault.{DriverFault}
use Rattle.drivers.specs.declared.faults.DriverFault.TheVariants.{NoBlock, WrongBuffer}

abbrev pub shut : Tag → ℕ → Bool
shut t k = slice_index_or t.locks k false

abbrev pub block : Tag → ℕ → List ℕ
block t k = slice_index_or t.blocks k []

abbrev pub system_answer : Tag → Result ℕ DriverFault
system_answer t = Ok t.system

abbrev pub locked_answer : Tag → ℕ → Result Bool DriverFault
locked_answer t k = cond (nat_lt k t.count) (Ok (shut t k)) (Err (NoBlock k))

-- to be asked of block k, where there are n blocks
abbrev pub block_answer : ℕ → ℕ → Result (Unit {0}) DriverFault
block_answer n k = cond (nat_lt k n) (Ok tt) (Err (NoBlock k))

-- to be asked of it with a buffer of m bytes, where blocks have b
abbrev pub buffer_answer : ℕ → ℕ → ℕ → ℕ → Result (Unit {0}) DriverFault
buffer_answer n b k m = cond (nat_lt k n) (cond (m == b) (Ok tt) (Err (WrongBuffer k))) (Err (NoBlock k))

-- to read block k into a buffer of m bytes
abbrev pub read_answer : Tag → ℕ → ℕ → Result (Unit {0}) DriverFault
read_answer t k m = cond (nat_lt k t.count) (cond (m == t.size) (Ok tt) (Err (WrongBuffer k))) (Err (NoBlock k))

-- the buffer then: the block, or as it was
abbrev pub read_buffer : Tag → ℕ → List ℕ → List ℕ
read_buffer t k b = cond (is_ok (read_answer t k (length b))) (block t k) b
