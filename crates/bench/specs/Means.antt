-- What a bench tag means, and when none is made.
use Rattle.std.specs.Prelude.{ℕ, cond, ◌||◌, Some, None, Option, nat_lt}
use Rattle.tags.specs.declared.faults.DumpFault.{DumpFault}
use Rattle.tags.specs.declared.faults.DumpFault.TheVariants.{Shape, Size}
use Rattle.tags.specs.Tags.{Tag, laid, fits}
use Rattle.bench.specs.declared.parts.Bench.{Bench}

-- n blocks of b bytes on so many bytes and lock flags
abbrev pub bench_fault : ℕ → ℕ → ℕ → ℕ → Option DumpFault
bench_fault n b memory flags = cond (nat_lt 256 n || nat_lt 256 b) (Some Shape) (cond (fits n b memory flags) None (Some Size))

-- the tag that lies in the lent memory
abbrev pub bench_tag : Bench → Tag
bench_tag s = laid s.shape.count s.shape.size s.system s.memory.now s.locks.now
