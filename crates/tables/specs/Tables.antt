-- A table of changed blocks, and the tag that it makes of another.
use Rattle.std.specs.Prelude.{◌≡◌, ℕ, Bool, true, false, cond, ◌&&◌, ◌||◌, List, ◌++◌, map, length, take, drop, replicate, is_some, Some, None, Option, unwrap_or, nat_le, slice_index_or, slice_set}
use Rattle.std.specs.List.{range_with_len}
use Rattle.tags.specs.Tags.{Tag, held}
use Rattle.drivers.specs.Questions.{shut, block}
use Rattle.tables.specs.declared.Row.{Row}
use Rattle.tables.specs.declared.Table.{Table}

-- for n blocks of b bytes
abbrev pub has_room : ℕ → ℕ → Bool
has_room n b = nat_le n 64 && nat_le b 32

-- a row for each of 64 blocks
pub record Rowed (c : Table) : Type 0 where
  pub rows : length c.rows ≡ 64

-- a row of a block that was not changed
abbrev pub blank : Row
blank = record { bytes = None; locked = false }

abbrev pub slot : Table → ℕ → Row
slot c k = slice_index_or c.rows k blank

-- what was written to block k, if anything was
abbrev pub written : Table → ℕ → Option (List ℕ)
written c k = (slot c k).bytes

abbrev pub is_written : Table → ℕ → Bool
is_written c k = is_some (written c k)

abbrev pub is_locked : Table → ℕ → Bool
is_locked c k = (slot c k).locked

abbrev pub row : Table → ℕ → List ℕ
row c k = unwrap_or (written c k) (replicate 32 0)

-- nothing changed
abbrev pub unchanged : Table
unchanged = record { rows = replicate 64 blank }

-- block k written
abbrev pub with_row : Table → ℕ → List ℕ → Table
with_row c k b = record { rows = slice_set c.rows k (record { bytes = Some (b ++ drop (length b) (row c k)); locked = is_locked c k }) }

-- block k locked
abbrev pub with_locked : Table → ℕ → Table
with_locked c k = record { rows = slice_set c.rows k (record { bytes = written c k; locked = true }) }

-- the first b bytes, with zeros for those that are not there
abbrev pub first : ℕ → List ℕ → List ℕ
first b xs = take b (xs ++ replicate b 0)

-- block k of a tag under a table
abbrev pub block_under : Tag → Table → ℕ → List ℕ
block_under t c k = cond (is_written c k) (first t.size (row c k)) (block t k)

abbrev pub lock_under : Tag → Table → ℕ → Bool
lock_under t c k = shut t k || is_locked c k

-- the tag under a table, with a system byte; of no blocks where the table has no room
abbrev pub under : Tag → Table → ℕ → Tag
under t c s = record {
  count = held (has_room t.count t.size) t.count;
  size = held (has_room t.count t.size) t.size;
  system = s;
  blocks = map (block_under t c) (range_with_len 0 (held (has_room t.count t.size) t.count));
  locks = map (lock_under t c) (range_with_len 0 (held (has_room t.count t.size) t.count));
}
