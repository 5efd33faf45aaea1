-- What a memory reads as: its sets in order, or its first fault.
use Rattle.std.specs.Prelude.{ℕ, zero, suc, ◌+◌, ◌/◌, Bool, true, false, cond, not, ◌&&◌, ◌||◌, List, [], ◌∷◌, ◌++◌, map, length, Some, None, Ok, Err, Option, Result, nat_le, nat_lt, slice_index_or}
use Rattle.std.specs.Option.{option_map}
use Rattle.std.specs.Str.{bytes_eq}
use Rattle.codes.specs.Table.{code}
use Rattle.sets.specs.Sets.{content, size}
use Rattle.sets.specs.Parsing.{Flaw, plain}
use Rattle.sets.specs.Scans.{Refusal, scan, Found, placed, behind}
use Rattle.sets.specs.Objects.{unpacked}

-- its bytes, in blocks of `size`, each locked or open; a block without a lock is open
pub record Memory : Type 0 where
  pub size : ℕ
  pub locks : List Bool
  pub bytes : List ℕ

-- a test of each number below n, the lowest that passes, and a test of some element
abbrev pub every : (ℕ → Bool) → ℕ → Bool
every p zero = true
every p (suc n) = every p n && p n

abbrev pub either : Option ℕ → Option ℕ → Option ℕ
either None b = b
either (Some a) b = Some a

abbrev pub lowest : (ℕ → Bool) → ℕ → Option ℕ
lowest p zero = None
lowest p (suc n) = either (lowest p n) (cond (p n) (Some n) None)

abbrev pub any : {A : Type 0} → (A → Bool) → List A → Bool
any p [] = false
any p (x ∷ xs) = p x || any p xs

-- the sets of a memory with their addresses, up to its end or to the first fault
abbrev pub found : List ℕ → List Found
found xs = placed 0 (scan unpacked xs).tiles

-- an address lies in a locked block
abbrev pub locked_at : Memory → ℕ → Bool
locked_at m a = slice_index_or m.locks (a / m.size) false

-- a set is sealed when each of its bytes lies in a locked block: then all its blocks are locked
abbrev pub sealed : Memory → Found → Bool
sealed m f = every (λ i. locked_at m (f.at + i)) (size f.set)

abbrev pub byte_of : Found → ℕ → Bool
byte_of f a = nat_le f.at a && nat_lt a (behind f)

-- A stray byte lies in a locked block, and is a byte of no set, or of one that touches an open block. The place of the
-- refusal is the block of the lowest, which is the lowest block that has one.
abbrev pub stray : Memory → List Found → ℕ → Bool
stray m fs a = locked_at m a && not (any (λ f. byte_of f a && sealed m f) fs)

abbrev pub stray_block : Memory → List Found → Option ℕ
stray_block m fs = option_map (λ a. a / m.size) (lowest (stray m fs) (length m.bytes))

-- identifiers compare by content, in whatever form they are written; the first set whose identifier stood already
abbrev pub identified : Found → List ℕ
identified f = content f.set.name

abbrev pub stood : List Found → Found → Bool
stood fs f = any (λ g. bytes_eq (identified g) (identified f)) fs

abbrev pub repeat_from : List Found → List Found → Option ℕ
repeat_from seen [] = None
repeat_from seen (f ∷ fs) = cond (stood seen f) (Some f.at) (repeat_from (seen ++ f ∷ []) fs)

abbrev pub repeat : List Found → Option ℕ
repeat fs = repeat_from [] fs

-- what a set says
pub record Entry : Type 0 where
  pub identifier : List ℕ
  pub kind : ℕ
  pub object : List ℕ
  pub sealed : Bool

abbrev pub said : Result (List ℕ) Flaw → List ℕ
said (Ok object) = object
said (Err flaw) = []

abbrev pub entry : Memory → Found → Entry
entry m f = record {
  identifier = identified f;
  kind = (code f.set.code).kind;
  object = said (unpacked f.set.code f.set.object);
  sealed = sealed m f;
}

pub record Reading : Type 0 where
  pub entries : List Entry

-- the first fault: 7 to 15 of the scan, then 16, then 18
abbrev pub judged : Option Refusal → Option ℕ → Option ℕ → Reading → Result Reading Refusal
judged (Some f) block again r = Err f
judged None (Some k) again r = Err (record { place = k; flaw = plain 16 })
judged None None (Some at) r = Err (record { place = at; flaw = plain 18 })
judged None None None r = Ok r

unfoldable pub reads : Memory → Result Reading Refusal
reads m =
    judged (scan unpacked m.bytes).fault (stray_block m (found m.bytes)) (repeat (found m.bytes))
    (record { entries = map (entry m) (found m.bytes) })
