-- What a tag is: blocks of bytes, a lock to each, and a system byte.
use Rattle.std.specs.Prelude.{◌≡◌, ℕ, zero, suc, ◌*◌, ◌<◌, ◌≤◌, Bool, cond, ◌&&◌, List, [], ◌∷◌, length, take, drop, ◌==◌, nat_le, slice_index_or}
use Rattle.std.specs.List.{flat_map}

-- `count` blocks of `size` bytes each; a lock that is `true` is shut
pub record Tag : Type 0 where
  pub count : ℕ
  pub size : ℕ
  pub system : ℕ
  pub blocks : List (List ℕ)
  pub locks : List Bool

-- what is so of every tag that a driver means
pub record Shaped (t : Tag) : Type 0 where
  pub many : length t.blocks ≡ t.count
  pub each : (k : ℕ) → k < t.count → length (slice_index_or t.blocks k []) ≡ t.size
  pub flags : length t.locks ≡ t.count
  pub few : t.count ≤ 256
  pub small : t.size ≤ 256

-- all the bytes of a tag, block after block
abbrev pub bytes : Tag → List ℕ
bytes t = flat_map (λ b. b) t.blocks

-- the first n blocks of b bytes
abbrev pub cut : ℕ → ℕ → List ℕ → List (List ℕ)
cut zero b xs = []
cut (suc n) b xs = take b xs ∷ cut n b (drop b xs)

-- the tag of n blocks of b bytes that lies at the front of a memory, with its locks at the front of some flags
abbrev pub laid : ℕ → ℕ → ℕ → List ℕ → List Bool → Tag
laid n b s memory flags = record { count = n; size = b; system = s; blocks = cut n b memory; locks = take n flags }

-- the limits of dumps and calls
abbrev pub in_limits : ℕ → ℕ → Bool
in_limits n b = nat_le 1 b && nat_le b 32 && nat_le 1 n && nat_le n 255 && nat_le (n * b) 1024

-- the system byte of a tag without directory: access method 0, data format 3 to 28
abbrev pub known_format : ℕ → Bool
known_format system = nat_le 3 system && nat_le system 28

-- a shape that a driver may have, with memory and lock flags of exactly its size
abbrev pub fits : ℕ → ℕ → ℕ → ℕ → Bool
fits n b memory flags = nat_le n 256 && nat_le b 256 && memory == n * b && flags == n

-- a count or a size where the memory fits, and none where it does not
abbrev pub held : Bool → ℕ → ℕ
held fit n = cond fit n 0
