-- What packing and unpacking answer, and what they leave in the output.
use Rattle.std.specs.Prelude.{◌≡◌, ℕ, ◌<◌, ◌≤◌, true, false, List, [], ◌++◌, length, take, drop, Ok, Err, Result}
use Rattle.std.specs.Int.Digits.{AllBelowBase}
use Rattle.codes.specs.declared.fault.Fault.{Fault}
use Rattle.codes.specs.Table.{code, permitted, packed_code, unpacked_code, first_code}
use Rattle.codes.specs.Numbers.{code_number}
use Rattle.codes.specs.Laws.{Told}
use Rattle.packing.specs.declared.choice.PackFault.{PackFault}
use Rattle.packing.specs.declared.choice.PackFault.TheVariants.{Size, NotPermitted, TooShort}
use Rattle.packing.specs.declared.choice.UnpackFault.{UnpackFault}
use Rattle.packing.specs.declared.choice.UnpackFault.TheVariants.{Code, Short}
use Rattle.packing.specs.declared.choice.Packed.{Packed}

-- an object has 1 to 2,048 bytes
abbrev pub Sized : List ℕ → Type 0
Sized x = (1 ≤ length x) × (length x ≤ 2048)

-- `bytes` at the front of the output, which is as before behind them
abbrev pub Stored : List ℕ → List ℕ → List ℕ → ℕ → Type 0
Stored bytes old new n = (n ≡ length bytes) × (new ≡ bytes ++ drop n old)

-- the output is too short for `bytes`, of which there are n, and as before
abbrev pub Lacks : List ℕ → List ℕ → List ℕ → ℕ → Type 0
Lacks bytes old new n = (n ≡ length bytes) × (length old < n) × (new ≡ old)

-- an object x packed by code k
abbrev pub Packs : ℕ → List ℕ → List ℕ → List ℕ → Result ℕ PackFault → Type 0
Packs k x old new (Ok n) = Sized x × (permitted k x ≡ true) × Stored (packed_code k x) old new n
Packs k x old new (Err Size) = (Sized x → ⊥) × (new ≡ old)
Packs k x old new (Err NotPermitted) = Sized x × (permitted k x ≡ false) × (new ≡ old)
Packs k x old new (Err (TooShort n)) = Sized x × (permitted k x ≡ true) × Lacks (packed_code k x) old new n

-- why a code does not take an object, before any output is asked for
abbrev pub Declined : ℕ → List ℕ → PackFault → Type 0
Declined k x Size = Sized x → ⊥
Declined k x NotPermitted = Sized x × (permitted k x ≡ false)
Declined k x (TooShort n) = ⊥

-- an object x packed by the first permitted code of its kind
abbrev pub PacksFirst : ℕ → List ℕ → List ℕ → List ℕ → Result Packed PackFault → Type 0
PacksFirst kind x old new (Ok p) = (code_number p.code ≡ first_code kind x) × Packs (first_code kind x) x old new (Ok p.length)
PacksFirst kind x old new (Err f) = Packs (first_code kind x) x old new (Err f)

-- the same with nothing written
abbrev pub Plans : ℕ → List ℕ → Result Packed PackFault → Type 0
Plans kind x (Ok p) = Sized x × (code_number p.code ≡ first_code kind x) × (p.length ≡ length (packed_code (first_code kind x) x))
Plans kind x (Err Size) = Sized x → ⊥
Plans kind x (Err NotPermitted) = ⊥
Plans kind x (Err (TooShort n)) = ⊥

-- what is packed at the front of the output unpacks to the object
abbrev pub ComesBack : ℕ → List ℕ → List ℕ → Result ℕ PackFault → Type 0
ComesBack k x new (Ok n) = unpacked_code k (take n new) ≡ Ok x
ComesBack k x new (Err f) = Unit {0}

-- whatever bytes say the object in any code of the kind are no fewer
abbrev pub NoneShorter : ℕ → List ℕ → Result Packed PackFault → Type 0
NoneShorter kind x (Ok p) = (k : ℕ) (bs : List ℕ) → k < 8 → (code k).kind ≡ kind → AllBelowBase 256 bs → 0 < length bs → unpacked_code k bs ≡ Ok x → p.length ≤ length bs
NoneShorter kind x (Err f) = Unit {0}

-- no permitted code of the kind packs shorter
abbrev pub Shortest : ℕ → ℕ → List ℕ → Type 0
Shortest c kind x = (k : ℕ) → k < 8 → (code k).kind ≡ kind → permitted k x ≡ true → length (packed_code c x) ≤ length (packed_code k x)

-- the object that bytes say
abbrev pub said : Result (List ℕ) Fault → List ℕ
said (Ok x) = x
said (Err f) = []

-- its length, or the fault
abbrev pub Measured : Result (List ℕ) Fault → Result ℕ Fault → Type 0
Measured s (Ok n) = (s ≡ Ok (said s)) × (n ≡ length (said s))
Measured s (Err f) = s ≡ Err f

-- what a fault tells of the bytes
abbrev pub Tells : ℕ → List ℕ → Result ℕ Fault → Type 0
Tells k bs (Ok n) = Unit {0}
Tells k bs (Err f) = Told (code k).way bs f

-- the object at the front of the output; or the fault, or how long the output would have to be
abbrev pub Unpacks : Result (List ℕ) Fault → List ℕ → List ℕ → Result ℕ UnpackFault → Type 0
Unpacks s old new (Ok n) = (s ≡ Ok (said s)) × Stored (said s) old new n
Unpacks s old new (Err (Code f)) = (s ≡ Err f) × (new ≡ old)
Unpacks s old new (Err (Short n)) = (s ≡ Ok (said s)) × Lacks (said s) old new n
