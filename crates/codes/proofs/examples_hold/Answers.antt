use Rattle.std.proofs.Common.{[], ◌∷◌, codes, refl, arith}
use Rattle.codes.specs.Bits.{packed, spread, bits, groups, val}
use Rattle.codes.specs.Table.{unpacked_letters, permitted, packed_code, unpacked_code, first_code}
use Rattle.codes.proofs.Integers.{example_of}
use Rattle.codes.proofs.Faults.{letters_stand}
use Rattle.codes.proofs.examples_hold.Goals as goal

pub returns : goal.returns
unfolding packed spread bits groups val unpacked_letters permitted packed_code unpacked_code first_code
returns c =
    let nines = example_of (codes "9999999999999999999") (0x8a ∷ 0xc7 ∷ 0x23 ∷ 0x04 ∷ 0x89 ∷ 0xe7 ∷ 0xff ∷ 0xff ∷ []) refl (omega arith) refl in
    record {
      value = refl;
      right = ((refl, refl, refl), ((refl, refl, refl), ((refl, refl, refl), ((refl, nines.0, nines.1), ((refl, refl, refl), ((refl, refl, refl), tt))))));
      letters = letters_stand;
    }
