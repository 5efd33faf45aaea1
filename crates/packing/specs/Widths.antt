-- The codes of the widths, and of the kinds whose bytes are kept.
use Rattle.std.specs.Prelude.{ℕ}
use Rattle.codes.specs.declared.kind.Kind.{Kind}
use Rattle.codes.specs.declared.kind.Kind.TheVariants.{Application, Compact, Utf8}
use Rattle.packing.specs.declared.alphabet.Letters.{Letters}
use Rattle.packing.specs.declared.alphabet.Letters.TheVariants.{Four, Five, Six, Seven}

abbrev pub width_code : Letters → ℕ
width_code Four = 2
width_code Five = 3
width_code Six = 4
width_code Seven = 5

abbrev pub octets_code : Kind → ℕ
octets_code Application = 0
octets_code Compact = 6
octets_code Utf8 = 7
