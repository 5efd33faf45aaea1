use Rattle.std.proofs.Common.{rules}
use Rattle.rivals.proofs.Promised.{open_in_gap, seals-alike, gap-is-part, gaps_alike, last-is-rest}
use Rattle.rivals.proofs.Anew.{reads_distinct, gap-laid_anew, place_in-gap, place-at-end}
use Rattle.rivals.proofs.Fits.{entries_fit, form-says}
use Rattle.rivals.proofs.gap_bytes.Goals as goal

pub returns : goal.returns
returns c = record {
  value = search rules;
  within = open_in_gap;
  seals = seals-alike;
  part = gap-is-part;
  alike = gaps_alike;
  last = last-is-rest;
  distinct = reads_distinct;
  held = entries_fit;
  says = form-says;
  anew = gap-laid_anew;
  place = place_in-gap;
  end = place-at-end;
}
