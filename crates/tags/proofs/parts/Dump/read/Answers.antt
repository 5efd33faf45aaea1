use Rattle.std.proofs.Common.{◌≡◌, ◌+◌, ◌-◌, ◌*◌, true, length, get_or, take, drop, sym, refl, ap, arith}
use Rattle.std.proofs.lemmas.List.{take_rest}
use Rattle.tags.specs.Tags.{in_limits}
use Rattle.tags.proofs.Meant.{no_fault, read-means}
use Rattle.tags.proofs.parts.Dump.read.Goals as goal

pub returns : goal.returns
returns c =
    let xs = c.args.bytes.now in
    let n = get_or xs 1 0 in
    let b = get_or xs 0 0 in
    let lim : in_limits n b ≡ true = sym c.if-not-in_limits.ensures.value in
    let exact : length xs ≡ 3 + n + n * b = omega arith in
    let locks : take (3 + n - 3) (drop 3 xs) ≡ take n (drop 3 xs) = ap (λ j. take j (drop 3 xs)) (omega arith) in
    let content = take_rest xs (3 + n) in
    record {
      cases = record {
        sound = no_fault xs (omega arith) lim exact;
        means = read-means xs _ _ n b (get_or xs 2 0) lim exact locks content;
        shape = (refl, refl);
        locks = locks;
        content = content;
      };
    }
