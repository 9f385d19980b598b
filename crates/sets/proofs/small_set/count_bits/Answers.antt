use Rattle.std.proofs.Common.{◌≡◌, ◌/◌, ◌^◌, sym, ap, ◌∙◌, arith}
use lib.Count.{ones}
use Rattle.std.proofs.lemmas.Nat.{ones-le}
use Rattle.sets.proofs.Bits.{ones_rising}
use Rattle.sets.proofs.small_set.count_bits.Goals as goal

pub returns : goal.returns
returns c =
    let n = c.args.bits in
    let whole : n / 2 ^ 0 ≡ n = omega arith in
    record { value = sym (ap ones whole) ∙ ones_rising 64 n 0 (omega arith); bound = ones-le 64 n (omega arith) }
