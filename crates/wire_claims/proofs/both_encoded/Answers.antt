-- `both_encoded`: yes exactly where both are encoded, and then their bits tell them apart.
use Rattle.wire_claims.proofs.Witnesses.{both_encoded, told_apart}
use Rattle.wire_claims.proofs.both_encoded.Goals as goal

pub returns : goal.returns
returns c =
    let a = c.args in
    let x = c.encoded-first_bits in
    let y = c.encoded-second_bits in
    record {
      variant =
          both_encoded a.first_channel a.x.now a.s a.first.now x.new.output x.result x.ensures a.second_channel a.y.now a.t a.second.now
          y.new.output y.result y.ensures;
      told_apart =
          told_apart a.first_channel a.x.now a.s a.first.now x.new.output x.result x.ensures a.second_channel a.y.now a.t a.second.now
          y.new.output y.result y.ensures (λ i. (c.type_inv.x i).fits) (λ i. (c.type_inv.y i).fits);
    }
