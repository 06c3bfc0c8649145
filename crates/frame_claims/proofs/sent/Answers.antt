-- `sent`: what was written is a frame with these fields and this payload.
use mathlib.Core.Path.{sym, ◌∙◌, subst}
use Prim.Native.Nat.{ℕ}
use native.Mathlib.Nat.{sub-zero}
use lib.ListN.{take}
use Rattle.frame_claims.specs.Exact.{Sent}
use Rattle.frame_claims.proofs.Witnesses.{size_within, was_sent}
use Rattle.frame_claims.proofs.sent.Goals as goal

pub slice_bounds-result-end : goal.slice_bounds-result-end
slice_bounds-result-end c =
    rw c.unwrap_or-size.ensures
    (size_within c.args.channel c.args.fields c.args.payload.now c.args.output.now c.write.new.output c.write.result c.write.ensures)

pub returns : goal.returns
returns c =
    let a = c.args in
    let payload = a.payload.now in
    let output = a.output.now in
    let after = c.write.new.output in
    subst (λ (n : ℕ). Sent a.channel a.fields payload output (take n after)) (sym (sub-zero c.unwrap_or-size.result ∙ c.unwrap_or-size.ensures))
    (was_sent a.channel a.fields payload output after c.write.result c.write.ensures (λ i. (c.type_inv.payload i).fits))
