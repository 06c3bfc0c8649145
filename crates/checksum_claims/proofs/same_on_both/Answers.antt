-- `same_on_both` answers no.
use borrow.Author.Tests.{ne_eqb}
use mathlib.Core.Path.{◌≡◌, sym, ap, ◌∙◌}
use Rattle.std.specs.Result.{result_unwrap_or}
use Rattle.base_types.specs.declared.channel.Channel.TheVariants.{A, B}
use Rattle.checksum.specs.Checksums.{frame_checksum}
use Rattle.checksum_claims.proofs.Checksums.{channels_apart}
use Rattle.checksum_claims.proofs.FrameChecksum.{on_a, on_b}
use Rattle.checksum_claims.proofs.same_on_both.Goals as goal

pub returns : goal.returns
returns c =
    let bytes = c.args.bytes.now in
    let va : c.unwrap_or.result ≡ frame_checksum A bytes =
    c.unwrap_or.ensures ∙ ap (λ r. result_unwrap_or r 0) (on_a bytes c.frame_checksum-on_a.result c.frame_checksum-on_a.ensures) in
    let vb : c.unwrap_or-2.result ≡ frame_checksum B bytes =
    c.unwrap_or-2.ensures ∙ ap (λ r. result_unwrap_or r 0) (on_b bytes c.frame_checksum-on_b.result c.frame_checksum-on_b.ensures) in
    ne_eqb _ _ (λ e. channels_apart bytes (sym va ∙ e ∙ vb))
