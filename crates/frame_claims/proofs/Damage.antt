-- The claims about damaged frames: a frame's bits end in their own checksum, and the facts of division do the rest.
use Prim.Native.Nat.{ℕ, ◌+◌, ◌*◌, ◌%◌, ◌^◌, ◌<◌}
use mathlib.Core.Path.{◌≡◌, sym, ap, ◌∙◌}
use mathlib.Core.List.{List, ◌++◌, append_assoc}
use native.Mathlib.Omega.{arith}
use lib.ListN.{length, length-append}
use Rattle.division.specs.Bits.{bits, bytes_bits}
use Rattle.division.specs.Word.{word, EndsInChecksum}
use Rattle.division.proofs.BitsLaws.{length-bits, bits_inj}
use Rattle.division.proofs.BytesLaws.{append_apart, bytes_inj, length-bytes}
use Rattle.division.proofs.RegisterLaws.{checksum_lt}
use Rattle.base_types.specs.declared.channel.Channel.{Channel}
use Rattle.base_types.specs.declared.channel.Channel.TheVariants.{A, B}
use Rattle.base_types.specs.Channel.{start_of}
use Rattle.checksum.specs.Checksums.{frame_polynomial, frame_division}
use Rattle.checksum_claims.proofs.Checksums.{frame_facts, frames_four}
use Rattle.header.specs.declared.Header.{Header}
use Rattle.header.specs.Layout.{whole_header}
use Rattle.frame.specs.Layout.{frame_checksum_of, Frame}
use Rattle.frame_claims.specs.Damage.{FramesApart, NotOnBoth}
use Rattle.frame_claims.proofs.FrameLaws.{frame_size}

module _ {channel : Channel} {bytes : List ℕ} {header : Header} {payload : List ℕ} (f : Frame channel bytes header payload) where
  -- the whole header and the payload, with their checksum behind them
  pub frame_word : EndsInChecksum 24 frame_polynomial (start_of channel) (bytes_bits bytes)
  unfolding word
  frame_word = (
    whole_header header ++ bytes_bits payload,
    f.layout ∙ sym (append_assoc (whole_header header) (bytes_bits payload) (bits 24 (frame_checksum_of channel header payload))),
  )

pub frames_apart : FramesApart
frames_apart channel x y hx hy px py fx fy l differ =
    let bx = bytes_bits x in
    let by = bytes_bits y in
    let lb : length bx ≡ length by = length-bytes x ∙ ap (λ (k : ℕ). 8 * k) l ∙ sym (length-bytes y) in
    let apart : bx ≡ by → ⊥ = λ e. differ (bytes_inj x y fx.are_bytes fy.are_bytes e) in
    let wx = frame_word fx in
    let wy = frame_word fy in
    let start = start_of channel in
    record {
      even = frame_facts.even start bx by lb wx wy;
      window = frame_facts.window start bx by lb apart wx wy;
      burst = frame_facts.burst start bx by lb apart wx wy;
      four = frames_four start bx by lb (omega (arith, length-bytes x, frame_size fx, fx.words)) apart wx wy;
    }

pub not_on_both : NotOnBoth
unfolding word
not_on_both bytes h_a h_b p_a p_b f_a f_b =
    let m_a = (frame_word f_a).0 in
    let m_b = (frame_word f_b).0 in
    let c_a = frame_division A m_a in
    let c_b = frame_division B m_b in
    let same : m_a ++ bits 24 c_a ≡ m_b ++ bits 24 c_b = sym (frame_word f_a).1 ∙ (frame_word f_b).1 in
    let long : length m_a + 24 ≡ length m_b + 24 =
    ap (λ (k : ℕ). length m_a + k) (sym (length-bits 24 c_a)) ∙ sym (length-append m_a (bits 24 c_a)) ∙ ap length same ∙ length-append m_b (bits 24 c_b)
    ∙ ap (λ (k : ℕ). length m_b + k) (length-bits 24 c_b) in
    let parts : (m_a ≡ m_b) × (bits 24 c_a ≡ bits 24 c_b) = append_apart m_a (bits 24 c_a) m_b (bits 24 c_b) (omega arith) same in
    let low : c_a % 2 ^ 24 ≡ c_b % 2 ^ 24 = bits_inj 24 c_a c_b parts.1 in
    let small_a : c_a < 2 ^ 24 = checksum_lt 24 frame_polynomial (start_of A) m_a in
    let small_b : c_b < 2 ^ 24 = checksum_lt 24 frame_polynomial (start_of B) m_b in
    let equal : c_a ≡ c_b = omega arith in
    omega (arith, frame_facts.injective (start_of A) (start_of B) m_a (equal ∙ ap (frame_division B) (sym parts.0)))
