-- What the witnesses promise, from any result that the statement of `bench_line::line` allows.
use Prim.Native.Nat.{ℕ, zero, suc, ◌<◌}
use mathlib.Core.Path.{◌≡◌, ap, ◌∙◌}
use mathlib.Core.Bool.{Bool, true, cond}
use mathlib.Core.List.{List, [], ◌∷◌, ◌++◌}
use native.Mathlib.Omega.{arith}
use lib.Dec.{ltb}
use lib.ListN.{length, take, length-append}
use borrow.Author.Tests.{le-ltb, lt-ltb}
use Rattle.refusal.specs.Refusal.{first}
use Rattle.base_types.specs.declared.channel.Channel.{Channel}
use Rattle.base_types.specs.declared.channel.Channel.TheVariants.{A}
use Rattle.base_types.specs.Channel.{channel_of}
use Rattle.frame.specs.Read.{header_read, tells, refusals}
use Rattle.lent_bytes.specs.Over.{over}
use Rattle.bench_line.specs.Line.{accepted_word, refused_word, behind_space, line_feed, behind_number, line_by, line_of, front, longest, LineSays}
use Rattle.bench_claims.proofs.Line.{front_decides, within_longest}

pub says_by_front : (input before after : List ℕ) (size : ℕ) → LineSays (take front input) before after size → LineSays input before after size
says_by_front input before after size s =
    let e = front_decides input in
    record {
      answers = s.answers ∙ ap (λ (l : List ℕ). cond (ltb (length before) (length l)) 0 (length l)) e;
      writes = s.writes ∙ ap (λ (l : List ℕ). cond (ltb (length before) (length l)) before (over l before)) e;
    }

-- a line has at least its line feed
line_by_lem : (n : ℕ) (channel : Channel) (bytes : List ℕ) → 0 < length (line_by (tells n channel bytes))
line_by_lem zero channel bytes =
    let h = header_read bytes in
    omega
    (arith, length-append (accepted_word ++ behind_space h.id.0 ++ behind_space h.cycle.0 ++ behind_space h.words) line_feed)
line_by_lem (suc n) channel bytes =
    let behind = behind_number (suc n) (tells (suc n) channel bytes).checksums in
    omega (arith, length-append (refused_word ++ behind_space (suc n) ++ behind) line_feed)

line_some : (input : List ℕ) → 0 < length (line_of input)
line_some [] = line_by_lem 1 A []
line_some (channel ∷ bytes) = line_by_lem (first (refusals channel bytes)) (channel_of channel) bytes

-- output of the longest line's size takes every line
pub taken_whole : (input before after : List ℕ) (size : ℕ) → length before ≡ longest → LineSays input before after size
    → (size ≡ length (line_of input)) × (after ≡ over (line_of input) before)
taken_whole input before after size long s =
    let room = le-ltb (length before) (length (line_of input)) (omega (arith, within_longest input)) in (
      s.answers ∙ ap (λ (b : Bool). cond b 0 (length (line_of input))) room,
      s.writes ∙ ap (λ (b : Bool). cond b before (over (line_of input) before)) room,
    )

pub room_for_any : (input before after : List ℕ) (size : ℕ) → length before ≡ longest → LineSays input before after size → ltb 0 size ≡ true
room_for_any input before after size long s =
    let e = (taken_whole input before after size long s).0 in
    let some = line_some input in
    lt-ltb 0 size (omega arith)
