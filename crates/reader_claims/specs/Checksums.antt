-- What errors tell of two checksums (02, C-18): what reading tells beside its refusals.
use Rattle.std.specs.Prelude.{ℕ, ◌≡◌, List, ◌++◌, length}
use Rattle.refusal.specs.Refusal.{first}
use Rattle.base_types.specs.declared.channel.Channel.{Channel}
use Rattle.frame.specs.Read.{refusals_on, rule_on, refused_with}
use Rattle.frame_claims.specs.Answers.{ToldWith}
use Rattle.wire_reader.specs.declared.reader.Reader.{Reader}
use Rattle.wire_reader.specs.declared.listening.Listened.{Listened}
use Rattle.wire_reader.specs.Decoder.{Told, nothing, frame, wrong, checksums_of}
use Rattle.wire_reader.specs.Listening.{told, ListenSays}

-- With error 4 or 8 they differ, and with any other both are 0.
abbrev pub ErrorTold : Told → Type 0
ErrorTold nothing = Unit
ErrorTold (frame header size since) = Unit
ErrorTold (wrong t) = ToldWith t.number t.checksums

-- It holds of every event, whatever reader was handed in.
abbrev pub ErrorsTold : Type 0
ErrorsTold =
    (reader : Reader) (samples before after : List ℕ) (r : Listened) → ListenSays reader samples before after r
    → ErrorTold (told r.answer).event

-- What is told after five bytes is what reading tells of any longer bytes that begin with them and that it refuses by 4.
abbrev pub FiveAsRead : Type 0
FiveAsRead =
    (channel : Channel) (five rest : List ℕ) → length five ≡ 5 → first (refusals_on channel (five ++ rest)) ≡ 4
    → rule_on channel (five ++ rest) ≡ refused_with 4 (checksums_of five)
