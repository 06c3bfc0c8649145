-- Every accepted call returns a sound reader, and every state that is reached from an opening is sound.
use Rattle.std.specs.Prelude.{ℕ, ◌≤◌, ◌≡◌, Bool, true, not, List, length}
use Rattle.base_types.specs.declared.channel.Channel.{Channel}
use Rattle.base_types.specs.Channel.{not_a_channel}
use Rattle.header.specs.Layout.{longest_frame}
use Rattle.wire_reader.specs.declared.reader.Reader.{Reader}
use Rattle.wire_reader.specs.declared.listening.Listened.{Listened}
use Rattle.wire_reader.specs.Reader.{fresh, run, reader_of}
use Rattle.wire_reader.specs.Sound.{sound}
use Rattle.wire_reader.specs.Opening.{Opened, OpenSays}
use Rattle.wire_reader.specs.Listening.{ListenSays}

abbrev pub OpenSound : Type 0
OpenSound = (channel : ℕ) (r : Opened) → OpenSays channel r → sound r.state ≡ not (not_a_channel channel)

-- Listening makes no reader unsound, and none sound.
abbrev pub ListenSound : Type 0
ListenSound =
    (reader : Reader) (samples before after : List ℕ) (r : Listened) → ListenSays reader samples before after r → sound r.reader ≡ sound reader

-- Whatever the samples are.
abbrev pub ReachedSound : Type 0
ReachedSound =
    (channel : Channel) (i : ℕ) (memory : List ℕ) (samples : List Bool) → longest_frame ≤ length memory
    → sound (reader_of channel (run channel i (fresh memory) samples).state) ≡ true
