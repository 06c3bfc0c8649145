-- What a sample tells, as the code tells it: its type, the numbers of errors and their checksums.
use Rattle.std.specs.Prelude.{ℕ, Option, Result}
use Rattle.checksum.specs.declared.pair.ChecksumPair.{ChecksumPair}
use Rattle.checksum.specs.Pair.{no_checksums}
use Rattle.frame.specs.Read as read
use Rattle.wire_reader.specs.declared.event.Heard.{Heard}
use Rattle.wire_reader.specs.declared.event.WireError.{WireError}
use Rattle.wire_reader.specs.declared.event.WireError.TheVariants.{NotAFrame, StartTooLong, FrameStartTooLong, ByteStartNotHigh, ByteStartNotLow, EndNotLow, EndNotHigh}

-- Nothing, a frame, or what is wrong.
abbrev pub Event : Type 0
Event = Option (Result Heard WireError)

-- The number of each error.
abbrev pub number_of : WireError → ℕ
number_of (NotAFrame refusal) = read.number_of refusal
number_of StartTooLong = 30
number_of FrameStartTooLong = 31
number_of ByteStartNotHigh = 32
number_of ByteStartNotLow = 33
number_of EndNotLow = 34
number_of EndNotHigh = 35

-- The two checksums that each tells.
abbrev pub checksums_of : WireError → ChecksumPair
checksums_of (NotAFrame refusal) = read.checksums_of refusal
checksums_of StartTooLong = no_checksums
checksums_of FrameStartTooLong = no_checksums
checksums_of ByteStartNotHigh = no_checksums
checksums_of ByteStartNotLow = no_checksums
checksums_of EndNotLow = no_checksums
checksums_of EndNotHigh = no_checksums
