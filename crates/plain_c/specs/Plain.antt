-- What a C caller gets: the numbers that reading and the frame checksum tell, and nothing else (02, C-18: "as plain C functions on numbers
-- and byte ranges").
use Rattle.std.specs.Prelude.{ℕ, ◌≡◌, List}
use Rattle.checksum.specs.FrameChecksum as frame_checksum
use Rattle.frame.specs.Read as read
use Rattle.plain_c.specs.declared.PlainReading.{PlainReading}
use Rattle.plain_c.specs.declared.PlainChecksum.{PlainChecksum}

-- What reading tells, number by number: the refusal, the nine fields, and both checksums.
abbrev pub plain_reading : read.Told → PlainReading
plain_reading t =
    record {
      number = t.number;
      reserved = t.header.reserved;
      preamble = t.header.preamble;
      null_frame_bit = t.header.null_frame_bit;
      sync = t.header.sync;
      startup = t.header.startup;
      id = t.header.id.0;
      words = t.header.words;
      checksum = t.header.checksum;
      cycle = t.header.cycle.0;
      found = t.checksums.found;
      expected = t.checksums.expected;
    }

abbrev pub PlainReadSays : ℕ → List ℕ → PlainReading → Type 0
PlainReadSays channel bytes r = r ≡ plain_reading (read.rule channel bytes)

-- What the frame checksum's entry tells.
abbrev pub plain_checksum : frame_checksum.Told → PlainChecksum
plain_checksum t = record { number = t.number; value = t.value }

abbrev pub PlainChecksumSays : ℕ → List ℕ → PlainChecksum → Type 0
PlainChecksumSays channel bytes r = r ≡ plain_checksum (frame_checksum.rule channel bytes)
