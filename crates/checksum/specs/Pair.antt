-- Two checksums that were compared: the one found in bytes, and the one worked out for them (02, C-18).
use Rattle.std.specs.Prelude.{Bool, not, ◌&&◌, eqb}
use Rattle.checksum.specs.declared.pair.ChecksumPair.{ChecksumPair}

-- "0 for both": what stands where none are told.
abbrev pub no_checksums : ChecksumPair
no_checksums = record { found = 0; expected = 0 }

abbrev pub is_none : ChecksumPair → Bool
is_none pair = eqb pair.found 0 && eqb pair.expected 0

-- "differs".
abbrev pub differ : ChecksumPair → Bool
differ pair = not (eqb pair.found pair.expected)
