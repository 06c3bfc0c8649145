-- Division a byte at a time, with a table of 256 entries, for any polynomial and any width from 8 on.
use Rattle.std.specs.Prelude.{ℕ, ◌-◌, ◌*◌, ◌/◌, ◌%◌, ◌^◌, ◌≤◌, ◌≡◌}
use Rattle.std.specs.Int.Bits.{bit_xor}
use Rattle.division.specs.Bits.{bits}
use Rattle.division.specs.Division.{checksum}

-- The table's entry for a byte: what division makes of that byte from register 0.
abbrev pub entry : ℕ → ℕ → ℕ → ℕ
entry width polynomial byte = checksum width polynomial 0 (bits 8 byte)

-- What the table is for: the eight turns of 002's loop that a byte takes are one look-up and one shift. The byte EXOR the register's
-- eight top bits is looked up; the register is shifted left by eight bits, cut to its width, and EXORed with the entry.
abbrev pub LooksUp : ℕ → ℕ → Type 0
LooksUp width polynomial =
    8 ≤ width → (register byte : ℕ)
    → checksum width polynomial register (bits 8 byte)
    ≡ bit_xor (register * 2 ^ 8 % 2 ^ width) (entry width polynomial (bit_xor (register / 2 ^ (width - 8)) byte))
