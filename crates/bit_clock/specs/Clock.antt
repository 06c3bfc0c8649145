-- Voting and the bit clock (document 02, C-13; 002, sections 3.2.2 and 3.2.3).
use Rattle.std.specs.Prelude.{ℕ, suc, ◌+◌, ◌%◌, min, Bool, false, not, ◌&&◌, ◌||◌, cond, eqb, ltb, leb}
use Rattle.division.specs.Bits.{bit}
use Rattle.bit_clock.specs.declared.BitClock.{BitClock}

-- ---- voting

-- "majority of the last five samples": four are remembered, the fifth is the one that comes.
abbrev pub remembered : ℕ
remembered = 4

abbrev pub majority : Bool → Bool → Bool → Bool → Bool → Bool
majority a b c d e = ltb 2 (bit a + bit b + bit c + bit d + bit e)

-- A sample has a voted value once four have come before it.
abbrev pub votes : BitClock → Bool
votes clock = eqb clock.seen remembered

-- The voted value of sample x.
abbrev pub vote : BitClock → Bool → Bool
vote clock x = majority clock.oldest clock.older clock.newer clock.newest x

-- ---- the bit clock

-- A falling edge to the voted value v, where realignment is enabled.
abbrev pub falls : BitClock → Bool → Bool
falls clock v = votes clock && (not v && (clock.voted && clock.realigns))

-- "strobe at sample 5": the voted value v is the next bit.
abbrev pub strobes : BitClock → Bool → Bool
strobes clock v = votes clock && (not (falls clock v) && eqb clock.counter 5)

-- After sample x, whose voted value is v. A falling edge counts as 1. A high bit that is strobed enables realignment, unless it is one of a
-- byte's eight, which `in_byte` tells.
abbrev pub after : BitClock → Bool → Bool → Bool → BitClock
after clock in_byte x v =
    record {
      oldest = clock.older;
      older = clock.newer;
      newer = clock.newest;
      newest = x;
      seen = min remembered (suc clock.seen);
      voted = cond (votes clock) v clock.voted;
      counter = cond (votes clock) (cond (falls clock v) 2 (clock.counter % 8 + 1)) clock.counter;
      realigns = not (falls clock v) && ((strobes clock v && (v && not in_byte)) || clock.realigns);
    }

-- ---- before the first sample, and beside a refusal

abbrev pub at_first : ℕ → BitClock
at_first counter =
    record {
      oldest = false;
      older = false;
      newer = false;
      newest = false;
      seen = 0;
      voted = false;
      counter = counter;
      realigns = false;
    }

abbrev pub fresh_clock : BitClock
fresh_clock = at_first 1

abbrev pub no_clock : BitClock
no_clock = at_first 0

-- ---- soundness

abbrev pub in_range : BitClock → Bool
in_range clock = leb clock.seen remembered && (leb 1 clock.counter && leb clock.counter 8)

-- While fewer than four have come, those that have not are low,
abbrev pub not_come : BitClock → Bool
not_come clock =
    not clock.oldest
    && ((ltb 2 clock.seen || not clock.older) && ((ltb 1 clock.seen || not clock.newer) && (ltb 0 clock.seen || not clock.newest)))

-- and nothing is voted.
abbrev pub nothing_voted : BitClock → Bool
nothing_voted clock = not clock.voted && (eqb clock.counter 1 && not clock.realigns)

abbrev pub sound_clock : BitClock → Bool
sound_clock clock = in_range clock && (votes clock || (not_come clock && nothing_voted clock))
