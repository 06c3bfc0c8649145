-- The clauses of soundness, one by one.
use mathlib.Core.Path.{◌≡◌}
use mathlib.Core.Bool.{Bool, true, not, ◌&&◌}
use Rattle.std.proofs.Common.{arith}
use Rattle.std.specs.Prelude.{is_some}
use Rattle.checksum.specs.Pair.{is_none}
use Rattle.slot.specs.declared.status.Status.{Status}
use Rattle.slot.specs.Judging.{place_of, is_second_good_frame, has_arrival}
use Rattle.slot.specs.Sound.{would_open, keeps_well, exactly_with, only_with, sound}

parts : (a b c d e f g : Bool) → a && b && c && d && e && f && g ≡ true
    → (a ≡ true) × (b ≡ true) × (c ≡ true) × (d ≡ true) × (e ≡ true) × (f ≡ true) × (g ≡ true)
parts a b c d e f g all = grind arith

exactly_same : (a b : Bool) → exactly_with a b ≡ true → a ≡ b
exactly_same a b e = grind arith

only_then : (a b : Bool) → only_with a b ≡ true → a ≡ true → b ≡ true
only_then a b e t = grind arith

pub record Clauses (s : Status) : Type 0 where
  pub opens : would_open (place_of s) ≡ true
  pub content : s.content_error ≡ is_some s.reason
  pub valid : s.valid ≡ is_some s.kept
  pub keeps : keeps_well (place_of s) s.kept ≡ true
  pub second : is_second_good_frame s.reason ≡ true → s.valid ≡ true
  pub checksums : not (is_none s.checksums) ≡ true → s.syntax_error ≡ true
  pub conflict : s.conflict ≡ s.own_sending && has_arrival s

pub clauses : (s : Status) → sound s ≡ true → Clauses s
clauses s e =
    let p = parts _ _ _ _ _ _ _ e in
    record {
      opens = p.0;
      content = exactly_same _ _ p.1;
      valid = exactly_same _ _ p.2;
      keeps = p.3;
      second = only_then _ _ p.4;
      checksums = only_then _ _ p.5;
      conflict = exactly_same _ _ p.6;
    }

pub clauses_sound : (s : Status) → Clauses s → sound s ≡ true
clauses_sound s c = grind arith
