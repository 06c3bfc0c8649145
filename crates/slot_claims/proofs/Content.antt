-- The claims about tests (a) to (e).
use mathlib.Core.Path.{◌≡◌, refl, sym, ◌∙◌, subst}
use mathlib.Core.Bool.{Bool, true, false, ◌||◌, cond}
use mathlib.Core.Logic.{inl, inr}
use native.Mathlib.Omega.{arith}
use borrow.Author.Tests.{eqb-true, eqb-false, eq-eqb, ne_eqb, leb-true, leb-false, le-leb, lt-leb}
use lib.Dec.{eqb, leb}
use Rattle.std.specs.Prelude.{Option, Some, None}
use Rattle.header.specs.declared.Header.{Header}
use Rattle.settings.specs.Sheet.{static_payload_words, static_slots}
use Rattle.slot.specs.declared.status.Miss.{Miss}
use Rattle.slot.specs.declared.status.Miss.TheVariants.{OtherId, OtherCycle, OtherWords, SyncOrStartup, NullFrame}
use Rattle.slot.specs.Judging.{Place, first_miss, misses_words, misses_clear, misses_not_null}
use Rattle.slot_claims.specs.Content.{Static, Dynamic, SameId, SameCycle, FirstMissed, TestsExactly}
use Rattle.numbers.proofs.Truth.{true_left, true_right}
use Rattle.numbers.proofs.Walk.{cases, came}

module _ (p : Place) (h : Header) where
  abbrev is_static : Bool
  is_static = leb p.slot.0 (static_slots p.settings)

  -- (a) and (b) are passed: the rest decides
  past_place : SameId p h → SameCycle p h
      → first_miss p h
      ≡ cond (misses_words p h) (Some OtherWords)
      (cond (misses_clear p h) (Some SyncOrStartup) (cond (misses_not_null p h) (Some NullFrame) None))
  past_place id cycle = rw (eq-eqb h.id.0 p.slot.0 id, eq-eqb h.cycle.0 p.cycle.0 cycle)

  -- what the words say, the rule gives
  there : (t : Option Miss) → FirstMissed p h t → first_miss p h ≡ t
  there (Some OtherId) w = rw (ne_eqb h.id.0 p.slot.0 w)
  there (Some OtherCycle) w = rw (eq-eqb h.id.0 p.slot.0 w.0, ne_eqb h.cycle.0 p.cycle.0 w.1)
  there (Some OtherWords) w =
      past_place w.0 w.1
      ∙ rw (le-leb p.slot.0 (static_slots p.settings) w.2, ne_eqb h.words (static_payload_words p.settings) w.3)
  there (Some SyncOrStartup) w =
      let set : h.sync || h.startup ≡ true = came w.3 (true_left h.sync h.startup) (true_right h.sync h.startup) in
      past_place w.0 w.1 ∙ rw (lt-leb p.slot.0 (static_slots p.settings) w.2, set)
  there (Some NullFrame) w = past_place w.0 w.1 ∙ rw (lt-leb p.slot.0 (static_slots p.settings) w.2, w.3, w.4, w.5)
  there None w =
      past_place w.a w.b
      ∙ cases is_static
      (λ t. rw (t, eq-eqb h.words (static_payload_words p.settings) (w.c (leb-true p.slot.0 (static_slots p.settings) t))))
      (λ t.
      let dynamic = leb-false p.slot.0 (static_slots p.settings) t in
      rw (t, (w.d dynamic).0, (w.d dynamic).1, w.e dynamic))

  -- one of the six holds
  static_some : SameId p h → SameCycle p h → Static p → (t : Option Miss) × FirstMissed p h t
  static_some id cycle static =
      cases (eqb h.words (static_payload_words p.settings))
      (λ t. (
        None,
        record {
          a = id;
          b = cycle;
          c = λ s. eqb-true h.words (static_payload_words p.settings) t;
          d = λ dynamic. absurd (omega arith);
          e = λ dynamic. absurd (omega arith);
        },
      ))
      (λ t. (Some OtherWords, (id, cycle, static, eqb-false h.words (static_payload_words p.settings) t)))

  dynamic_some : SameId p h → SameCycle p h → Dynamic p → (t : Option Miss) × FirstMissed p h t
  dynamic_some id cycle dynamic = by h.sync h.startup h.null_frame_bit refl refl refl
    where
      by : (sync startup bit : Bool) → h.sync ≡ sync → h.startup ≡ startup → h.null_frame_bit ≡ bit → (t : Option Miss) × FirstMissed p h t
      by true startup bit e1 e2 e3 = (Some SyncOrStartup, (id, cycle, dynamic, inl e1))
      by false true bit e1 e2 e3 = (Some SyncOrStartup, (id, cycle, dynamic, inr e2))
      by false false false e1 e2 e3 = (Some NullFrame, (id, cycle, dynamic, e1, e2, e3))
      by false false true e1 e2 e3 =
          (None, record { a = id; b = cycle; c = λ static. absurd (omega arith); d = λ s. (e1, e2); e = λ s. e3 })

  placed_some : SameId p h → SameCycle p h → (t : Option Miss) × FirstMissed p h t
  placed_some id cycle =
      cases is_static
      (λ t. static_some id cycle (leb-true p.slot.0 (static_slots p.settings) t))
      (λ t. dynamic_some id cycle (leb-false p.slot.0 (static_slots p.settings) t))

  some : (t : Option Miss) × FirstMissed p h t
  some =
      cases (eqb h.id.0 p.slot.0)
      (λ t.
      let id = eqb-true h.id.0 p.slot.0 t in
      cases (eqb h.cycle.0 p.cycle.0)
      (λ u. placed_some id (eqb-true h.cycle.0 p.cycle.0 u))
      (λ u. (Some OtherCycle, (id, eqb-false h.cycle.0 p.cycle.0 u))))
      (λ t. (Some OtherId, eqb-false h.id.0 p.slot.0 t))

pub tests_exactly : TestsExactly
tests_exactly p h t =
    let found = some p h in
    (λ e. subst (FirstMissed p h) (sym (there p h found.0 found.1) ∙ e) found.1, there p h t)
