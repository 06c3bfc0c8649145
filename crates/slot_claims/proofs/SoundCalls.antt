-- Every accepted call returns a sound status.
use Prim.Native.Nat.{ℕ}
use mathlib.Core.Path.{◌≡◌, refl, sym, ap, ◌∙◌}
use mathlib.Core.Bool.{Bool, true, false, false≢true, not, ◌&&◌, ◌||◌, cond}
use borrow.Author.Tests.{eqb-true, eq-eqb, not-false}
use Rattle.std.proofs.Common.{arith}
use Rattle.refusal.specs.Refusal.{first, numbered}
use Rattle.refusal.proofs.FirstLaws.{first_skip, first_end, first_zero, if_accepted_lem, not_refused}
use Rattle.base_types.specs.Channel.{channel_of, number_of}
use Rattle.base_types.specs.declared.id.Slot.{Slot}
use Rattle.base_types.specs.declared.cycle.Cycle.{Cycle}
use Rattle.std.specs.Prelude.{Option, Some, None, is_some, is_none}
use Rattle.std.specs.Option.{option_or}
use Rattle.checksum.specs.declared.pair.ChecksumPair.{ChecksumPair}
use Rattle.checksum.specs.Pair as pair
use Rattle.header.specs.declared.Header.{Header}
use Rattle.frame.specs.Read.{header_read, refusals_on, rule_on}
use Rattle.settings.specs.declared.Settings.{Settings}
use Rattle.settings.specs.Sheet.{first_outside}
use Rattle.slot.specs.declared.status.Miss.{Miss}
use Rattle.slot.specs.declared.status.Reason.{Reason}
use Rattle.slot.specs.declared.status.Reason.TheVariants.{SecondGoodFrame}
use Rattle.slot.specs.declared.status.Status.{Status}
use Rattle.slot.specs.Judging.{Place, place_of, place_by, fresh, no_status, first_miss, is_second_good_frame, has_arrival}
use Rattle.slot.specs.Opening.{opening_refusals, Told}
use Rattle.slot.specs.Sound.{could_be_read, keeps_well, sound}
use Rattle.slot_events.specs.Effect.{Event, Brought, arrival, boundary_activity, own_sending, kept_by, reason_by, is_refused, of_refused, of_accepted, brings, reason_in, joined, after}
use Rattle.slot_events.specs.Events.{event_refusals}
use Rattle.base_types.proofs.ChannelLaws.{is_a_channel}
use Rattle.slot_claims.specs.Sound.{NoStatusUnsound, OpenedSound, EventSound}
use Rattle.numbers.proofs.Truth.{true_both}
use Rattle.numbers.proofs.Walk.{cases_in}
use Rattle.slot_claims.proofs.Readable.{read_could}
use Rattle.slot.proofs.SoundLaws.{clauses, clauses_sound}

pub no_status_unsound : NoStatusUnsound
unfolding first first_outside
no_status_unsound = refl

pub fresh_sound : (settings : Settings) (channel : ℕ) (slot : Slot) (cycle : Cycle) → first (opening_refusals settings channel slot cycle) ≡ 0
    → sound (fresh (place_by settings channel slot cycle)) ≡ true
unfolding numbered
fresh_sound settings channel slot cycle none =
    let p = place_by settings channel slot cycle in
    let passed = not_refused (opening_refusals settings channel slot cycle) refl none in
    let opens : first (opening_refusals settings (number_of (channel_of channel)) slot cycle) ≡ 0 =
    first_skip 17 _ (passed 17) ∙ first_skip 1 _ (is_a_channel (channel_of channel)) ∙ first_skip 9 _ (passed 9) ∙ first_skip 11 _ (passed 11) ∙ first_end in
    clauses_sound (fresh p) (record { opens = eq-eqb _ 0 opens; content = refl; valid = refl; keeps = refl; second = λ e. absurd (false≢true e); checksums = λ e. absurd (false≢true e); conflict = refl })

pub opened_sound : OpenedSound
opened_sound settings channel slot cycle r says accepted =
    let none : first (opening_refusals settings channel slot cycle) ≡ 0 = sym (ap (λ (t : Told). t.number) says.answers) ∙ accepted in
    ap sound (says.leaves ∙ if_accepted_lem _ _ no_status none) ∙ fresh_sound settings channel slot cycle none

-- what an event brings fits together
pub record Fits (p : Place) (b : Brought) : Type 0 where
  pub keeps : keeps_well p b.kept ≡ true
  -- an arrival is refused, misses a test, or passes all
  pub one : b.refused || (is_some b.reason || is_some b.kept) ≡ b.arrived
  -- a frame that is kept gives no reason by itself, and none gives (f)
  pub alone : is_some b.reason && is_some b.kept ≡ false
  pub test : is_second_good_frame b.reason ≡ false
  -- no event is both own sending and an arrival
  pub apart : b.sent && b.arrived ≡ false

frame_fits : (p : Place) (h : Header) → could_be_read h ≡ true → Fits p (of_accepted (reason_by (first_miss p h)) (kept_by (first_miss p h) h))
frame_fits p h could = by (first_miss p h) refl
  where
    by : (t : Option Miss) → first_miss p h ≡ t → Fits p (of_accepted (reason_by t) (kept_by t h))
    by None e =
        record { keeps = true_both (could_be_read h) (is_none (first_miss p h)) could (ap is_none e); one = refl; alone = refl; test = refl; apart = refl }
    by (Some miss) e = record { keeps = refl; one = refl; alone = refl; test = refl; apart = refl }

pub fits : (p : Place) (e : Event) → Fits p (brings p e)
fits p boundary_activity = record { keeps = refl; one = refl; alone = refl; test = refl; apart = refl }
fits p own_sending = record { keeps = refl; one = refl; alone = refl; test = refl; apart = refl }
fits p (arrival bytes) =
    let h = header_read bytes in
    cases_in (λ b. Fits p (cond b (of_refused (rule_on p.channel bytes).checksums) (of_accepted (reason_by (first_miss p h)) (kept_by (first_miss p h) h))))
    (is_refused p.channel bytes)
    (λ t. record { keeps = refl; one = refl; alone = refl; test = refl; apart = refl })
    (λ t. frame_fits p h (read_could p.channel bytes (eqb-true (first (refusals_on p.channel bytes)) 0 (not-false _ t))))

-- the three flags after it: an arrival sets one, and a later frame gives a reason, and "valid" as well
some_flag : (later : Reason) (reason : Option Reason) (kept : Option Header) (refused arrived syntax content valid : Bool)
    → refused || (is_some reason || is_some kept) ≡ arrived
    → (refused || syntax) || ((is_some (cond (is_some kept && valid) (Some later) reason) || content) || (is_some kept || valid))
    ≡ arrived || (syntax || (content || valid))
some_flag later reason kept refused arrived syntax content valid one = grind arith

pub has_after : (s : Status) (b : Brought) → Fits (place_of s) b → has_arrival (joined s b) ≡ b.arrived || has_arrival s
has_after s b f = some_flag SecondGoodFrame b.reason b.kept b.refused b.arrived s.syntax_error s.content_error s.valid f.one

conflict_after : (arrived sent own has : Bool) → sent && arrived ≡ false
    → arrived && own || (sent && has || own && has) ≡ (sent || own) && (arrived || has)
conflict_after arrived sent own has apart = grind arith

-- the first of two that is there is there if one of them is, and is well kept if both are
first_is : {A : Type 0} (old new : Option A) → is_some (option_or old new) ≡ is_some new || is_some old
first_is old new = grind arith

first_well : (p : Place) (old new : Option Header) → keeps_well p old ≡ true → keeps_well p new ≡ true → keeps_well p (option_or old new) ≡ true
first_well p None new eo en = en
first_well p (Some h) new eo en = eo

-- (f) is given only where a frame passes and "valid" stood before it
later_only : (later : Bool) (reason : Option Reason) → is_second_good_frame reason ≡ false
    → is_second_good_frame (cond later (Some SecondGoodFrame) reason) ≡ true → later ≡ true
later_only later reason test e = grind arith

pub second_given : (s : Status) (b : Brought) → is_second_good_frame b.reason ≡ false
    → is_second_good_frame (reason_in s b) ≡ true → is_some b.kept && s.valid ≡ true
second_given s b test e = later_only (is_some b.kept && s.valid) b.reason test e

-- (f) stands where it stood, or where it is given; "valid" stood before in both
second_after : (kept valid : Bool) (old reason : Option Reason) → (is_second_good_frame old ≡ true → valid ≡ true)
    → is_second_good_frame reason ≡ false
    → is_second_good_frame (option_or old (cond (kept && valid) (Some SecondGoodFrame) reason)) ≡ true → kept || valid ≡ true
second_after kept valid old reason before test e = grind arith

-- two checksums stand where they stood, or where an arrival is refused; "syntax error" stands in both
checksums_after : (refused syntax : Bool) (new old : ChecksumPair) → (not (pair.is_none old) ≡ true → syntax ≡ true)
    → not (pair.is_none (cond (refused && not syntax) new old)) ≡ true → refused || syntax ≡ true
checksums_after refused syntax new old before e = grind arith

joined_sound : (s : Status) (b : Brought) → sound s ≡ true → Fits (place_of s) b → sound (joined s b) ≡ true
joined_sound s b good f =
    let c = clauses s good in
    clauses_sound (joined s b)
    (record {
      opens = c.opens;
      content = ap (◌||◌ (is_some (reason_in s b))) c.content ∙ sym (first_is s.reason (reason_in s b));
      valid = ap (◌||◌ (is_some b.kept)) c.valid ∙ sym (first_is s.kept b.kept);
      keeps = first_well (place_of s) s.kept b.kept c.keeps f.keeps;
      second = second_after (is_some b.kept) s.valid s.reason b.reason c.second f.test;
      checksums = checksums_after b.refused s.syntax_error b.checksums s.checksums c.checksums;
      conflict =
          ap (λ (x : Bool). b.arrived && s.own_sending || (b.sent && has_arrival s || x)) c.conflict
          ∙ conflict_after b.arrived b.sent s.own_sending (has_arrival s) f.apart
          ∙ ap (◌&&◌ (b.sent || s.own_sending)) (sym (has_after s b f));
    })

pub after_sound : (s : Status) (e : Event) → sound s ≡ true → sound (after s e) ≡ true
after_sound s e good = joined_sound s (brings (place_of s) e) good (fits (place_of s) e)

pub event_sound : EventSound
event_sound status e r says accepted =
    let none : first (event_refusals status) ≡ 0 = sym says.answers ∙ accepted in
    let good : sound status ≡ true = not-false (sound status) (first_zero 22 (not (sound status)) _ none).0 in
    ap sound (says.leaves ∙ if_accepted_lem _ (after status e) status none) ∙ after_sound status e good
