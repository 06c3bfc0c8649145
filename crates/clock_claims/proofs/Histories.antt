-- Whole sequences of calls: each call answers as the history says and leaves a state that holds what has happened.
use Rattle.std.specs.Prelude.{is_some}
use Prim.Native.Nat.{ℕ, zero, suc}
use mathlib.Core.Path.{◌≡◌, refl, sym, ap, ap₂, subst, ◌∙◌}
use mathlib.Core.Bool.{Bool, true, false, not, ◌&&◌, cond}
use mathlib.Core.List.{List, [], ◌∷◌}
use borrow.Author.Tests.{not-false}
use lib.IntN.{ℤ, pos}
use Rattle.numbers.proofs.Walk.{cases_in}
use Rattle.refusal.specs.Refusal.{first, if_accepted, numbered}
use Rattle.refusal.proofs.FirstLaws.{first_skip, first_here, first_end, if_accepted_lem, not_refused}
use Rattle.settings.specs.declared.Settings.{Settings}
use Rattle.settings.specs.Sheet.{out_of_range}
use Rattle.slot.specs.Sound as slot
use Rattle.sync_list.specs.declared.row.Measurement.{Measurement}
use Rattle.clock.specs.declared.state.Clock.{Clock}
use Rattle.clock.specs.Loading.{Loaded}
use Rattle.clock.specs.Opening.{CycleOpened}
use Rattle.clock.specs.State.{fresh, no_clock}
use Rattle.clock.specs.Sound.{sound}
use Rattle.clock.specs.Loading as loading
use Rattle.clock.specs.Loading.{LoadSays, load_refusals}
use Rattle.clock.specs.Opening as opening
use Rattle.clock.specs.Opening.{opening_refusals, opened_on}
use Rattle.measuring.specs.Measuring.{FrameMeasured}
use Rattle.measuring.specs.Measuring as measuring
use Rattle.measuring.specs.Measuring.{deviation_by, measurement_by, measured_on}
use Rattle.closing.specs.declared.Report.{Report}
use Rattle.closing.specs.Closing.{CycleClosed}
use Rattle.closing.specs.Closing as closing
use Rattle.closing.specs.Closing.{closing_refusals, report_of, closed_on, no_report}
use Rattle.clock_claims.specs.History.{Call, load, open_cycle, measure, close_cycle, Answer, loaded, opened, measured, closed, Since, Past, nothing, since, just_loaded, after_opening, measurement_in, after_measuring, report_in, after_closing, open_refusals, close_refusals, next, answer, past_of, answers_of}
use Rattle.clock_claims.specs.Histories.{Makes, MakesAll, Holds, Histories, SinceLoad, JustLoaded, LoadFresh}
use Rattle.clock_claims.proofs.Answers.{load_one, open_one, measure_one, close_one}
use Rattle.clock_claims.proofs.Sound.{no_clock_unsound}
use Rattle.clock_claims.proofs.Follows.{Follows, follows_load, open-number, follows-open, deviation-is, measurement-is, measure-number, follows-measure, close_number, report-is, follows-close}

-- what has happened and a state that follows it
abbrev Tracks : Past → Clock → Type 0
Tracks nothing c = c ≡ no_clock
Tracks (since s) c = Follows s c

tracks_holds : (past : Past) (c : Clock) → Tracks past c → Holds past c
tracks_holds nothing c t = t
tracks_holds (since s) c t = t.holds

-- ---- one call

load_tracks : (settings : Settings) (r : Loaded) → LoadSays settings r → Tracks (cond (out_of_range settings) nothing (since (just_loaded settings))) r.state
load_tracks settings r h =
    let left : (n : ℕ) → first (load_refusals settings) ≡ n → r.state ≡ if_accepted n (fresh settings) no_clock =
    λ n e. h.leaves ∙ ap (λ (k : ℕ). if_accepted k (fresh settings) no_clock) e in
    cases_in (λ b. Tracks (cond b nothing (since (just_loaded settings))) r.state) (out_of_range settings)
    (λ t. left 17 (first_here 17 [] t))
    (λ t. subst (Follows (just_loaded settings)) (sym (left 0 (first_skip 17 [] t ∙ first_end))) (follows_load settings t))

-- nothing is loaded: the state is all zeros, and 23 comes first
unsound : (c : Clock) → c ≡ no_clock → sound c ≡ false
unsound c none = ap sound none ∙ no_clock_unsound

-- beside a number: the state and what has happened go the same way
go_with : {n k : ℕ} (s t : Since) (c d r : Clock) → Follows s c → r ≡ if_accepted n d c → n ≡ k → (k ≡ 0 → Follows t d) → Follows (if_accepted k t s) r
go_with {k = k} s t c d r refused leaves e accepted =
    subst (Follows (if_accepted k t s)) (sym (leaves ∙ ap (λ (i : ℕ). if_accepted i d c) e)) (by k accepted)
  where
    by : (k : ℕ) → (k ≡ 0 → Follows t d) → Follows (if_accepted k t s) (if_accepted k d c)
    by zero accepted = accepted refl
    by (suc n) accepted = refused

-- the report is the history's where it is given, and otherwise all zeros
report_with_lem : (n : ℕ) (a b : Report) → (n ≡ 0 → a ≡ b) → if_accepted n a no_report ≡ if_accepted n b no_report
report_with_lem zero a b e = e refl
report_with_lem (suc n) a b e = refl

one_call : (past : Past) (c : Clock) (call : Call) (a : Answer) (d : Clock) → Tracks past c → Makes c call a d
    → (a ≡ answer past call) × Tracks (next past call) d
unfolding numbered
one_call past c (load settings) a d t (r, h, ea, ed) =
    (ea ∙ ap loaded h.answers, subst (Tracks (next past (load settings))) (sym ed) (load_tracks settings r h))
one_call nothing c (open_cycle cycle) a d none (r, h, ea, ed) =
    let n : first (opening_refusals c cycle) ≡ 23 = first_here 23 _ (ap not (unsound c none)) in
    (ea ∙ ap opened (h.answers ∙ n), ed ∙ h.leaves ∙ ap (λ (k : ℕ). if_accepted k (opened_on c cycle) c) n ∙ none)
one_call nothing c (measure status observed action_point) a d none (r, h, ea, ed) =
    let x = deviation_by c status observed action_point in
    let n : first (measuring.measure_refusals c status observed action_point) ≡ 23 =
    first_here 23 _ (ap (λ (b : Bool). not (b && slot.sound status)) (unsound c none)) in (
      ea ∙ ap measured (h.answers ∙ ap (λ (k : ℕ). record { number = k; deviation = if_accepted k x (pos 0) }) n),
      ed ∙ h.leaves ∙ ap (λ (k : ℕ). if_accepted k (measured_on c status (measurement_by c status observed action_point)) c) n ∙ none,
    )
one_call nothing c (close_cycle offset_control rate_control) a d none (r, h, ea, ed) =
    let n : first (closing_refusals c offset_control rate_control) ≡ 23 = first_here 23 _ (ap not (unsound c none)) in (
      ea ∙ ap closed (h.answers ∙ ap (λ (k : ℕ). record { number = k; report = if_accepted k (report_of c offset_control rate_control) no_report }) n),
      ed ∙ h.leaves ∙ ap (λ (k : ℕ). if_accepted k (closed_on c) c) n ∙ none,
    )
one_call (since s) c (open_cycle cycle) a d f (r, h, ea, ed) =
    let n = open-number s c f cycle in (
      ea ∙ ap opened (h.answers ∙ n),
      go_with s (after_opening s cycle) c (opened_on c cycle) d f (ed ∙ h.leaves) n
          (λ e.
          let passed = not_refused (open_refusals s cycle) refl e in
          follows-open s c f cycle (passed 19) (passed 11)),
    )
one_call (since s) c (measure status observed action_point) a d f (r, h, ea, ed) =
    let n = measure-number s c f status observed action_point in
    let same = deviation-is s c f status observed action_point in
    let m = measurement_by c status observed action_point in (
      ea ∙ ap measured (h.answers ∙ ap₂ (λ (k : ℕ) (y : ℤ). record { number = k; deviation = if_accepted k y (pos 0) }) n same),
      go_with s (after_measuring s status (measurement_in s status observed action_point)) c (measured_on c status m) d f (ed ∙ h.leaves) n
          (λ e.
          subst (λ (y : Measurement). Follows (after_measuring s status y) (measured_on c status m)) (measurement-is s c f status observed action_point)
          (follows-measure s c f status observed action_point (n ∙ e))),
    )
one_call (since s) c (close_cycle offset_control rate_control) a d f (r, h, ea, ed) =
    let n = close_number s c f offset_control rate_control in
    let k = first (close_refusals s offset_control rate_control) in
    let there : k ≡ 0 → is_some s.opened ≡ true = λ e. not-false _ (not_refused (close_refusals s offset_control rate_control) refl e 18) in (
      ea
          ∙ ap closed
          (h.answers
          ∙ ap (λ (k : ℕ). record { number = k; report = if_accepted k (report_of c offset_control rate_control) no_report }) n
          ∙ ap (λ (x : Report). record { number = k; report = x })
          (report_with_lem k (report_of c offset_control rate_control) (report_in s offset_control rate_control) (λ e. report-is s c f (there e) offset_control rate_control))),
      go_with s (after_closing s) c (closed_on c) d f (ed ∙ h.leaves) n (λ e. follows-close s c f (there e)),
    )

-- ---- all calls

all_calls : (past : Past) (c : Clock) (calls : List Call) (answers : List Answer) (d : Clock) → Tracks past c → MakesAll c calls answers d
    → (answers ≡ answers_of past calls) × Holds (past_of past calls) d
unfolding past_of answers_of
all_calls past c [] answers d t (ea, ed) = (ea, subst (Holds past) ed (tracks_holds past c t))
all_calls past c (call ∷ calls) [] d t makes = absurd makes
all_calls past c (call ∷ calls) (a ∷ answers) d t (m, one, rest) =
    let x = one_call past c call a m t one in
    let y = all_calls (next past call) m calls answers d x.1 rest in
    (ap₂ (λ (a : Answer) (l : List Answer). a ∷ l) x.0 y.0, y.1)

pub histories : Histories
histories calls answers d makes = all_calls nothing no_clock calls answers d refl makes

-- ---- since the last load

-- what follows from one result twice
agree : {R : Type 0} (told : R → Answer) (left : R → Clock) {r r' : R} {a a' : Answer} {d d' : Clock} → r ≡ r'
    → a ≡ told r → d ≡ left r → a' ≡ told r' → d' ≡ left r' → (a ≡ a') × (d ≡ d')
agree told left same ea ed ea' ed' = (ea ∙ ap told same ∙ sym ea', ed ∙ ap left same ∙ sym ed')

-- a call on one state has one answer and leaves one state
one_result : (c : Clock) (call : Call) (a a' : Answer) (d d' : Clock) → Makes c call a d → Makes c call a' d' → (a ≡ a') × (d ≡ d')
one_result c (load settings) a a' d d' (r, h, ea, ed) (r', h', ea', ed') =
    agree (λ (x : Loaded). loaded (loading.told x.answer)) (λ x. x.state) (load_one settings r r' h h') ea ed ea' ed'
one_result c (open_cycle cycle) a a' d d' (r, h, ea, ed) (r', h', ea', ed') =
    agree (λ (x : CycleOpened). opened (opening.told x.answer)) (λ x. x.state) (open_one c cycle r r' h h') ea ed ea' ed'
one_result c (measure status observed action_point) a a' d d' (r, h, ea, ed) (r', h', ea', ed') =
    agree (λ (x : FrameMeasured). measured (measuring.told x.answer)) (λ x. x.state) (measure_one c status observed action_point r r' h h') ea ed ea' ed'
one_result c (close_cycle offset_control rate_control) a a' d d' (r, h, ea, ed) (r', h', ea', ed') =
    agree (λ (x : CycleClosed). closed (closing.told x.answer)) (λ x. x.state) (close_one c offset_control rate_control r r' h h') ea ed ea' ed'

same_calls : (c : Clock) (calls : List Call) (answers answers' : List Answer) (d d' : Clock) → MakesAll c calls answers d → MakesAll c calls answers' d'
    → (answers ≡ answers') × (d ≡ d')
same_calls c [] answers answers' d d' (ea, ed) (ea', ed') = (ea ∙ sym ea', sym ed ∙ ed')
same_calls c (call ∷ calls) [] answers' d d' makes makes' = absurd makes
same_calls c (call ∷ calls) (a ∷ answers) [] d d' makes makes' = absurd makes'
same_calls c (call ∷ calls) (a ∷ answers) (a' ∷ answers') d d' (m, one, rest) (m', one', rest') =
    let x = one_result c call a a' m m' one one' in
    let y = same_calls m calls answers answers' d d' rest (subst (λ (k : Clock). MakesAll k calls answers' d') (sym x.1) rest') in
    (ap₂ (λ (a : Answer) (l : List Answer). a ∷ l) x.0 y.0, y.1)

-- a load does not look at the state
load_anywhere : (m m' : Clock) (settings : Settings) (calls : List Call) (answers : List Answer) (d : Clock)
    → MakesAll m (load settings ∷ calls) answers d → MakesAll m' (load settings ∷ calls) answers d
load_anywhere m m' settings calls [] d makes = makes
load_anywhere m m' settings calls (a ∷ answers) d makes = makes

pub since_load : SinceLoad
since_load c c' m m' d d' before before' calls earlier earlier' answers answers' settings was was' makes makes' =
    same_calls m (load settings ∷ calls) answers answers' d d' makes (load_anywhere m' m settings calls answers' d' makes')

pub load_fresh : LoadFresh
load_fresh settings r h e =
    let zero : first (load_refusals settings) ≡ 0 = sym (ap (λ (t : loading.Told). t.number) h.answers) ∙ e in
    subst (JustLoaded settings) (sym (h.leaves ∙ if_accepted_lem _ (fresh settings) no_clock zero))
    (record { settings = refl; even = refl; odd = refl; opened = refl; last_closed = refl; rate = refl })
