-- Marks over sequences of calls: what is loaded is what the history says, and a sound state carries nothing else.
use Rattle.std.specs.Prelude.{Option, None, Some}
use Rattle.header.specs.declared.Header.{Header}
use Prim.Native.Nat.{ℕ, zero, suc}
use mathlib.Core.Path.{◌≡◌, refl, sym, ap, subst, ◌∙◌}
use mathlib.Core.Bool.{Bool, true, false≢true, not, cond}
use mathlib.Core.List.Memᴰ
use mathlib.Core.List.{List, [], ◌∷◌, ◌++◌, Memᴰ}
use lib.IntN.{ℤ}
use borrow.Author.Tests.{not-false}
use Rattle.numbers.proofs.Walk.{cases, cases_in}
use Rattle.refusal.specs.Refusal.{first, if_accepted}
use Rattle.refusal.proofs.FirstLaws.{first_skip, first_end, first_zero, if_accepted_lem}
use Rattle.settings.specs.declared.Mark.{Mark}
use Rattle.settings.specs.declared.Settings.{Settings}
use Rattle.settings.specs.Sheet.{out_of_range, sync_id_limit, no_mark}
use Rattle.slot.specs.declared.status.Status.{Status}
use Rattle.slot.specs.Judging.{place_of}
use Rattle.slot.specs.Sound.{keeps_well}
use Rattle.base_types.specs.declared.microtick.Microtick.{Microtick}
use Rattle.measuring.specs.Measuring.{measure_refusals}
use Rattle.sync_list.specs.declared.list.SyncList.{SyncList}
use Rattle.sync_list.specs.Lists.{empty, listed}
use Rattle.list_soundness.specs.Sound.{list_sound}
use Rattle.measurements.specs.Measurements.{Taken, stands_for}
use Rattle.clock.specs.declared.state.Clock.{Clock}
use Rattle.clock.specs.Sound.{sound}
use Rattle.clock.specs.State.{fresh, no_clock}
use Rattle.clock.proofs.SoundLaws.{clauses, list_clauses}
use Rattle.closing.specs.Closing.{CycleClosed}
use Rattle.closing.specs.declared.Report.{Report}
use Rattle.closing.specs.Closing as closing
use Rattle.closing.specs.Closing.{CloseSays, closing_refusals, report_of, no_report}
use Rattle.clock_claims.specs.History as history
use Rattle.clock_claims.specs.History.{Call, load, open_cycle, measure, close_cycle, Answer, Since, Past, nothing, since, just_loaded, after_opening, measurement_in, after_measuring, after_closing, open_refusals, close_refusals, next, answer, past_of}
use Rattle.clock_claims.specs.Histories.{Holds, MakesAll}
use Rattle.clock_claims.specs.Witnesses.{MadeBy}
use Rattle.clock_claims.proofs.Answers.{close_refused}
use Rattle.clock_claims.proofs.Histories.{histories, since_load}
use Rattle.clock_claims.proofs.Lists.{taken_marked}
use Rattle.clock_claims.proofs.Sound.{no_clock_unsound}
use Rattle.clock_claims.proofs.Witnesses.{closed_after_well}
use Rattle.mark_claims.specs.Marks.{loaded_mark, loaded_by, NoLoad, LastDecides, ListedMarked, Carries, ReportMarked, SecondEmpties, TwoLoads, ReportedWell, under_mark, StatusMarkFree}

-- ---- what is loaded, by the calls and by the history

abbrev mark_in : Past → Mark
mark_in nothing = no_mark
mark_in (since s) = s.settings.mark

-- a call that is no load leaves the settings, accepted or not
kept_mark : (n : ℕ) (s t : Since) → t.settings ≡ s.settings → mark_in (since (if_accepted n t s)) ≡ s.settings.mark
kept_mark zero s t e = ap (λ (k : Settings). k.mark) e
kept_mark (suc n) s t e = refl

load_mark : (settings : Settings) → mark_in (cond (out_of_range settings) nothing (since (just_loaded settings))) ≡ cond (out_of_range settings) no_mark settings.mark
load_mark settings =
    cases_in (λ b. mark_in (cond b nothing (since (just_loaded settings))) ≡ cond b no_mark settings.mark) (out_of_range settings) (λ t. refl) (λ t. refl)

-- one call
next_mark : (past : Past) (call : Call) → loaded_mark (mark_in past) (call ∷ []) ≡ mark_in (next past call)
unfolding loaded_mark
next_mark past (load settings) = sym (load_mark settings)
next_mark nothing (open_cycle cycle) = refl
next_mark nothing (measure status observed action_point) = refl
next_mark nothing (close_cycle offset_control rate_control) = refl
next_mark (since s) (open_cycle cycle) = sym (kept_mark (first (open_refusals s cycle)) s (after_opening s cycle) refl)
next_mark (since s) (measure status observed action_point) =
    sym
    (kept_mark (first (history.measure_refusals s status observed action_point)) s (after_measuring s status (measurement_in s status observed action_point)) refl)
next_mark (since s) (close_cycle offset_control rate_control) = sym (kept_mark (first (close_refusals s offset_control rate_control)) s (after_closing s) refl)

mark_more : (mark : Mark) (call : Call) (calls : List Call) → loaded_mark mark (call ∷ calls) ≡ loaded_mark (loaded_mark mark (call ∷ [])) calls
unfolding loaded_mark
mark_more mark (load settings) calls = refl
mark_more mark (open_cycle cycle) calls = refl
mark_more mark (measure status observed action_point) calls = refl
mark_more mark (close_cycle offset_control rate_control) calls = refl

past_mark : (past : Past) (calls : List Call) → loaded_mark (mark_in past) calls ≡ mark_in (past_of past calls)
unfolding loaded_mark past_of
past_mark past [] = refl
past_mark past (call ∷ calls) =
    mark_more (mark_in past) call calls ∙ ap (λ (m : Mark). loaded_mark m calls) (next_mark past call) ∙ past_mark (next past call) calls

no_load : (mark : Mark) (calls : List Call) → NoLoad calls → loaded_mark mark calls ≡ mark
unfolding loaded_mark
no_load mark [] n = refl
no_load mark (load settings ∷ calls) n = absurd n
no_load mark (open_cycle cycle ∷ calls) n = no_load mark calls n
no_load mark (measure status observed action_point ∷ calls) n = no_load mark calls n
no_load mark (close_cycle offset_control rate_control ∷ calls) n = no_load mark calls n

last_from : (mark : Mark) (before later : List Call) (settings : Settings) → NoLoad later
    → loaded_mark mark (before ++ (load settings ∷ later)) ≡ cond (out_of_range settings) no_mark settings.mark
unfolding loaded_mark
last_from mark [] later settings n = no_load (cond (out_of_range settings) no_mark settings.mark) later n
last_from mark (call ∷ before) later settings n =
    mark_more mark call (before ++ (load settings ∷ later)) ∙ last_from (loaded_mark mark (call ∷ [])) before later settings n

pub last_decides : LastDecides
last_decides before later settings n = last_from no_mark before later settings n

-- ---- what a load leaves of the calls before it

-- what was called before a load has left nothing
past_since : (past : Past) (before later : List Call) (settings : Settings) → past_of past (before ++ (load settings ∷ later)) ≡ past_of nothing (load settings ∷ later)
unfolding past_of
past_since past [] later settings = refl
past_since past (call ∷ before) later settings = past_since (next past call) before later settings

-- where nothing is loaded, only a load changes that
nothing_stays : (calls : List Call) → NoLoad calls → past_of nothing calls ≡ nothing
unfolding past_of
nothing_stays [] n = refl
nothing_stays (load settings ∷ calls) n = absurd n
nothing_stays (open_cycle cycle ∷ calls) n = nothing_stays calls n
nothing_stays (measure status observed action_point ∷ calls) n = nothing_stays calls n
nothing_stays (close_cycle offset_control rate_control ∷ calls) n = nothing_stays calls n

refused_past : (before later : List Call) (settings : Settings) → NoLoad later → out_of_range settings ≡ true
    → past_of nothing (before ++ (load settings ∷ later)) ≡ nothing
unfolding past_of
refused_past before later settings n out =
    past_since nothing before later settings
    ∙ ap (λ (b : Bool). past_of (cond b nothing (since (just_loaded settings))) later) out
    ∙ nothing_stays later n

-- ---- what is listed

list_carries : (c : Clock) (l : SyncList) → list_sound (sync_id_limit c.settings) c.settings.mark l ≡ true
    → (m : Taken) → Memᴰ m (stands_for (listed l)) → m.measurement.mark ≡ c.settings.mark
list_carries c l e = taken_marked c.settings.mark (listed l) (list_clauses (sync_id_limit c.settings) c.settings.mark l e).marks

-- by what has happened, and so by the calls
holds_mark : (past : Past) (c : Clock) → Holds past c → c.settings.mark ≡ mark_in past
holds_mark nothing c h = ap (λ (k : Clock). k.settings.mark) h
holds_mark (since s) c h = ap (λ (k : Settings). k.mark) h.settings

-- one of the two lists, which is empty in the all-zero state and sound in a sound one
module _ (part : Clock → SyncList) (none : stands_for (listed (part no_clock)) ≡ []) where
  abbrev Good : Clock → Type 0
  Good c = list_sound (sync_id_limit c.settings) c.settings.mark (part c) ≡ true

  holds_list : ((c : Clock) → sound c ≡ true → Good c) → (past : Past) (c : Clock) → Holds past c
      → (m : Taken) → Memᴰ m (stands_for (listed (part c))) → m.measurement.mark ≡ c.settings.mark
  holds_list good nothing c h m mem = absurd (Memᴰ.not-nil (subst (Memᴰ m) (ap (λ (k : Clock). stands_for (listed (part k))) h ∙ none) mem))
  holds_list good (since s) c h m mem = list_carries c (part c) (good c h.good) m mem

no_rows : stands_for (listed empty) ≡ []
unfolding stands_for
no_rows = refl

pub listed_marked : ListedMarked
listed_marked calls answers d makes =
    let past = past_of nothing calls in
    let holds : Holds past d = (histories calls answers d makes).1 in
    let own : d.settings.mark ≡ loaded_by calls = holds_mark past d holds ∙ sym (past_mark nothing calls) in
    record {
      settings = own;
      even = λ m mem. holds_list (λ c. c.even) no_rows (λ c e. (clauses c e).even) past d holds m mem ∙ own;
      odd = λ m mem. holds_list (λ c. c.odd) no_rows (λ c e. (clauses c e).odd) past d holds m mem ∙ own;
    }

-- ---- what is reported

module _ (calls : List Call) (answers : List Answer) (d : Clock) (offset_control rate_control : ℤ) (r : CycleClosed) (makes : MakesAll no_clock calls answers d) (says : CloseSays d offset_control rate_control r) where
  abbrev Accepted : Type 0
  Accepted = (closing.told r.answer).number ≡ 0

  none_first : Accepted → first (closing_refusals d offset_control rate_control) ≡ 0
  none_first e = sym (ap (λ (t : closing.Told). t.number) says.answers) ∙ e

  own_mark : Accepted → (closing.told r.answer).report.mark ≡ loaded_by calls
  own_mark e =
      ap (λ (t : closing.Told). t.report.mark) says.answers
      ∙ ap (λ (report : Report). report.mark) (if_accepted_lem _ (report_of d offset_control rate_control) no_report (none_first e))
      ∙ (listed_marked calls answers d makes).settings

  -- after a refused load the state is all zeros, which is not sound
  not_behind_refused : Accepted → past_of nothing calls ≡ nothing → ⊥
  not_behind_refused e none =
      let same : d ≡ no_clock = subst (λ (past : Past). Holds past d) none (histories calls answers d makes).1 in
      let good : sound d ≡ true = not-false (sound d) (first_zero 22 (not (sound d)) _ (none_first e)).0 in
      false≢true (sym no_clock_unsound ∙ sym (ap sound same) ∙ good)

  carried : Carries calls r
  carried =
      record {
        accepted = own_mark;
        refused = λ no. ap (λ (report : Report). report.mark) (close_refused d offset_control rate_control r says no).0;
        last =
            λ before later settings is n e.
            cases (out_of_range settings)
            (λ out. absurd (not_behind_refused e (ap (past_of nothing) is ∙ refused_past before later settings n out)))
            (λ fits. (
              fits,
              own_mark e ∙ ap loaded_by is ∙ last_decides before later settings n ∙ ap (λ (b : Bool). cond b no_mark settings.mark) fits,
            ));
      }

pub report_marked : ReportMarked
report_marked calls answers d offset_control rate_control r makes says = carried calls answers d offset_control rate_control r makes says

-- ---- two loads

pub second_empties : SecondEmpties
second_empties c m d sheet again between earlier a same fits was (r, says, told, is) =
    let zero = first_skip 17 [] fits ∙ first_end in
    let left : d ≡ fresh again = is ∙ says.leaves ∙ if_accepted_lem _ (fresh again) no_clock zero in
    (ap (λ (k : Clock). listed k.even) left, ap (λ (k : Clock). listed k.odd) left)

pub two_loads : TwoLoads
two_loads c m d d' sheet again between later earlier answers answers' same was makes makes' =
    since_load c no_clock m no_clock d d' (load sheet ∷ between) [] later earlier [] answers answers' again was (refl, refl) makes makes'

pub reported_well : (calls : List Call) (c : Clock) (offset_control rate_control : ℤ) (r : CycleClosed) → MadeBy calls c
    → CloseSays c offset_control rate_control r → ReportedWell calls offset_control rate_control r
reported_well calls c offset_control rate_control r made says =
    record {
      carries = report_marked calls made.0 c offset_control rate_control r made.1 says;
      since =
          λ before later settings e.
          (closed_after_well calls c offset_control rate_control r made says).answers
          ∙ ap (λ (past : Past). answer past (close_cycle offset_control rate_control)) (ap (past_of nothing) e ∙ past_since nothing before later settings);
    }

-- ---- the mark of a status

module _ (mark : Mark) (status : Status) where
  -- of the settings nothing is asked but fields
  keeps_under : (k : Option Header) → keeps_well (place_of (under_mark mark status)) k ≡ keeps_well (place_of status) k
  keeps_under None = refl
  keeps_under (Some h) = refl

  number_under : (clock : Clock) (observed action_point : Microtick)
      → first (measure_refusals clock (under_mark mark status) observed action_point) ≡ first (measure_refusals clock status observed action_point)
  number_under clock observed action_point = rw (keeps_under status.kept)

pub status_mark_free : StatusMarkFree
status_mark_free mark clock status observed action_point r =
    let number = number_under mark status clock observed action_point in (
      λ says. record { answers = says.answers ∙ rw number; leaves = says.leaves ∙ rw number },
      λ says. record { answers = says.answers ∙ rw number; leaves = says.leaves ∙ rw number },
    )
