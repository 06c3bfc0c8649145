-- Every state that a rule gives has arrays as long as its type says.
use mathlib.Core.Path.{refl}
use Rattle.settings_claims.specs.Sheet.{TypedSettings}
use Rattle.clock.specs.declared.state.Clock.{Clock}
use Rattle.clock.specs.State.{current_cycle, list_of}
use Rattle.measuring.specs.Measuring.{frame_of}
use Rattle.clock_claims.specs.Typed.{TypedList, TypedClock, TypedAgain}
use Rattle.clock_claims.proofs.Recorded.{of_list, of-even, of-odd, of_even_after, recorded_typed}

-- what `search` finds of a state's arrays, together
pub typed_by : (c : Clock) → TypedSettings c.settings → TypedList c.even → TypedList c.odd → TypedClock c
typed_by c settings even odd = record { settings = settings; even = even; odd = odd }

pub typed_again : TypedAgain
typed_again =
    record {
      loaded = λ settings typed. record { settings = typed; even = refl; odd = refl };
      refused = record { settings = refl; even = refl; odd = refl };
      opened =
          λ c cycle typed.
          record {
            settings = typed.settings;
            even = of_even_after TypedList c cycle typed.even refl;
            odd = refl;
          };
      measured =
          λ c status m typed.
          let l = list_of (current_cycle c) c in
          let own : TypedList l = of_list TypedList c (current_cycle c) typed.even typed.odd in
          let rows = recorded_typed (frame_of status).id status.channel m l own in
          record {
            settings = typed.settings;
            even = of-even TypedList c (current_cycle c) typed.even typed.odd rows;
            odd = of-odd TypedList c (current_cycle c) typed.even typed.odd rows;
          };
      closed = λ c typed. record { settings = typed.settings; even = typed.even; odd = typed.odd };
    }
