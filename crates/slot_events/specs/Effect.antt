-- What one event brings in a slot, and what it leaves of a status (01, "Judging a slot").
use Rattle.std.specs.Prelude.{ℕ, Bool, true, false, not, ◌&&◌, ◌||◌, cond, List, eqb, Option, Some, None, is_some, is_none, option_map}
use Rattle.std.specs.Option.{option_or}
use Rattle.refusal.specs.Refusal.{first}
use Rattle.base_types.specs.declared.channel.Channel.{Channel}
use Rattle.checksum.specs.declared.pair.ChecksumPair.{ChecksumPair}
use Rattle.checksum.specs.Pair.{no_checksums}
use Rattle.header.specs.declared.Header.{Header}
use Rattle.frame.specs.Read.{header_read, refusals_on, rule_on}
use Rattle.slot.specs.declared.status.Miss.{Miss}
use Rattle.slot.specs.declared.status.Reason.{Reason}
use Rattle.slot.specs.declared.status.Reason.TheVariants.{Missed, SecondGoodFrame}
use Rattle.slot.specs.declared.status.Status.{Status}
use Rattle.slot.specs.Judging.{Place, place_of, first_miss, has_arrival}

-- ---- an event

-- "arrived bytes, activity at a slot boundary, own sending".
pub data Event : Type 0 where
  arrival : List ℕ → Event
  boundary_activity : Event
  own_sending : Event

-- What an event brings.
pub record Brought : Type 0 where
  -- Bytes arrived.
  pub arrived : Bool
  -- Reading them on the slot's channel refuses them, and tells these two checksums.
  pub refused : Bool
  pub checksums : ChecksumPair
  -- The reason that a miss gives, and the header of a frame that passes all tests.
  pub reason : Option Reason
  pub kept : Option Header
  -- Activity at a boundary.
  pub at_boundary : Bool
  -- Own sending.
  pub sent : Bool

-- What an arrival brings that is refused: two checksums. What a frame brings: a reason or a frame to keep.
abbrev pub of_refused : ChecksumPair → Brought
of_refused checksums =
    record { arrived = true; refused = true; checksums = checksums; reason = None; kept = None; at_boundary = false; sent = false }

abbrev pub of_accepted : Option Reason → Option Header → Brought
of_accepted reason kept =
    record { arrived = true; refused = false; checksums = no_checksums; reason = reason; kept = kept; at_boundary = false; sent = false }

-- "Each arrival is read on the slot's channel": a read refusal.
abbrev pub is_refused : Channel → List ℕ → Bool
is_refused channel bytes = not (eqb (first (refusals_on channel bytes)) 0)

-- "No miss: .. header fields are kept".
abbrev pub kept_by : Option Miss → Header → Option Header
kept_by miss h = cond (is_none miss) (Some h) None

-- "the first miss giving a content reason".
abbrev pub reason_by : Option Miss → Option Reason
reason_by miss = option_map Missed miss

-- What an event brings in a slot that was opened so.
abbrev pub brings : Place → Event → Brought
brings p (arrival bytes) =
    cond (is_refused p.channel bytes) (of_refused (rule_on p.channel bytes).checksums)
    (of_accepted (reason_by (first_miss p (header_read bytes))) (kept_by (first_miss p (header_read bytes)) (header_read bytes)))
brings p boundary_activity =
    record { arrived = false; refused = false; checksums = no_checksums; reason = None; kept = None; at_boundary = true; sent = false }
brings p own_sending =
    record { arrived = false; refused = false; checksums = no_checksums; reason = None; kept = None; at_boundary = false; sent = true }

-- ---- what it leaves

-- The content reason that an event gives in a slot. "a later frame that passes all tests sets "content error" with content reason (f)" (02,
-- C-15): it is later where "valid" stood before it.
abbrev pub reason_in : Status → Brought → Option Reason
reason_in s b = cond (is_some b.kept && s.valid) (Some SecondGoodFrame) b.reason

-- An event is the first syntax error where it is refused and none was before it.
abbrev pub is_first_refused : Status → Brought → Bool
is_first_refused s b = b.refused && not s.syntax_error

-- "keeps the pair of the first syntax error" (02, C-18).
abbrev pub checksums_in : Status → Brought → ChecksumPair
checksums_in s b = cond (is_first_refused s b) b.checksums s.checksums

-- "Flags never clear within a slot": each stands if the event sets it or if it stood before.
abbrev pub joined : Status → Brought → Status
joined s b =
    record {
      settings = s.settings;
      channel = s.channel;
      slot = s.slot;
      cycle = s.cycle;
      -- "A read refusal sets "syntax error"."
      syntax_error = b.refused || s.syntax_error;
      -- "A miss sets "content error"", and so does a later frame that passes.
      content_error = is_some (reason_in s b) || s.content_error;
      -- "Boundary activity sets "boundary violation"."
      boundary_violation = b.at_boundary || s.boundary_violation;
      -- ""Conflict" is set once own sending and any arrival have both occurred, in either order."
      conflict = b.arrived && s.own_sending || (b.sent && has_arrival s || s.conflict);
      -- "No miss: .. "valid" set".
      valid = is_some b.kept || s.valid;
      own_sending = b.sent || s.own_sending;
      -- "keeps the first reason"; (f) comes in "unless a reason is kept already".
      reason = option_or s.reason (reason_in s b);
      -- "the first such frame's header fields are kept", and "The first frame stays the kept one".
      kept = option_or s.kept b.kept;
      checksums = checksums_in s b;
    }

-- The status after an event.
abbrev pub after : Status → Event → Status
after s e = joined s (brings (place_of s) e)
