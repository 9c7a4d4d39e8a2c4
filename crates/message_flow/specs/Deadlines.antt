-- When T4 runs out, looked back for in all that the receiver has met.
use Rattle.std.specs.Prelude.{◌≡◌, ◌≢◌, ℕ, Bool, false, ◌+◌, ◌≤◌, ◌&&◌, nat_le, reverse, List, [], ◌∷◌, Option, Some, None, if◌then◌else◌}
use Rattle.std.specs.List.{before_first, filter_map, find}
use Rattle.block_codec.specs.declared.header.Header.{Header}
use Rattle.message_flow.specs.Entries.{FlowEntry}
use Rattle.message_flow.specs.History.{Met, is_cut, is_part, met_of, newest_header, open_blocks, open_firsts}
use Rattle.message_flow.specs.History.Met.{Arrived, TimedOut}
use Rattle.message_flow.specs.Key.{same_key}
use Rattle.message_flow.specs.Receiver.{Receiver}

-- the moment of an entry that is a part of a message of a header's key
abbrev pub moment_of : Header → Met → Option ℕ
moment_of header (Arrived block now flow) = if same_key block.header header && is_part flow then Some now else None
moment_of header (TimedOut dropped now) = None

-- the moments of the open blocks of a header's key, the newest first
abbrev pub open_moments : Header → List Met → List ℕ
open_moments header met = filter_map (moment_of header) (before_first (is_cut header) met)

-- T4 runs from the newest of these moments (SEMI E4, T4)
abbrev pub t4_end : Receiver → List ℕ → Option ℕ
t4_end receiver [] = None
t4_end receiver (newest ∷ before) = Some (newest + receiver.t4)

-- the moment at which T4 runs out on a header's key; none where no block of it is open
abbrev pub deadline_of : Receiver → Header → List Met → Option ℕ
deadline_of receiver header met = t4_end receiver (open_moments header met)

-- T4 runs out on some key with an open block at this moment, and on none before
pub record IsEarliest (receiver : Receiver) (met : List Met) (moment : ℕ) : Type 0 where
  pub key : Header
  pub is_open : open_blocks key met ≢ []
  pub reached : deadline_of receiver key met ≡ Some moment
  pub least : (header : Header) (other : ℕ) → deadline_of receiver header met ≡ Some other → moment ≤ other

-- the deadline after all this: the earliest moment at which T4 runs out, and none exactly where no key has an open
-- block
abbrev pub IsDeadlineAfter : Receiver → List Met → Option ℕ → Type 0
IsDeadlineAfter receiver met None = (header : Header) → open_blocks header met ≡ []
IsDeadlineAfter receiver met (Some moment) = IsEarliest receiver met moment

-- the deadline after these entries, the oldest first
abbrev pub IsDeadlineAt : Receiver → List FlowEntry → Option ℕ → Type 0
IsDeadlineAt receiver entries deadline = IsDeadlineAfter receiver (met_of receiver (reverse entries)) deadline

-- a moment that has come
abbrev pub has_come : ℕ → Option ℕ → Bool
has_come now None = false
has_come now (Some moment) = nat_le moment now

-- the header of the newest open block of a key, where there is such a key
abbrev pub newest_of : List Met → Option Header → Option Header
newest_of met None = None
newest_of met (Some header) = newest_header (open_blocks header met)

-- T4 drops a message now: of all whose T4 has run out, the one that has been open longest. This is the header of the
-- block that came last for it (SEMI E4, T4; that the oldest goes first is this profile's)
abbrev pub dropped_after : Receiver → List Met → ℕ → Option Header
dropped_after receiver met now =
    newest_of met (find (λ first. has_come now (deadline_of receiver first met)) (open_firsts met))

-- the same after these entries, the oldest first
abbrev pub dropped_at : Receiver → List FlowEntry → ℕ → Option Header
dropped_at receiver entries now = dropped_after receiver (met_of receiver (reverse entries)) now
