-- What is kept of one entry more.
use Rattle.std.proofs.Common.{◌≡◌, List, [], ◌∷◌, ◌++◌}
use Rattle.std.specs.Prelude.{None}
use Rattle.std.proofs.lemmas.List.Sums.{fold_push}
use Rattle.message_flow.specs.Entries.{FlowEntry, kept_after, next_kept}
use Rattle.message_flow.specs.Receiver.{Receiver}

pub kept_push :
    (receiver : Receiver) (entries : List FlowEntry) (entry : FlowEntry)
    → kept_after receiver (entries ++ entry ∷ []) ≡ next_kept receiver (kept_after receiver entries) entry
kept_push receiver entries entry =
    fold_push (next_kept receiver) (record { last = None; partials = [] }) entries entry
