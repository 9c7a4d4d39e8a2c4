-- What the host asks for, as its bytes are put.
use Rattle.std.proofs.Common.{◌≡◌, ℕ, true, List, [], ◌∷◌, ◌++◌, ap, sym, ◌∙◌, append_assoc}
use Rattle.line_schedule.specs.declared.event.Event.{Event}
use Rattle.line_schedule.specs.declared.event.Event.TheVariants as event
use Rattle.secs_items.specs.declared.item.Item.{Item}
use Rattle.secs_items.specs.Spelling.{shortest_spelling}
use Rattle.trace_log.specs.declared.commands.HostCommand.TheVariants as host
use Rattle.line_world.specs.Make.{asks_for, defines_its_report, enables_all, pairs_of, sends_all, unloads}
use Rattle.line_world.proofs.Bodies.{s2f33_bytes, s2f35_bytes, s2f37_bytes, s6f23_bytes, spelled-s2f33, spelled-s2f35, spelled-s2f37, spelled-s6f23}

-- a body of these bytes
abbrev pub asks : (stream function : ℕ) → List ℕ → List Event
asks stream function body = event.Host (host.Send stream function true body) ∷ event.Settle ∷ []

asked : (stream function : ℕ) (item : Item) (bytes : List ℕ) → shortest_spelling item ≡ bytes
    → asks stream function bytes ≡ asks_for stream function item
asked stream function item bytes is = ap (asks stream function) (sym is)

pub defined :
    (old first second new : List Event) → first ≡ old ++ asks 2 33 s2f33_bytes → second ≡ first ++ asks 2 35 s2f35_bytes
    → new ≡ second ++ asks 2 37 s2f37_bytes → new ≡ old ++ defines_its_report
defined old first second new one two three =
    three ∙ ap (λ (events : List Event). events ++ asks 2 37 s2f37_bytes) two
    ∙ ap (λ (events : List Event). (events ++ asks 2 35 s2f35_bytes) ++ asks 2 37 s2f37_bytes) one
    ∙ append_assoc (old ++ asks 2 33 s2f33_bytes) (asks 2 35 s2f35_bytes) (asks 2 37 s2f37_bytes)
    ∙ append_assoc old (asks 2 33 s2f33_bytes) (asks 2 35 s2f35_bytes ++ asks 2 37 s2f37_bytes)
    ∙ ap (λ (events : List Event). old ++ (events ++ (asks 2 35 s2f35_bytes ++ asks 2 37 s2f37_bytes)))
    (asked 2 33 (pairs_of 1 10 1) s2f33_bytes spelled-s2f33)
    ∙ ap (λ (events : List Event). old ++ (asks_for 2 33 (pairs_of 1 10 1) ++ (events ++ asks 2 37 s2f37_bytes)))
    (asked 2 35 (pairs_of 2 1 10) s2f35_bytes spelled-s2f35)
    ∙ ap (λ (events : List Event).
    old ++ (asks_for 2 33 (pairs_of 1 10 1) ++ (asks_for 2 35 (pairs_of 2 1 10) ++ events)))
    (asked 2 37 enables_all s2f37_bytes spelled-s2f37)

pub unloaded : (old new : List Event) → new ≡ old ++ asks 6 23 s6f23_bytes → new ≡ old ++ unloads
unloaded old new is =
    is ∙ ap (λ (events : List Event). old ++ events) (asked 6 23 sends_all s6f23_bytes spelled-s6f23)
