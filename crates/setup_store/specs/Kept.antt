-- Which of the accepted primaries are kept (this profile): none that tells no more of the setup.
use Rattle.std.specs.Prelude.{◌≡◌, ◌==◌, ◌&&◌, ◌||◌, not, true, false, ℕ, Bool, List, [], ◌∷◌, ◌++◌, length, map, filter, nat_eq, Option, Some, None, if◌then◌else◌}
use Rattle.std.specs.List.{list_all, list_any}
use Rattle.std.specs.Option.{option_and_then, option_map_or}
use Rattle.gem_shapes.specs.Asked.{request_of}
use Rattle.gem_shapes.specs.declared.request.Request.{Request}
use Rattle.gem_shapes.specs.declared.request.Request.TheVariants as request
use Rattle.gem_shapes.specs.declared.request.TablesRequest.{TablesRequest}
use Rattle.gem_shapes.specs.declared.request.TablesRequest.TheVariants as tables_request
use Rattle.setup_store.specs.declared.change.Change.{Change}
use Rattle.setup_store.specs.declared.change.Change.TheVariants as change
use Rattle.setup_store.specs.Entries.{Entry}

-- what a request changes of the setup, if it is one of the six that do
abbrev pub change_of : TablesRequest → Option Change
change_of (tables_request.SetConstants list) = Some (change.Constants list)
change_of (tables_request.Define dataid list) = Some (change.Definitions list)
change_of (tables_request.Link dataid list) = Some (change.Linkings list)
change_of (tables_request.EnableEvents on ceids) = Some (change.Events on ceids)
change_of (tables_request.ReplaceRule list) = Some (change.Rule list)
change_of (tables_request.EnableAlarms on alid) = Some (change.Alarms on alid)
change_of _ = None

abbrev pub change_in : Request → Option Change
change_in (request.OfTables asked) = change_of asked
change_in _ = None

-- what an entry changes; nothing where its body isn't of its shape
abbrev pub change_by : Entry → Option Change
change_by entry = option_and_then change_in (request_of entry.stream entry.function entry.body)

abbrev pub alids_of : Option ℕ → List ℕ
alids_of (Some alid) = alid ∷ []
alids_of None = []

-- the identifiers that a change names: ECIDs of S2F15, CEIDs of S2F37, the ALID of S5F3
abbrev pub ids_of : Change → List ℕ
ids_of (change.Constants list) = map (λ e. e.0) list
ids_of (change.Definitions list) = []
ids_of (change.Linkings list) = []
ids_of (change.Events on ceids) = ceids
ids_of (change.Rule list) = []
ids_of (change.Alarms on alid) = alids_of alid

abbrev pub named_by : Entry → List ℕ
named_by entry = option_map_or ids_of (change_by entry) []

-- the same numbers, in any order and as often as they may
abbrev pub HasSame : List ℕ → List ℕ → Type 0
HasSame some others = (n : ℕ) → list_any (nat_eq n) some ≡ list_any (nat_eq n) others

-- there are others, and each is one of these
abbrev pub are_among : List ℕ → List ℕ → Bool
are_among ids others = not (length others == 0) && list_all (λ id. list_any (nat_eq id) ids) others

-- these are all that the entry names; where they are none, they stand for all
abbrev pub covers : List ℕ → Entry → Bool
covers ids old = (length ids == 0) || are_among ids (named_by old)

abbrev pub is_of : ℕ → ℕ → Entry → Bool
is_of stream function entry = entry.stream == stream && entry.function == function

-- An older entry tells no more behind this change: S2F33 without entries deletes all reports and links; S2F43 replaces
-- the whole rule; S2F15, S2F37 and S5F3 set all that one of the same function sets (SEMI E5).
abbrev pub takes_out : Change → Entry → Bool
takes_out (change.Constants list) old = is_of 2 15 old && are_among (map (λ e. e.0) list) (named_by old)
takes_out (change.Definitions list) old = (length list == 0) && (is_of 2 33 old || is_of 2 35 old)
takes_out (change.Linkings list) old = false
takes_out (change.Events on ceids) old = is_of 2 37 old && covers ceids old
takes_out (change.Rule list) old = is_of 2 43 old
takes_out (change.Alarms on alid) old = is_of 5 3 old && covers (alids_of alid) old

-- the change tells something itself, and not only that nothing is told
abbrev pub tells : Change → Bool
tells (change.Constants list) = not (length list == 0)
tells (change.Definitions list) = not (length list == 0)
tells (change.Linkings list) = not (length list == 0)
tells (change.Events on ceids) = true
tells (change.Rule list) = true
tells (change.Alarms on alid) = true

abbrev pub kept_by : Option Change → List Entry → Entry → List Entry
kept_by None list primary = list
kept_by (Some change) list primary =
    filter (λ old. not (takes_out change old)) list ++ (if tells change then primary ∷ [] else [])

-- what is kept after one more accepted primary, the oldest first
abbrev pub kept : List Entry → Entry → List Entry
kept list primary = kept_by (change_by primary) list primary
