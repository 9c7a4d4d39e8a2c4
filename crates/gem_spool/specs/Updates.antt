-- A work as updates of the file: its calls in their order, and what a loss of power leaves at each (this profile).
use Rattle.std.specs.Prelude.{ℕ, ◌+◌, ◌⊎◌, Bool, not, List, [], ◌∷◌, ◌++◌, fold, map}
use Rattle.disk_base.specs.Calls.{DiskCall, read_call, sync_call, write_call}
use Rattle.disk_base.specs.declared.cut.CutChoice.{CutChoice}
use Rattle.disk_base.specs.declared.disk.DiskAnswer.TheVariants.{Done}
use Rattle.gate_cell.specs.Cell.{Cell, copy_bytes, gate_byte, spare_place}
use Rattle.gem_spool.specs.Standing.{Standing}
use Rattle.spool_file.specs.File.{SpoolFile, StandsFor}
use Rattle.spool_slots.specs.Calls.{synced}
use Rattle.spool_slots.specs.Files.{with_gates}
use Rattle.spool_slots.specs.Losses.{closes, file_left, gate_counts, gates_left, names_spare, opens}

-- ---- the updates of a work

-- a byte is written that commits an update, and synced: its place, itself, whether a byte there means that the update
-- is made, and what stands behind
pub record Gate : Type 0 where
  pub at : ℕ
  pub byte : ℕ
  pub means : ℕ → Bool
  pub behind : Standing

-- gates of slots that hold no message are closed, one after the other, and synced, where there are any: the writes,
-- which slots the first m of them are of, and what stands behind
pub record Closing : Type 0 where
  pub calls : List DiskCall
  pub marks : (m : ℕ) → List Bool
  pub behind : Standing

-- what commits an update
pub data Commit : Type 0 where
  Nothing : Commit
  ByGate : (gate : Gate) → Commit
  ByGates : (gates : Closing) → Commit

-- calls that change nothing which stands, and perhaps what commits them
pub record Update : Type 0 where
  pub early : List DiskCall
  pub commit : Commit

abbrev pub only_early : List DiskCall → Update
only_early calls = record { early = calls; commit = Nothing }

abbrev pub gated : List DiskCall → Gate → Update
gated calls gate = record { early = calls; commit = ByGate gate }

-- the gate of a slot that begins at a place
abbrev pub opening : ℕ → Standing → Gate
opening at behind = record { at = at; byte = 90; means = opens; behind = behind }

abbrev pub closing : ℕ → Standing → Gate
closing at behind = record { at = at; byte = 0; means = closes; behind = behind }

-- calls that are done
abbrev pub reads : ℕ → ℕ → DiskCall
reads at size = read_call at size Done

abbrev pub writes : ℕ → List ℕ → DiskCall
writes at bytes = write_call at bytes Done

abbrev pub syncs : DiskCall
syncs = sync_call Done

-- another value is written over the copy of a cell that doesn't count, and then the cell's gate, which names this copy
abbrev pub cell_update : (at : ℕ) → Cell → ℕ → Standing → Update
cell_update at cell value behind =
    gated (reads (at + 16) 1 ∷ writes (spare_place at cell) (copy_bytes value) ∷ syncs ∷ [])
    (record {
      at = at + 16;
      byte = gate_byte (not cell.second);
      means = names_spare cell;
      behind = behind;
    })

-- ---- what is read off them

-- the calls of the disk
abbrev pub commit_calls : Commit → List DiskCall
commit_calls Nothing = []
commit_calls (ByGate gate) = writes gate.at (gate.byte ∷ []) ∷ syncs ∷ []
commit_calls (ByGates gates) = synced gates.calls

abbrev pub calls_in : List Update → List DiskCall
calls_in [] = []
calls_in (update ∷ updates) = update.early ++ commit_calls update.commit ++ calls_in updates

-- what stands behind an update
abbrev pub behind_commit : Standing → Commit → Standing
behind_commit st Nothing = st
behind_commit st (ByGate gate) = gate.behind
behind_commit st (ByGates gates) = gates.behind

abbrev pub behind_update : Standing → Update → Standing
behind_update st update = behind_commit st update.commit

abbrev pub behind_updates : Standing → List Update → Standing
behind_updates = fold behind_update

-- bytes stand for what is there before an update, or for that with other gates open while some are closed
abbrev pub IsAmidCommit : Standing → Commit → List ℕ → Type 0
IsAmidCommit st Nothing image = StandsFor image st.file
IsAmidCommit st (ByGate gate) image = StandsFor image st.file
IsAmidCommit st (ByGates gates) image = (open_gates : List Bool) × StandsFor image (with_gates open_gates st.file)

-- so of some updates, or for what some first ones of them make
abbrev pub IsAmidUpdates : Standing → List Update → List ℕ → Type 0
IsAmidUpdates st [] image = StandsFor image st.file
IsAmidUpdates st (update ∷ updates) image =
    IsAmidCommit st update.commit image ⊎ IsAmidUpdates (behind_update st update) updates image

-- the file that is left, by what becomes of what isn't settled
abbrev pub Left : Type 0
Left = CutChoice → SpoolFile

-- nothing of an update is done, whatever becomes of the disk
abbrev pub stays : Standing → Left
stays st choice = st.file

-- the gate was written, or is to be synced: it decides, by what its byte means
abbrev pub by_gate : (ℕ → Bool) → (done undone : Standing) → Left
by_gate means done undone choice = file_left (gate_counts choice means) done.file undone.file

-- gates of these slots were closed, and none of that is synced: the cut decides of each, in the order of their places
abbrev pub by_gates : List Bool → Standing → Left
by_gates marks st choice = with_gates (gates_left choice marks st.file.gates) st.file

-- at each of some calls that do so, behind the first m of them
abbrev pub closing_losses : Standing → (ℕ → List Bool) → (m : ℕ) → List DiskCall → List Left
closing_losses st marks m [] = []
closing_losses st marks m (call ∷ calls) = by_gates (marks (m + 1)) st ∷ closing_losses st marks (m + 1) calls

abbrev pub commit_losses : Standing → Commit → List Left
commit_losses st Nothing = []
commit_losses st (ByGate gate) = by_gate gate.means gate.behind st ∷ by_gate gate.means gate.behind st ∷ []
commit_losses st (ByGates gates) = closing_losses st gates.marks 0 (synced gates.calls)

-- what a loss leaves at each of the calls
abbrev pub losses_in : Standing → List Update → List Left
losses_in st [] = []
losses_in st (update ∷ updates) =
    map (λ call. stays st) update.early ++ commit_losses st update.commit ++ losses_in (behind_update st update) updates
