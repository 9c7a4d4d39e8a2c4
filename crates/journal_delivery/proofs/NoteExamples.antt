-- The worked notes of a host that keeps its journal, and of some that don't.
use Rattle.std.specs.Prelude.{◌≡◌, ◌<◌, ◌≤◌, ◌⊎◌, zero, suc, ℕ, Bool, true, false, List, [], ◌∷◌, ◌++◌, drop, length, Option, Some, None, option_to_list, refl}
use Rattle.std.specs.List.{filter_map}
use Rattle.std.proofs.Common.{ap, sym, subst, ◌∙◌, append-nil, arith, inl, inr}
use Rattle.message_end.specs.Own.{Has}
use Rattle.trace_log.specs.Log.{Happening}
use Rattle.trace_log.specs.Names.{Spooled}
use Rattle.spool_law.specs.Journal.{as_stored, entry_of, nothing_leaves}
use Rattle.spool_law.specs.Shelf.{IsFoundOf, KeepsSpoolFrom, stored_if}
use Rattle.spool_delivery.proofs.Found.{too-few}
use Rattle.journal_delivery.specs.Worked.{listed_report}
use Rattle.journal_delivery.specs.WorkedNotes.{FindsNothingElse, FindsWhatIsListed, cut_second, first_entry, listed_first, second_entry, second_record, short_entry, three_slots}

abbrev Entries : Type 0
Entries = List (ℕ × Spooled)

abbrev Keeps : Entries → List Happening → Type 0
Keeps held notes = KeepsSpoolFrom (nothing_leaves three_slots) held (filter_map as_stored notes)

-- ---- numbers go on

below-one : (n : ℕ) (first : ℕ × Spooled) → first.0 < n → (one : ℕ × Spooled) → Has (first ∷ []) one → one.0 < n
below-one n first less one (inl same) = subst (λ (at : ℕ × Spooled). at.0 < n) (sym same) less
below-one n first less one (inr none) = absurd none

below-two : (n : ℕ) (first second : ℕ × Spooled) → first.0 < n → second.0 < n → (one : ℕ × Spooled)
    → Has (first ∷ second ∷ []) one → one.0 < n
below-two n first second less later one (inl same) = subst (λ (at : ℕ × Spooled). at.0 < n) (sym same) less
below-two n first second less later one (inr has) = below-one n second later one has

first-kept : Keeps [] listed_first
first-kept = (
  record { message = entry_of listed_report; is = refl },
  (
    record {
      rest = record { none_stored = refl; none_leaves = refl };
      above = λ one none. absurd none;
      room = refl;
    },
    (refl, tt),
  ),
)

cut-kept : Keeps [] cut_second
cut-kept = (
  record {
    rest = record { none_stored = refl; none_leaves = refl };
    above = λ one has. below-one 1 first_entry (omega arith) one has;
    room = refl;
  },
  first-kept,
)

pub finds-what-is-listed : FindsWhatIsListed
finds-what-is-listed = record {
  both = (
    record { message = entry_of listed_report; is = refl },
    (
      record {
        rest = record { none_stored = refl; none_leaves = refl };
        above = λ one has. below-two 2 first_entry second_entry (omega arith) (omega arith) one has;
        room = refl;
      },
      (record { missing = 0; stored = true; at_most = omega arith; is = refl }, cut-kept),
    ),
  );
  first = (
    record { message = entry_of second_record; is = refl },
    (
      record {
        rest = record { none_stored = refl; none_leaves = refl };
        above = λ one has. below-one 1 first_entry (omega arith) one has;
        room = refl;
      },
      (record { missing = 0; stored = false; at_most = omega arith; is = refl }, cut-kept),
    ),
  );
  short = (
    record { message = entry_of listed_report; is = refl },
    (
      record {
        rest = record { none_stored = refl; none_leaves = refl };
        above = λ one has. below-one 6 short_entry (omega arith) one has;
        room = refl;
      },
      (refl, tt),
    ),
  );
}

-- ---- what a start finds else

-- nothing leaves: all that stood, and what was being listed or not
found-was : (stands : Entries) (storing : Option (ℕ × Spooled)) (found : Entries)
    → IsFoundOf stands storing None found → (found ≡ stands ++ option_to_list storing) ⊎ (found ≡ stands)
found-was stands storing found is = go is.missing is.stored is.at_most is.is
  where
    go : (missing : ℕ) (stored : Bool) → missing ≤ 0 → found ≡ drop missing stands ++ stored_if stored storing
        → (found ≡ stands ++ option_to_list storing) ⊎ (found ≡ stands)
    go zero true few same = inl same
    go zero false few same = inr (same ∙ append-nil stands)
    go (suc missing) stored few same = absurd (too-few missing few)

apart : (one other : ℕ) → (one < other) ⊎ (other < one) → one ≡ other → ⊥
apart one other (inl less) is = omega (arith, less, is)
apart one other (inr less) is = omega (arith, less, is)

abbrev first_number : Entries → ℕ
first_number [] = 0
first_number (one ∷ rest) = one.0

abbrev first_length : Entries → ℕ
first_length [] = 0
first_length (one ∷ rest) = length one.1.body

abbrev FoundLast : Entries → Type 0
FoundLast found = IsFoundOf (first_entry ∷ []) (Some second_entry) None found

finds-some : FoundLast [] → ⊥
finds-some is = go (found-was (first_entry ∷ []) (Some second_entry) [] is)
  where
    go : ([] ≡ first_entry ∷ second_entry ∷ []) ⊎ ([] ≡ first_entry ∷ []) → ⊥
    go (inl same) = apart 0 2 (inl (omega arith)) (ap length same)
    go (inr same) = apart 0 1 (inl (omega arith)) (ap length same)

finds-in-order : FoundLast (second_entry ∷ first_entry ∷ []) → ⊥
finds-in-order is = go (found-was (first_entry ∷ []) (Some second_entry) (second_entry ∷ first_entry ∷ []) is)
  where
    go : (second_entry ∷ first_entry ∷ [] ≡ first_entry ∷ second_entry ∷ [])
        ⊎ (second_entry ∷ first_entry ∷ [] ≡ first_entry ∷ []) → ⊥
    go (inl same) = apart 1 0 (inr (omega arith)) (ap first_number same)
    go (inr same) = apart 1 0 (inr (omega arith)) (ap first_number same)

finds-entries : FoundLast ((0, record { stream = 6; function = 11; body = 65 ∷ [] }) ∷ []) → ⊥
finds-entries is = go (found-was (first_entry ∷ []) (Some second_entry) bare is)
  where
    bare : Entries
    bare = (0, record { stream = 6; function = 11; body = 65 ∷ [] }) ∷ []

    go : (bare ≡ first_entry ∷ second_entry ∷ []) ⊎ (bare ≡ first_entry ∷ []) → ⊥
    go (inl same) = apart 1 2 (inl (omega arith)) (ap length same)
    go (inr same) = apart 1 5 (inl (omega arith)) (ap first_length same)

finds-listed : IsFoundOf (first_entry ∷ []) None None (first_entry ∷ second_entry ∷ []) → ⊥
finds-listed is = go (found-was (first_entry ∷ []) None (first_entry ∷ second_entry ∷ []) is)
  where
    go : (first_entry ∷ second_entry ∷ [] ≡ first_entry ∷ [])
        ⊎ (first_entry ∷ second_entry ∷ [] ≡ first_entry ∷ []) → ⊥
    go (inl same) = apart 2 1 (inr (omega arith)) (ap length same)
    go (inr same) = apart 2 1 (inr (omega arith)) (ap length same)

none-some : (one : ℕ × Spooled) → Some one ≡ None → ⊥
none-some one is = cc

no-room : false ≡ true → ⊥
no-room is = cc

pub finds-nothing-else : FindsNothingElse
finds-nothing-else = record {
  none = λ keeps. finds-some keeps.0;
  without = λ keeps. finds-some keeps.0;
  turned = λ keeps. finds-in-order keeps.0;
  unlisted = λ keeps. finds-listed keeps.0;
  bare = λ keeps. finds-entries keeps.0;
  anew = λ keeps. less-not 0 (keeps.1.0.above first_entry (inl refl));
  at_once = λ keeps. none-some second_entry keeps.0.rest.none_stored;
  full = λ keeps. no-room keeps.0.room;
  unheld = λ keeps. apart 1 0 (inr (omega arith)) (ap length keeps.0);
}
  where
    less-not : (n : ℕ) → n < n → ⊥
    less-not n less = omega (arith, less)
