-- A kept list is walked over from its front, and carried out.
use Rattle.std.proofs.Common.{◌≡◌, refl, sym, ◌∙◌, ap, subst, Bool, true, false, cond, not, ◌==◌, ℕ, ◌+◌, ◌<◌, ◌≤◌, List, [], ◌∷◌, ◌++◌, length, take, drop, nat_lt, slice_index, Option, Some, None, All, Result, Ok, Err, append_assoc, arith}
use Rattle.std.proofs.lemmas.Bool.{eqb-true, false_from_ne_true, ltb-false}
use Rattle.std.proofs.lemmas.List.{append_cancel_left, append-nil, take-append-drop}
use Rattle.std.proofs.lemmas.List.Elements.{All-head, All-tail, filter_map-append}
use Rattle.std.proofs.Math.Seq.{drop-append_seam}
use Rattle.std.specs.Int.{w32, to_be_bytes}
use Rattle.std.specs.Prelude.{IsErr}
use Rattle.equipment_tables.specs.Tables.{TablesState}
use Rattle.message_end.specs.Ends.{printed}
use Rattle.message_flow.specs.declared.step.Note.{Note}
use Rattle.trace_log.specs.Text.{printed_note}
use Rattle.setup_store.specs.Entries.{AreBytesOf, Entry, IsEntry, behind_first, behind_head, body_length, break_of, bytes_of, ends_at, entries_in, entries_within, entry_bytes, first_by, first_in, has_room, head_break, with_first}
use Rattle.setup_store.specs.Kept.{kept}
use Rattle.setup_store.specs.Laws.{AreBytes, ListsAreReadAsSpelled}
use Rattle.spool_file.specs.declared.reading.NotSpool.{NotSpool}
use Rattle.tool_step.specs.Setup.{carried_line, carried_lines, entries_of, list_of, set_up, tables_with}

-- ---- what bytes stand for

whole : (read : Result (List Entry) NotSpool) → break_of read ≡ None → read ≡ Ok (entries_of read)
whole (Ok list) none = refl
whole (Err e) none = absurd (cc)

-- bytes without a break spell the list that is read of them
pub spells :
    (bytes : List ℕ) → ListsAreReadAsSpelled → AreBytes bytes → break_of (entries_in bytes) ≡ None
    → AreBytesOf (list_of bytes) bytes
spells bytes laws are none = laws.spelled (list_of bytes) bytes are (whole (entries_in bytes) none)

-- one that was spelled is read
pub is_list :
    (list : List Entry) (bytes : List ℕ) → ListsAreReadAsSpelled → AreBytesOf list bytes → list_of bytes ≡ list
is_list list bytes laws are =
    ap list_of (sym are.spelled) ∙ ap entries_of (laws.read list are.each)

-- behind one primary more, which was put to its bytes
module _ (list : List Entry) (primary : Entry) (bytes : List ℕ) (laws : ListsAreReadAsSpelled)
    (each : All IsEntry list) (is : IsEntry primary) (same : bytes ≡ bytes_of (kept list primary)) where
  are_kept : AreBytesOf (kept list primary) bytes
  are_kept = record { each = laws.stay list primary each is; spelled = sym same }

  pub kept_list : list_of bytes ≡ kept list primary
  kept_list = is_list (kept list primary) bytes laws are_kept

  pub kept_bytes : AreBytesOf (list_of bytes) bytes
  kept_bytes = subst (λ (l : List Entry). AreBytesOf l bytes) (sym kept_list) are_kept

-- ---- the entry in front

some_long : {A : Type 0} (x : A) (xs : List A) → (length (x ∷ xs) == 0) ≡ false
some_long x xs = false_from_ne_true (length (x ∷ xs) == 0) (λ e. omega (arith, eqb-true (length (x ∷ xs)) 0 e))

-- the first of the entries that are read of bytes is the one in front
front_is :
    (entry : Entry) (others : List Entry) (x : Entry × List ℕ) → ListsAreReadAsSpelled → All IsEntry (entry ∷ others)
    → first_in (length (bytes_of (entry ∷ others))) (bytes_of (entry ∷ others)) ≡ Ok x → x.0 ≡ entry
front_is entry others x laws each first =
    go (entries_within (length tail) (length bytes) x.1)
    (sym (ap (λ b. cond b (Ok []) (behind_first (entries_within (length tail) (length bytes))
    (first_in (length bytes) bytes))) (some_long entry.stream tail)
    ∙ ap (behind_first (entries_within (length tail) (length bytes))) first)
    ∙ laws.read (entry ∷ others) each)
  where
    bytes : List ℕ
    bytes = bytes_of (entry ∷ others)

    tail : List ℕ
    tail = entry.function ∷ (to_be_bytes w32 (length entry.body) ++ entry.body) ++ bytes_of others

    go : (r : Result (List Entry) NotSpool) → with_first x.0 r ≡ Ok (entry ∷ others) → x.0 ≡ entry
    go (Ok list) is = cc
    go (Err e) is = absurd (cc)

-- an entry takes its head and its body
cut :
    (total : ℕ) (bytes : List ℕ) (x : Entry × List ℕ) → first_in total bytes ≡ Ok x
    → x.0.body ++ x.1 ≡ drop 6 bytes
cut total bytes x first = go (head_break total bytes) first
  where
    rest : List ℕ
    rest = drop 6 bytes

    n : ℕ
    n = body_length bytes

    parts : (b : Bool)
        → cond b (Err (ends_at total)) (Ok (
          record { stream = slice_index bytes 0; function = slice_index bytes 1; body = take n rest },
          drop n rest,
        ))
        ≡ Ok x → x.0.body ++ x.1 ≡ rest
    parts true is = absurd (cc)
    parts false is =
        let same : ◌≡◌ {A = Entry × List ℕ} (
          record { stream = slice_index bytes 0; function = slice_index bytes 1; body = take n rest },
          drop n rest,
        ) x = cc in
        ap (λ (y : Entry × List ℕ). y.0.body ++ y.1) (sym same) ∙ take-append-drop n rest

    go : (found : Option NotSpool) → first_by found total bytes ≡ Ok x → x.0.body ++ x.1 ≡ rest
    go (Some e) is = absurd (cc)
    go None is = parts (nat_lt (length rest) n) is

behind_six : (entry : Entry) (rest : List ℕ) → drop 6 (entry_bytes entry ++ rest) ≡ entry.body ++ rest
behind_six entry rest =
    ap (drop 4) (append_assoc (to_be_bytes w32 (length entry.body)) entry.body rest)
    ∙ drop-append_seam (to_be_bytes w32 (length entry.body)) (entry.body ++ rest)

-- what is left of a list behind the entry that was read in front
pub record IsFirst (left : List Entry) (x : Entry × List ℕ) : Type 0 where
  pub others : List Entry
  pub is : left ≡ x.0 ∷ others
  pub are : AreBytesOf others x.1

pub first_left :
    (left : List Entry) (rest : List ℕ) (x : Entry × List ℕ) → ListsAreReadAsSpelled → AreBytesOf left rest
    → first_in (length rest) rest ≡ Ok x → IsFirst left x
first_left [] rest x laws are first =
    let none : first_in 0 [] ≡ Ok x = ap (λ (l : List ℕ). first_in (length l) l) are.spelled ∙ first in
    absurd (cc)
first_left (e ∷ others) rest x laws are first =
    let there = ap (λ (l : List ℕ). first_in (length l) l) are.spelled ∙ first in
    let same = front_is e others x laws are.each there in record {
      others = others;
      is = ap (λ (y : Entry). y ∷ others) (sym same);
      are = record {
        each = All-tail IsEntry e others are.each;
        spelled =
            sym
            (append_cancel_left e.body x.1 (bytes_of others)
            (ap (λ (y : Entry). y.body ++ x.1) (sym same)
            ∙ cut (length (bytes_of (e ∷ others))) (bytes_of (e ∷ others)) x there ∙ behind_six e (bytes_of others)));
      };
    }

-- where no entry stands in front, none is left
pub none_left :
    (left : List Entry) (rest : List ℕ) → ListsAreReadAsSpelled → AreBytesOf left rest
    → IsErr (first_in (length rest) rest) → left ≡ []
none_left [] rest laws are none = refl
none_left (e ∷ others) rest laws are none =
    absurd (go (first_in (length bytes) bytes)
    (subst (λ (l : List ℕ). IsErr (first_in (length l) l)) (sym are.spelled) none)
    (sym (ap (λ b. cond b (Ok []) (behind_first (entries_within (length tail) (length bytes))
    (first_in (length bytes) bytes))) (some_long e.stream tail))
    ∙ laws.read (e ∷ others) are.each))
  where
    bytes : List ℕ
    bytes = bytes_of (e ∷ others)

    tail : List ℕ
    tail = e.function ∷ (to_be_bytes w32 (length e.body) ++ e.body) ++ bytes_of others

    go : (r : Result (Entry × List ℕ) NotSpool) → IsErr r
        → behind_first (entries_within (length tail) (length bytes)) r ≡ Ok (e ∷ others) → ⊥
    go (Ok x) err is = cc
    go (Err broken) err is = cc

-- ---- what is left to be counted, and to be carried out

-- so many entries were counted, and these are left
pub record IsCounted (list : List Entry) (count : ℕ) (rest : List ℕ) : Type 0 where
  pub left : List Entry
  pub are : AreBytesOf left rest
  pub so_far : count + length left ≡ length list
  pub few : count + length rest ≤ 262144

at_most : (bytes : List ℕ) → has_room bytes ≡ true → length bytes ≤ 262144
at_most bytes room = ltb-false 262144 (length bytes) (not_true (nat_lt 262144 (length bytes)) room)
  where
    not_true : (b : Bool) → not b ≡ true → b ≡ false
    not_true false is = refl
    not_true true is = absurd (cc)

pub counts_from :
    (list : List Entry) (bytes : List ℕ) → AreBytesOf list bytes → has_room bytes ≡ true → IsCounted list 0 bytes
counts_from list bytes are room =
    let few = at_most bytes room in record { left = list; are = are; so_far = omega arith; few = omega (arith, few) }

module _ (list : List Entry) (count : ℕ) (rest : List ℕ) (laws : ListsAreReadAsSpelled)
    (so : IsCounted list count rest) where
  pub one_counted :
      (x : Entry × List ℕ) → first_in (length rest) rest ≡ Ok x → length x.1 < length rest
      → IsCounted list (count + 1) x.1
  one_counted x read shorter =
      let one = first_left so.left rest x laws so.are read in record {
        left = one.others;
        are = one.are;
        so_far =
            let all = so.so_far in let long = ap (λ (l : List Entry). length l) one.is in omega (arith, all, long);
        few = let few = so.few in omega (arith, few, shorter);
      }

  pub all_counted : IsErr (first_in (length rest) rest) → count ≡ length list
  all_counted none =
      let all = so.so_far in
      let end = ap (λ (l : List Entry). length l) (none_left so.left rest laws so.are none) in omega (arith, all, end)

-- the tables and the notes by now lead to those of the whole list
pub record IsCarried (list : List Entry) (first : TablesState) (noted : List Note) (t : TablesState) (notes : List Note)
    (rest : List ℕ) : Type 0 where
  pub left : List Entry
  pub are : AreBytesOf left rest
  pub tables : set_up t left ≡ set_up first list
  pub lines : notes ++ printed (carried_lines t left) ≡ noted ++ printed (carried_lines first list)
  pub few : length rest ≤ 262144

pub carries_from :
    (list : List Entry) (first : TablesState) (noted : List Note) (bytes : List ℕ) → AreBytesOf list bytes
    → has_room bytes ≡ true → IsCarried list first noted first noted bytes
carries_from list first noted bytes are room =
    record { left = list; are = are; tables = refl; lines = refl; few = at_most bytes room }

module _ (list : List Entry) (first : TablesState) (noted : List Note) (t : TablesState) (notes : List Note)
    (rest : List ℕ) (laws : ListsAreReadAsSpelled) (so : IsCarried list first noted t notes rest) where
  pub one_carried :
      (x : Entry × List ℕ) (next : TablesState) (more : List Note)
      → first_in (length rest) rest ≡ Ok x → length x.1 < length rest → next ≡ tables_with t x.0
      → more ≡ notes ++ printed (carried_line t x.0 ∷ [])
      → IsCarried list first noted next more x.1
  one_carried x next more read shorter tables lines =
      let one = first_left so.left rest x laws so.are read in
      let behind = printed (carried_lines (tables_with t x.0) one.others) in record {
        left = one.others;
        are = one.are;
        tables =
            ap (λ (s : TablesState). set_up s one.others) tables
            ∙ ap (λ (l : List Entry). set_up t l) (sym one.is) ∙ so.tables;
        lines =
            ap (λ (s : TablesState). more ++ printed (carried_lines s one.others)) tables
            ∙ ap (λ (l : List Note). l ++ behind) lines
            ∙ append_assoc notes (printed (carried_line t x.0 ∷ [])) behind
            ∙ ap (λ (l : List Note). notes ++ l)
            (sym (filter_map-append printed_note (carried_line t x.0 ∷ [])
            (carried_lines (tables_with t x.0) one.others)))
            ∙ ap (λ (l : List Entry). notes ++ printed (carried_lines t l)) (sym one.is) ∙ so.lines;
        few = let few = so.few in omega (arith, few, shorter);
      }

  pub all_carried :
      IsErr (first_in (length rest) rest)
      → (t ≡ set_up first list) × (notes ≡ noted ++ printed (carried_lines first list))
  all_carried none =
      let end = none_left so.left rest laws so.are none in (
        ap (λ (l : List Entry). set_up t l) (sym end) ∙ so.tables,
        sym (append-nil notes) ∙ ap (λ (l : List Entry). notes ++ printed (carried_lines t l)) (sym end) ∙ so.lines,
      )
