-- The numbers of a journal without gaps, and the slots that its messages take.
use Rattle.std.proofs.Common.{◌≡◌, refl, ap, subst, ◌∙◌, arith, inl, inr, ◌+◌, ◌^◌, ◌&&◌, ◌<◌, ◌≤◌, nat_le, nat_lt, Bool, true, false, ℕ, List, [], ◌∷◌, ◌++◌, length, Some, None, sym, if◌then◌else◌}
use Rattle.std.proofs.lemmas.Bool.Decides.{nat_tests}
use Rattle.std.proofs.lemmas.List.Sums.{sum_by-cons, sum_by_push}
use Rattle.std.specs.List.{sum_by}
use Rattle.gem_spool.specs.declared.count.Count.{Count}
use Rattle.gem_spool.specs.Standing.{count_in}
use Rattle.gem_spool.proofs.Stays.{chain_sum}
use Rattle.host_journal.specs.Fitting.{fit_by}
use Rattle.host_journal.specs.declared.listing.Fit.TheVariants as fit
use Rattle.journal_law.specs.Kept.{FilesHaveNoGap, room_in, size_of}
use Rattle.journal_node.specs.Journal.{fit_of, standing_of_file}
use Rattle.message_end.specs.Own.{Has}
use Rattle.spool_file.specs.Area.{first_of, next_of}
use Rattle.spool_file.specs.File.{SpoolFile, file_in, floor_in}
use Rattle.spool_file.specs.Run.{IsChainFrom}
use Rattle.spool_file.specs.Sizes.{is_too_long, slots_for}
use Rattle.spool_file.specs.Slot.{Message, width}
use Rattle.spool_file.proofs.BodySizes.{some_slots, within_body}
use Rattle.spool_file.proofs.Runs.{chain_last, chain_total, chain_up}
use Rattle.spool_file.proofs.Wholes.{sound_kept}
use Rattle.spool_law.specs.Journal.{entry_of}
use Rattle.spool_works.specs.Found.{first_in, found_in, spooled_of}
use Rattle.trace_log.specs.Names.{Record, Spooled}

-- a message with the next number goes behind all
pub gapless-behind :
    (floor : ℕ) (list : List Message) (one : Message)
    → IsChainFrom (first_of floor list) (first_of floor list + sum_by width list) list
    → one.number ≡ first_of floor list + sum_by width list
    → IsChainFrom (first_of floor (list ++ one ∷ []))
    (first_of floor (list ++ one ∷ []) + sum_by width (list ++ one ∷ [])) (list ++ one ∷ [])
gapless-behind floor [] one chain is = (refl, omega arith)
gapless-behind floor (message ∷ list) one chain is =
    let more = sum_by_push width (message ∷ list) one in
    let next : message.number + sum_by width (message ∷ list) + width one
    ≡ message.number + sum_by width (message ∷ list ++ one ∷ []) = omega (arith, more) in
    subst (λ (n : ℕ). IsChainFrom message.number n (message ∷ list ++ one ∷ [])) next
    (chain_last message.number (message.number + sum_by width (message ∷ list)) (message ∷ list) one chain is)

-- what the tests of a file's bytes have found is that list
pub files-gapless : FilesHaveNoGap
files-gapless bytes sound =
    let list = (file_in bytes).list in
    let first = first_in (file_in bytes) in
    let next = next_of (floor_in bytes) list in
    let chain = (sound_kept bytes sound).kept.chain in
    let sum = chain_sum first next list chain in
    let all = chain_total first next list chain in
    let is : next ≡ first + sum_by width list = omega (arith, sum, all) in
    subst (λ (n : ℕ). IsChainFrom first n list) is chain

-- each number lies below the next one
pub all-below :
    (first next : ℕ) (list : List Message) → IsChainFrom first next list → (one : ℕ × Spooled)
    → Has (found_in list) one → one.0 < next
all-below first next [] chain one has = absurd has
all-below first next (message ∷ list) chain one (inl same) =
    let up = chain_up (first + width message) next list chain.1 in
    let some = some_slots (length message.body) in
    let number = ap (λ (x : ℕ × Spooled). x.0) same in
    let first_is = chain.0 in
    omega (arith, up, some, number, first_is)
all-below first next (message ∷ list) chain one (inr has) =
    all-below (first + width message) next list chain.1 one has

-- what is found takes as many slots as the messages
abbrev size-at : ℕ × Spooled → ℕ
size-at one = size_of one.1

found-sizes : (list : List Message) → sum_by size-at (found_in list) ≡ sum_by width list
found-sizes [] = refl
found-sizes (message ∷ list) =
    sum_by-cons size-at (message.number, spooled_of message) (found_in list)
    ∙ ap (λ (n : ℕ). width message + n) (found-sizes list) ∙ sym (sum_by-cons width message list)

-- a record that can be listed has room beside all that stand
module _ (file : SpoolFile) (listed : Record) where
  abbrev long : ℕ
  long = length (entry_of listed).body

  abbrev count : Count
  count = count_in (standing_of_file file)

  abbrev HasRoom : Type 0
  HasRoom = room_in file.slots (found_in file.list) (entry_of listed) ≡ true

  pub has-room : fit_of (standing_of_file file) listed ≡ fit.Fits → HasRoom
  has-room = by-length (is_too_long file.version file.slots long) refl
    where
      by-room :
          long ≤ 1048576 → (full spent : Bool) → nat_lt file.slots (count.used + slots_for long) ≡ full
          → (if full then fit.Full else (if spent then fit.NumbersSpent else fit.Fits)) ≡ fit.Fits → HasRoom
      by-room short true spent over fits = absurd (cc)
      by-room short false spent free fits =
          let sizes = found-sizes file.list in
          let brief : nat_le long 1048576 ≡ true = grind (arith, nat_tests, short) in
          let roomy : nat_le (sum_by size-at (found_in file.list) + slots_for long) file.slots ≡ true =
          grind (arith, nat_tests, free, sizes) in
          ap (λ (b : Bool). b && nat_le (sum_by size-at (found_in file.list) + slots_for long) file.slots) brief ∙ roomy

      by-length :
          (too : Bool) → is_too_long file.version file.slots long ≡ too
          → fit_by count (if too then None else Some (slots_for long)) ≡ fit.Fits → HasRoom
      by-length true is fits = absurd (cc)
      by-length false is fits =
          by-room (within_body file.version file.slots long is) (nat_lt file.slots (count.used + slots_for long))
          (nat_lt (2 ^ 63) (count.next + slots_for long)) refl fits
