-- What was read of a message, and what was put of it.
use Rattle.std.proofs.Common.{◌≡◌, ◌≢◌, refl, sym, ◌∙◌, ap, subst, ℕ, ◌+◌, ◌-◌, ◌*◌, ◌%◌, ◌≤◌, List, ◌++◌, codes}
use Rattle.std.proofs.Common.{Option, Some, append_assoc, arith, inl, inr}
use Rattle.std.proofs.lemmas.Option.{get_or_from_slice_get, slice_get_within}
use Rattle.std.specs.List.{All}
use Rattle.hex.specs.Hex.{encode_upper}
use Rattle.disk_base.specs.Story.{Story, bytes_at}
use Rattle.disk_base.specs.declared.disk.Disk as trait
use Rattle.disk_base.specs.declared.disk.DiskAnswer.TheVariants as answer
use Rattle.gl_base.specs.Sink.{SinkHealth}
use Rattle.gl_base.specs.Told.{SinkTold}
use Rattle.gl_base.proofs.Appending.{told}
use Rattle.spool_show.specs.Showing.{AreInHand, AreRead, HasShown, IsOfList, IsSize, Puts, PutsText, line_of}
use Rattle.spool_show.specs.Showing.{message_of, piece_of, pieces_of}
use Rattle.spool_show.specs.Text.{piece_in, start_text}
use Rattle.spool_show.specs.declared.spool_end.SpoolEnd.{SpoolEnd}
use Rattle.spool_show.specs.declared.spool_end.SpoolEnd.TheVariants as end
use Rattle.spool_show.proofs.MessageLines.{line_whole, no_piece, one_piece, piece_read, pieces_front, size_read}
use Rattle.spool_show.proofs.Putting.{none_put, puts_as, puts_front, puts_then, shown_none, shown_on, text_put}
use Rattle.spool_file.specs.File.{file_in, slots_in}
use Rattle.spool_file.specs.Sizes.{slots_for}
use Rattle.spool_file.specs.Slot.{Message, slot_place, width}
use Rattle.spool_file.specs.declared.recovery.Known.{Known}
use Rattle.spool_file.specs.declared.slot.SlotHead.{SlotHead}
use Rattle.spool_slots.specs.Changes.{HasHead, HasLooked, HasSlot, IsFound, IsMissed, Looks}
use Rattle.spool_slots.specs.Spool.{Rests, SpoolView, known_of}
use Rattle.spool_slots.specs.declared.states.OldestAnswer.TheVariants as look

module _ {D : Type 0} (members : trait.Ghosts D) (v : SpoolView D) where
  -- a slot was read
  pub looked : (w : SpoolView D) (k : ℕ) → HasLooked members v w k answer.Done → HasShown members v w end.Done
  looked w k is = record {
    same = is.same;
    told = is.told;
    same_disk = is.made.same_disk;
    count = is.made.calls.cause.same;
  }

  pub look_failed : (w : SpoolView D) (k : ℕ) → HasLooked members v w k answer.Failed →
      HasShown members v w end.DiskFailed
  look_failed w k is = record {
    same = is.same;
    told = is.told;
    same_disk = is.made.same_disk;
    count = is.made.calls.cause.rose;
  }

  module _ (rests : AreInHand (members.told v.disk) (known_of v)) where
    -- its bytes, by the slots of the file
    slot_read : (number : ℕ) (into : List ℕ) → HasSlot members v (number % v.slots) into → (s : Story) →
        members.told v.disk ≡ Some s → into ≡ bytes_at s.now.bytes (slot_place (number % slots_in s.now.bytes)) 4096
    slot_read number into has s is =
        has s is
        ∙ ap (λ (n : ℕ). bytes_at s.now.bytes (slot_place (number % n)) 4096) (rests s is).slots_are

    -- a further one has its piece
    pub piece_put : (number left : ℕ) (into : List ℕ) (out : SinkTold) (old new : List ℕ) (e : SpoolEnd) →
        HasSlot members v (number % v.slots) into → PutsText (encode_upper (piece_in left into)) out old new e →
        Puts (members.told v.disk) (piece_of left number) out old new e
    piece_put number left into out old new e has put =
        text_put (members.told v.disk) out old new (piece_of left number) (encode_upper (piece_in left into)) e
        (λ s is. piece_read s (rests s is).sound number left into (slot_read number into has s is)) put

    -- the first one of a message that was found
    pub found_read : (w : SpoolView D) (k number : ℕ) (into : List ℕ) (head : SlotHead) →
        HasLooked members v w k answer.Done → IsFound members v number into head →
        (s : Story) → members.told w.disk ≡ Some s → AreRead head into s
    found_read w k number into head read found s is =
        let told_is : members.told v.disk ≡ Some s = sym read.told ∙ is in
        let here = found.listed s told_is in (
          here.1,
          slot_read number into found.slot s told_is
              ∙ ap (λ (n : ℕ). bytes_at s.now.bytes (slot_place (n % slots_in s.now.bytes)) 4096) (sym here.0),
        )

    pub still_in_hand : (w : SpoolView D) (e : SpoolEnd) → HasShown members v w e →
        AreInHand (members.told w.disk) (known_of w)
    still_in_hand w e shown s is =
        subst (λ (k : Known). Rests s k) (sym (ap (λ (u : SpoolView D). known_of u) shown.same))
        (rests s (sym shown.told ∙ is))

    -- how many slots it takes
    pub size_found : (number : ℕ) (into : List ℕ) (head : SlotHead) (size : ℕ) → IsFound members v number into head →
        size ≡ slots_for head.len → 1 ≤ size → IsSize (members.told v.disk) number size
    size_found number into head size found size_is some = (
      some,
      λ s is. let here = found.listed s is in
          size_is ∙ subst (λ (n : ℕ). slots_for head.len ≡ width (message_of n s.now.bytes)) here.0
          (size_read s (rests s is).sound head here.1),
    )

  -- the number that was looked for is that of the head that was found
  pub number_found : (number : ℕ) (into : List ℕ) (head : SlotHead) → IsFound members v number into head →
      HasHead number into → head.number ≡ number
  number_found number into head found has = ap (λ (h : SlotHead). h.number) found.head_in ∙ has.1

  -- so what was put of the head's message was put of the number's
  pub put_of : (w : SpoolView D) (number : ℕ) (head : SlotHead) (out : SinkTold) (old new : List ℕ) (e : SpoolEnd) →
      HasShown members v w end.Done → head.number ≡ number →
      Puts (members.told w.disk) (line_of head.number) out old new e →
      Puts (members.told v.disk) (line_of number) out old new e
  put_of w number head out old new e shown is put =
      subst (λ (n : ℕ). Puts (members.told v.disk) (line_of n) out old new e) is
      (subst (λ (t : Option Story). Puts t (line_of head.number) out old new e) shown.told put)

  -- where no message has the number, none was wanted of it
  no_message : (number : ℕ) (bytes : List ℕ) → All (λ m. m.number ≡ number → ⊥) (file_in bytes).list →
      IsOfList number bytes → ⊥
  no_message number bytes none (m, place, got, here) =
      none place m (slice_get_within (file_in bytes).list place m got)
      (ap (λ (x : Message). x.number) (get_or_from_slice_get (file_in bytes).list place m m got) ∙ here)

  pub missed : (number : ℕ) {was : Option (List ℕ)} {a : SinkHealth} (page : List ℕ) → IsMissed members v number →
      ((s : Story) → members.told v.disk ≡ Some s → IsOfList number s.now.bytes) →
      Puts (members.told v.disk) (line_of number) (told was was a a) page page end.Done
  missed number page none there =
      none_put (members.told v.disk) (line_of number) page
      (λ s is. absurd (no_message number s.now.bytes (none s is) (there s is)))

  pub missed_size : (number size : ℕ) → IsMissed members v number →
      ((s : Story) → members.told v.disk ≡ Some s → IsOfList number s.now.bytes) → 1 ≤ size →
      IsSize (members.told v.disk) number size
  missed_size number size none there some =
      (some, λ s is. absurd (no_message number s.now.bytes (none s is) (there s is)))

  -- whether it was looked for on the disk or not
  pub missed_looked : (w : SpoolView D) (number : ℕ) (before into : List ℕ) →
      Looks members v w number before into look.Empty →
      HasShown members v w end.Done
  missed_looked w number before into (none, inl same) =
      subst (λ (u : SpoolView D). HasShown members v u end.Done) (sym same.0) (shown_none v)
  missed_looked w number before into (none, inr read) = looked w (number % v.slots) read.0

-- ---- the line

-- what went to the output leaves the spool as it was
pub shown_by : {D : Type 0} {members : trait.Ghosts D} (v w : SpoolView D) (text : List ℕ) (out : SinkTold)
    (old new : List ℕ) (e : SpoolEnd) → HasShown members v w end.Done → PutsText text out old new e →
    HasShown members v w e
shown_by v w text out old new end.Done is put = is
shown_by v w text out old new end.WriteFailed is put =
    record { same = is.same; told = is.told; same_disk = is.same_disk; count = is.count }
shown_by v w text out old new end.DiskFailed is put = absurd put
shown_by v w text out old new (end.NotSpool place) is put = absurd put

-- some of the further slots were read, and their pieces put
pub record ArePut {D : Type 0} (members : trait.Ghosts D) (v w : SpoolView D) (head : SlotHead) (some : ℕ)
    (out : SinkTold) (old new : List ℕ) : Type 0 where
  pub shown : HasShown members v w end.Done
  pub pieces : Puts (members.told v.disk) (pieces_of (head.len - 4081) (head.number + 1) some) out old new end.Done

pub put_none : {D : Type 0} {members : trait.Ghosts D} {was : Option (List ℕ)} {a : SinkHealth} (v : SpoolView D)
    (head : SlotHead) (page : List ℕ) → ArePut members v v head 0 (told was was a a) page page
put_none {members = members} v head page = record {
  shown = shown_none v;
  pieces = none_put (members.told v.disk) (pieces_of (head.len - 4081) (head.number + 1) 0) page
      (λ s is. no_piece (head.len - 4081) (head.number + 1) s.now.bytes);
}

module _ {D : Type 0} {members : trait.Ghosts D} {was mid : Option (List ℕ)} {a b : SinkHealth} (v w x : SpoolView D)
    (head : SlotHead) (some : ℕ) (old page : List ℕ) (rests : AreInHand (members.told v.disk) (known_of v))
    (so_far : ArePut members v w head some (told was mid a b) old page) (now : Option (List ℕ)) (c : SinkHealth)
    (new : List ℕ) where
  abbrev left : ℕ
  left = head.len - 4081

  abbrev from : ℕ
  from = head.number + 1

  module _ (here : ℕ) (is : here ≡ head.len - 4081 * (some + 1)) where
    -- one more, behind those
    behind : (e : SpoolEnd) →
        Puts (members.told w.disk) (piece_of here (head.number + (some + 1))) (told mid now b c) page new e →
        Puts (members.told v.disk)
        (λ bytes. pieces_of left from some bytes ++ piece_of (left - 4081 * some) (from + some) bytes)
        (told was now a c) old new e
    behind e put =
        let less : here ≡ left - 4081 * some = omega (arith, is) in
        let at : head.number + (some + 1) ≡ from + some = omega arith in
        puts_then now c (members.told v.disk) (pieces_of left from some) (piece_of (left - 4081 * some) (from + some)) old
        page new e so_far.pieces
        (subst (λ (n : ℕ). Puts (members.told v.disk) (piece_of n (from + some)) (told mid now b c) page new e) less
        (subst (λ (n : ℕ). Puts (members.told v.disk) (piece_of here n) (told mid now b c) page new e) at
        (subst (λ (t : Option Story). Puts t (piece_of here (head.number + (some + 1))) (told mid now b c) page new e)
        so_far.shown.told put)))

    pub put_more : HasShown members w x end.Done →
        Puts (members.told w.disk) (piece_of here (head.number + (some + 1))) (told mid now b c) page new end.Done →
        ArePut members v x head (some + 1) (told was now a c) old new
    put_more more put = record {
      shown = shown_on v w x end.Done so_far.shown more;
      pieces = puts_as (members.told v.disk) (told was now a c) old new
          (λ bytes. pieces_of left from some bytes ++ piece_of (left - 4081 * some) (from + some) bytes)
          (pieces_of left from (some + 1)) end.Done (λ s is. one_piece s (rests s is).sound left from some)
          (behind end.Done put);
    }

    -- it stops at this one
    pub put_stops : (all : ℕ) (e : SpoolEnd) → some + 1 ≤ all → e ≢ end.Done →
        Puts (members.told w.disk) (piece_of here (head.number + (some + 1))) (told mid now b c) page new e →
        Puts (members.told v.disk) (pieces_of left from all) (told was now a c) old new e
    put_stops all e within stopped put =
        puts_front (members.told v.disk) (told was now a c) old new
        (λ bytes. pieces_of left from some bytes ++ piece_of (left - 4081 * some) (from + some) bytes)
        (pieces_of left from all) e stopped
        (λ s is. let r = pieces_front s (rests s is).sound left from (some + 1) all within in
        (r.0, r.1 ∙ ap (λ (t : List ℕ). t ++ r.0) (sym (one_piece s (rests s is).sound left from some)))) (behind e put)

-- start, pieces and end make the line
module _ (before : Option Story) (known : Known) (rests : AreInHand before known) (head : SlotHead) (slot : List ℕ)
    (read : (s : Story) → before ≡ Some s → AreRead head slot s) where
  abbrev start : List ℕ → List ℕ
  start bytes = start_text head slot

  abbrev pieces : List ℕ → List ℕ
  pieces = pieces_of (head.len - 4081) (head.number + 1) (slots_for head.len - 1)

  whole : (s : Story) → before ≡ Some s →
      (start s.now.bytes ++ pieces s.now.bytes) ++ codes "\n" ≡ line_of head.number s.now.bytes
  whole s is = line_whole s (rests s is).sound head slot (read s is)

  pub start_stops : (out : SinkTold) (old new : List ℕ) (e : SpoolEnd) → e ≢ end.Done →
      PutsText (start_text head slot) out old new e → Puts before (line_of head.number) out old new e
  start_stops out old new e stopped put =
      puts_front before out old new start (line_of head.number) e stopped
      (λ s is. (
        pieces s.now.bytes ++ codes "\n",
        sym (whole s is) ∙ append_assoc (start s.now.bytes) (pieces s.now.bytes) (codes "\n"),
      ))
      (text_put before out old new start (start_text head slot) e (λ s is. refl) put)

  module _ {was mid : Option (List ℕ)} {a b : SinkHealth} (next : Option (List ℕ)) (c : SinkHealth)
      (old page new : List ℕ) (first : PutsText (start_text head slot) (told was mid a b) old page end.Done) where
    both : (e : SpoolEnd) → Puts before pieces (told mid next b c) page new e →
        Puts before (λ bytes. start bytes ++ pieces bytes) (told was next a c) old new e
    both e put =
        puts_then next c before start pieces old page new e
        (text_put before (told was mid a b) old page start (start_text head slot) end.Done (λ s is. refl) first) put

    pub pieces_stop : (e : SpoolEnd) → e ≢ end.Done → Puts before pieces (told mid next b c) page new e →
        Puts before (line_of head.number) (told was next a c) old new e
    pieces_stop e stopped put =
        puts_front before (told was next a c) old new (λ bytes. start bytes ++ pieces bytes) (line_of head.number) e stopped
        (λ s is. (codes "\n", sym (whole s is))) (both e put)

    pub line_ends : (last : Option (List ℕ)) (d : SinkHealth) (done : List ℕ) (e : SpoolEnd) →
        Puts before pieces (told mid next b c) page new end.Done →
        PutsText (codes "\n") (told next last c d) new done e →
        Puts before (line_of head.number) (told was last a d) old done e
    line_ends last d done e put more =
        puts_as before (told was last a d) old done
        (λ bytes. (start bytes ++ pieces bytes) ++ codes "\n") (line_of head.number) e whole
        (puts_then last d before (λ bytes. start bytes ++ pieces bytes) (λ bytes. codes "\n") old new done e
        (both end.Done put)
        (text_put before (told next last c d) new done (λ bytes. codes "\n") (codes "\n") e (λ s is. refl) more))
