-- The lines of a list, message by message.
use Rattle.std.proofs.Common.{◌≡◌, ◌≢◌, refl, sym, ◌∙◌, ap, subst, ℕ, ◌+◌, ◌<◌, ◌≤◌, List, [], ◌∷◌, ◌++◌}
use Rattle.std.proofs.Common.{length, Option, Some, None, append_assoc, append-nil, arith}
use Rattle.std.proofs.lemmas.Grind.{flat_map-append}
use Rattle.std.specs.List.{slice_get}
use Rattle.disk_base.specs.Story.{Story}
use Rattle.disk_base.specs.declared.disk.Disk as trait
use Rattle.gl_base.specs.Sending.{IsUnderWay}
use Rattle.gl_base.specs.Sink.{SinkHealth}
use Rattle.gl_base.specs.Told.{SinkTold}
use Rattle.gl_base.proofs.Appending.{told}
use Rattle.spool_show.specs.Showing.{AreInHand, HasShown, IsOfList, IsSize, Puts, line_of, list_lines, message_of}
use Rattle.spool_show.specs.Text.{message_line, message_lines}
use Rattle.spool_show.specs.declared.spool_end.SpoolEnd.{SpoolEnd}
use Rattle.spool_show.specs.declared.spool_end.SpoolEnd.TheVariants as end
use Rattle.spool_show.proofs.Putting.{nothing_put, puts_front, puts_then, shown_none, shown_on}
use Rattle.spool_file.specs.Breaks.{slot_stands}
use Rattle.spool_file.specs.File.{file_in, frame_in, spool_break}
use Rattle.spool_file.specs.Run.{IsChainFrom}
use Rattle.spool_file.specs.Slot.{Message, slot_in, slot_message, width}
use Rattle.spool_file.specs.declared.recovery.Known.{Known}
use Rattle.spool_file.proofs.Runs.{chain_up, found, some_width}
use Rattle.spool_file.proofs.Wholes.{sound_kept}
use Rattle.spool_slots.specs.Spool.{Rests, SpoolView, known_of}

-- ---- places of a list

got_behind : (xs : List Message) (m : Message) (ys : List Message) → slice_get (xs ++ m ∷ ys) (length xs) ≡ Some m
got_behind [] m ys = refl
got_behind (x ∷ xs) m ys = got_behind xs m ys

-- the message of a place is the one in the slot of its number
in_its_slot : (bytes : List ℕ) → spool_break bytes ≡ None → (place : ℕ) (m : Message) →
    slice_get (file_in bytes).list place ≡ Some m → message_of m.number bytes ≡ m
in_its_slot bytes sound place m got =
    let frame = frame_in bytes in
    let kept = (sound_kept bytes sound).kept in
    (found (slot_stands frame.floor (slot_in bytes)) (slot_message frame.slots (slot_in bytes)) frame.slots _ _ kept place m
    got).2

-- a list is shown up to a number: some messages have their lines in the text, and with the number the others go on
pub record IsAt (s : Story) (number next : ℕ) (text : List ℕ) : Type 0 where
  pub done : List Message
  pub rest : List Message
  pub whole : (file_in s.now.bytes).list ≡ done ++ rest
  pub chain : IsChainFrom number next rest
  pub are : text ≡ message_lines done

-- the next message, and what is behind it
record IsNext (s : Story) (number next : ℕ) (done rest : List Message) : Type 0 where
  m : Message
  others : List Message
  are : rest ≡ m ∷ others
  here : m.number ≡ number
  chain : IsChainFrom (number + width m) next others
  got : slice_get (file_in s.now.bytes).list (length done) ≡ Some m

next_is : (s : Story) (number next : ℕ) (done rest : List Message) → number < next →
    (file_in s.now.bytes).list ≡ done ++ rest → IsChainFrom number next rest → IsNext s number next done rest
next_is s number next done [] below whole chain = absurd (omega (arith, below, chain))
next_is s number next done (m ∷ others) below whole chain = record {
  m = m;
  others = others;
  are = refl;
  here = chain.0;
  chain = chain.1;
  got = ap (λ (list : List Message). slice_get list (length done)) whole ∙ got_behind done m others;
}

module _ (s : Story) (number next : ℕ) (text : List ℕ) (is : IsAt s number next text) where
  -- all are shown where the number isn't below the next one
  pub all_shown : (number < next → ⊥) → text ≡ list_lines s.now.bytes
  all_shown past = by_rest is.rest is.whole is.chain where
    by_rest : (rest : List Message) → (file_in s.now.bytes).list ≡ is.done ++ rest → IsChainFrom number next rest →
        text ≡ list_lines s.now.bytes
    by_rest [] whole chain = is.are ∙ ap message_lines (sym (append-nil is.done)) ∙ ap message_lines (sym whole)
    by_rest (m ∷ others) whole chain =
        let up : number + width m + length others ≤ next = chain_up (number + width m) next others chain.1 in
        let some : 1 ≤ width m = some_width m in
        absurd (past (omega (arith, up, some)))

  module _ (below : number < next) where
    abbrev after : IsNext s number next is.done is.rest
    after = next_is s number next is.done is.rest below is.whole is.chain

    pub of_list : IsOfList number s.now.bytes
    of_list = (after.m, length is.done, after.got, after.here)

    module _ (sound : spool_break s.now.bytes ≡ None) where
      message_is : message_of number s.now.bytes ≡ after.m
      message_is =
          ap (λ (x : ℕ). message_of x s.now.bytes) (sym after.here)
          ∙ in_its_slot s.now.bytes sound (length is.done) after.m after.got

      -- one message more
      pub one_shown : (size : ℕ) (text' : List ℕ) → size ≡ width (message_of number s.now.bytes) →
          text' ≡ text ++ line_of number s.now.bytes → IsAt s (number + size) next text'
      one_shown size text' size_is put = record {
        done = is.done ++ after.m ∷ [];
        rest = after.others;
        whole = is.whole ∙ ap (λ (list : List Message). is.done ++ list) after.are
            ∙ sym (append_assoc is.done (after.m ∷ []) after.others);
        chain = subst (λ (x : ℕ). IsChainFrom x next after.others)
            (ap (λ (m : Message). number + width m) (sym message_is) ∙ ap (λ (x : ℕ). number + x) (sym size_is))
            after.chain;
        are = put ∙ ap (λ (t : List ℕ). t ++ line_of number s.now.bytes) is.are
            ∙ ap (λ (m : Message). message_lines is.done ++ message_line m) message_is
            ∙ ap (λ (t : List ℕ). message_lines is.done ++ t) (sym (append-nil (message_line after.m)))
            ∙ sym (flat_map-append message_line is.done (after.m ∷ []));
      }

      -- it is in front of the others
      pub shown_before : (rest : List ℕ) × (list_lines s.now.bytes ≡ (text ++ line_of number s.now.bytes) ++ rest)
      shown_before = (
        message_lines after.others,
        ap message_lines (is.whole ∙ ap (λ (list : List Message). is.done ++ list) after.are)
            ∙ flat_map-append message_line is.done (after.m ∷ after.others)
            ∙ ap (λ (t : List ℕ). t ++ (message_line after.m ++ message_lines after.others)) (sym is.are)
            ∙ sym (append_assoc text (message_line after.m) (message_lines after.others))
            ∙ ap (λ (m : Message). (text ++ message_line m) ++ message_lines after.others) (sym message_is),
      )

-- ---- what was put of it

-- the messages up to a number were shown
pub record AreShown {D : Type 0} (members : trait.Ghosts D) (v w : SpoolView D) (number : ℕ) (out : SinkTold)
    (old new : List ℕ) : Type 0 where
  pub shown : HasShown members v w end.Done
  pub text : List ℕ
  pub under : IsUnderWay out (old ++ text) new
  pub so_far : (s : Story) → members.told v.disk ≡ Some s → IsAt s number v.next text

pub shown_first : {D : Type 0} {members : trait.Ghosts D} {was : Option (List ℕ)} {a : SinkHealth} (v : SpoolView D)
    (page : List ℕ) → AreInHand (members.told v.disk) (known_of v) →
    AreShown members v v v.first (told was was a a) page page
shown_first v page rests = record {
  shown = shown_none v;
  text = [];
  under = nothing_put page;
  so_far = λ s is. record {
    done = [];
    rest = (file_in s.now.bytes).list;
    whole = refl;
    chain = (rests s is).chain;
    are = refl;
  };
}

module _ {D : Type 0} {members : trait.Ghosts D} {was mid : Option (List ℕ)} {a b : SinkHealth} (v w : SpoolView D)
    (number : ℕ) (old page : List ℕ) (rests : AreInHand (members.told v.disk) (known_of v))
    (so_far : AreShown members v w number (told was mid a b) old page) where
  -- all of them were, behind the last one
  pub shown_all : (number < v.next → ⊥) → Puts (members.told v.disk) list_lines (told was mid a b) old page end.Done
  shown_all past =
      (so_far.text, so_far.under, λ s is. all_shown s number v.next so_far.text (so_far.so_far s is) past)

  -- the spool is in hand still, and has a message of the number
  pub still_rests : AreInHand (members.told w.disk) (known_of w)
  still_rests s is =
      subst (λ (k : Known). Rests s k) (sym (ap (λ (u : SpoolView D). known_of u) so_far.shown.same))
      (rests s (sym so_far.shown.told ∙ is))

  module _ (below : number < v.next) where
    pub there : (s : Story) → members.told w.disk ≡ Some s → IsOfList number s.now.bytes
    there s is =
        of_list s number v.next so_far.text (so_far.so_far s (sym so_far.shown.told ∙ is)) below

    module _ (now : Option (List ℕ)) (c : SinkHealth) (x : SpoolView D) (new : List ℕ) where
      -- what was put of its line, behind the lines so far
      behind : (e : SpoolEnd) → Puts (members.told w.disk) (line_of number) (told mid now b c) page new e →
          Puts (members.told v.disk) (λ bytes. so_far.text ++ line_of number bytes) (told was now a c) old new e
      behind e puts =
          puts_then now c (members.told v.disk) (λ bytes. so_far.text) (line_of number) old page new e
          (so_far.text, so_far.under, λ s is. refl)
          (subst (λ (t : Option Story). Puts t (line_of number) (told mid now b c) page new e) so_far.shown.told puts)

      -- one message more
      pub shown_more : (size : ℕ) → HasShown members w x end.Done →
          Puts (members.told w.disk) (line_of number) (told mid now b c) page new end.Done →
          IsSize (members.told w.disk) number size →
          AreShown members v x (number + size) (told was now a c) old new
      shown_more size more puts size_is =
          let both = behind end.Done puts in
          record {
            shown = shown_on v w x end.Done so_far.shown more;
            text = both.0;
            under = both.1;
            so_far = λ s is. one_shown s number v.next so_far.text (so_far.so_far s is) below (rests s is).sound size both.0
                (size_is.1 s (so_far.shown.told ∙ is)) (both.2 s is);
          }

      -- it stops at this one
      pub shown_stops : (e : SpoolEnd) → e ≢ end.Done →
          Puts (members.told w.disk) (line_of number) (told mid now b c) page new e →
          Puts (members.told v.disk) list_lines (told was now a c) old new e
      shown_stops e stopped puts =
          puts_front (members.told v.disk) (told was now a c) old new (λ bytes. so_far.text ++ line_of number bytes)
          list_lines e stopped
          (λ s is. shown_before s number v.next so_far.text (so_far.so_far s is) below (rests s is).sound)
          (behind e puts)
