-- The text of a whole spool file, by what was put of it.
use Rattle.std.proofs.Common.{◌≡◌, ◌≢◌, refl, sym, ◌∙◌, ap, ℕ, List, [], ◌++◌, length, Option, Some, append_assoc}
use Rattle.std.proofs.Common.{append-nil}
use Rattle.disk_base.specs.Story.{Story}
use Rattle.gl_base.specs.Sending.{WroteShort, WroteText}
use Rattle.gl_base.specs.Sink.{SinkHealth}
use Rattle.gl_base.specs.Told.{SinkTold}
use Rattle.gl_base.specs.declared.copying.SinkAnswer.TheVariants as sent
use Rattle.gl_base.proofs.Appending.{finished, told}
use Rattle.spool_show.specs.Showing.{AreInHand, IsFront, IsWhole, Puts, ShowsList, file_lines, list_lines}
use Rattle.spool_show.specs.Text.{head_line}
use Rattle.spool_show.specs.declared.spool_end.SpoolEnd.{SpoolEnd}
use Rattle.spool_show.specs.declared.spool_end.SpoolEnd.TheVariants as end
use Rattle.spool_file.specs.File.{file_in}
use Rattle.spool_file.specs.declared.recovery.Known.{Known}

-- the head that was put into an empty page
pub head_put : {slots mark len slots' mark' len' : ℕ} (items empty : List ℕ) → items ≡ empty ++ head_line slots mark len
    → empty ≡ [] → slots ≡ slots' → mark ≡ mark' → len ≡ len' → items ≡ head_line slots' mark' len'
head_put {slots} {mark} {len} {slots'} {mark'} {len'} items empty put none one two three =
    put ∙ ap (λ t. t ++ head_line slots mark len) none ∙ ap (λ n. head_line n mark len) one
    ∙ ap (λ m. head_line slots' m len) two ∙ ap (λ n. head_line slots' mark' n) three

module _ (before : Option Story) (k : Known) (rests : AreInHand before k) (head : List ℕ)
    (is : head ≡ head_line k.slots k.mark k.len) where
  -- its head is the file's
  head_is : (s : Story) → before ≡ Some s → (lines : List ℕ) → head ++ lines
      ≡ head_line (file_in s.now.bytes).slots (file_in s.now.bytes).mark.value (length (file_in s.now.bytes).list)
      ++ lines
  head_is s told_is lines =
      let here = rests s told_is in
      ap (λ t. t ++ lines) is
      ∙ ap (λ n. head_line n k.mark k.len ++ lines) here.slots_are
      ∙ ap (λ m. head_line (file_in s.now.bytes).slots m k.len ++ lines) here.mark_is
      ∙ ap (λ n. head_line (file_in s.now.bytes).slots (file_in s.now.bytes).mark.value n ++ lines) here.count

  -- with all lines it is the whole text
  whole_text : (lines : List ℕ) → IsWhole before list_lines lines → IsWhole before file_lines (head ++ lines)
  whole_text lines are s told_is = ap (λ t. head ++ t) (are s told_is) ∙ head_is s told_is (list_lines s.now.bytes)

  -- and with some of them its front
  front_text : (lines : List ℕ) → IsFront before list_lines lines → IsFront before file_lines (head ++ lines)
  front_text lines are s told_is =
      let rest = are s told_is in (
        rest.0,
        sym (head_is s told_is (list_lines s.now.bytes)) ∙ ap (λ t. head ++ t) rest.1
            ∙ sym (append_assoc head lines rest.0),
      )

  -- the list stops in the middle
  pub list_stops : (out : SinkTold) (new : List ℕ) (e : SpoolEnd) → e ≢ end.Done →
      Puts before list_lines out head new e → ShowsList before out e
  list_stops out new end.Done stopped puts = absurd (stopped refl)
  list_stops out new (end.NotSpool place) stopped puts = absurd puts
  list_stops out new end.WriteFailed stopped (lines, short, are) = (head ++ lines, short, front_text lines are)
  list_stops out new end.DiskFailed stopped (lines, under, are) = (under.sent, under.wrote, front_of) where
    front_of : IsFront before file_lines under.sent
    front_of s told_is =
        let rest = front_text lines are s told_is in (
          new ++ rest.0,
          rest.1 ∙ ap (λ t. t ++ rest.0) under.whole ∙ append_assoc under.sent new rest.0,
        )

  module _ {was mid : Option (List ℕ)} {a b : SinkHealth} (now : Option (List ℕ)) (c : SinkHealth) (new : List ℕ)
      (puts : Puts before list_lines (told was mid a b) head new end.Done) where
    -- all of it was put, and went out
    pub list_sent : WroteText (told mid now b c) new → ShowsList before (told was now a c) end.Done
    list_sent wrote =
        (head ++ puts.0, finished now c (head ++ puts.0) new sent.Done puts.1 wrote, whole_text puts.0 puts.2)

    -- or not all of it went out
    pub list_cut : WroteShort (told mid now b c) new → ShowsList before (told was now a c) end.WriteFailed
    list_cut short = (
      head ++ puts.0,
      finished now c (head ++ puts.0) new sent.Failed puts.1 short,
      λ s told_is. ([], sym (whole_text puts.0 puts.2 s told_is) ∙ sym (append-nil (head ++ puts.0))),
    )
