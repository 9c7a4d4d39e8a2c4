-- Messages that end together, one after the other.
use Rattle.std.proofs.Common.{◌≡◌, refl, sym, ap, ◌∙◌, arith, ◌<◌, true, false, ℕ, Bool, List, [], ◌∷◌, ◌++◌, length, Option, Some, None}
use Rattle.std.specs.Prelude.{slice_get, drop, flat_map}
use Rattle.std.specs.List.{position_or_len, remove}
use Rattle.std.specs.Option.{option_map, option_map_or}
use Rattle.std.proofs.lemmas.Bool.{eq-eqb}
use Rattle.std.proofs.lemmas.Option.{same_Some}
use Rattle.block_codec.specs.declared.header.Header.{Header}
use Rattle.message_flow.specs.declared.step.Note.{Note}
use Rattle.message_flow.specs.declared.step.StepOut.{StepOut}
use Rattle.message_flow.specs.declared.waiting.Waiting.{Waiting}
use Rattle.message_flow.specs.Outgoing.{last_header, with_waiting}
use Rattle.trace_log.specs.Log.{Happening}
use Rattle.trace_log.specs.Names.{header_title}
use Rattle.trace_log.specs.Text.{note_of, printed_note}
use Rattle.transact.specs.declared.begun.Begun.{Begun}
use Rattle.transact.specs.Transactions.{has_system, primary_of, system_of}
use Rattle.message_end.specs.Core.{Command, EndView, Went, and_then, carried, carry}
use Rattle.message_end.specs.Core.Command.{DropFront, End, Note as NoteThis, Recall, Remove}
use Rattle.message_end.specs.Core.Went.{Goes}
use Rattle.message_end.specs.Endings.{IsFirstEnded, ends_begun, ends_failed, ends_front, ends_one, ends_waiting, notes_failed}
use Rattle.message_end.specs.Parts.{AreCarried, next_of, on_the_way}
use Rattle.message_end.proofs.Carrying.{carried_append}

-- the notes are these
abbrev pub noted_out : StepOut → List Note → StepOut
noted_out out notes = record { line = out.line; notes = notes }

-- what is left of the commands does what all of them did, and fewer are left to end
pub record IsEnded {K : Type 0}
    (commands later : List (Command K)) (old new : EndView K) (out out_new : StepOut) (was is : ℕ)
    : Type 0 where
  pub same :
      carried printed_note later (on_the_way new out_new) ≡ carried printed_note commands (on_the_way old out)
  pub fewer : is < was

-- ---- transactions

remove-first :
    {K : Type 0} (begun : Begun K) (rest : List (Begun K))
    → remove (begun ∷ rest) (position_or_len (has_system (system_of begun)) (begun ∷ rest)) ≡ rest
remove-first begun rest = rw (eq-eqb begun.header.system begun.header.system refl) refl

-- the one that began first
pub first_ended :
    {K : Type 0} (header : Header) (kind : K) (old e1 e2 : EndView K)
    → option_map primary_of (slice_get old.transactions.begun 0) ≡ Some (header, kind)
    → ((out : StepOut) → carry printed_note (End header.system) (on_the_way old out) ≡ Goes (on_the_way e1 out))
    → ((out : StepOut) → carry printed_note (Remove true header.system) (on_the_way e1 out) ≡ Goes (on_the_way e2 out))
    → IsFirstEnded (header, kind) old e2
first_ended {K} header kind old e1 e2 first ended removed = go old.transactions.begun refl first
  where
    quiet : StepOut
    quiet = record { line = record { items = [] }; notes = [] }

    go : (begun : List (Begun K)) → old.transactions.begun ≡ begun
        → option_map primary_of (slice_get begun 0) ≡ Some (header, kind)
        → IsFirstEnded (header, kind) old e2
    go [] is none = absurd (cc)
    go (begun ∷ rest) is some = record {
      first = begun;
      rest = rest;
      begun = is;
      left = left;
      primary_is = same_Some _ _ some;
      ended = done;
    }
      where
        header_is : begun.header ≡ header
        header_is = ap (λ (o : Option (Header × K)). option_map_or (λ p. p.0) o header) some

        left_with : (out : StepOut) → e2.transactions.begun ≡ rest
        left_with out =
            sym (ap (λ (w : Went (EndView K) Note). (next_of w).transactions.begun) (removed out))
            ∙ sym (ap (λ (w : Went (EndView K) Note). (next_of w).transactions.begun) (ended out))
            ∙ ap (λ (all : List (Begun K)). remove all (position_or_len (has_system header.system) all)) is
            ∙ ap (λ (h : Header). remove (begun ∷ rest) (position_or_len (has_system h.system) (begun ∷ rest)))
            (sym header_is)
            ∙ remove-first begun rest

        left : e2.transactions.begun ≡ rest
        left = left_with quiet

        done : (out : StepOut) → AreCarried (ends_one (λ begun. []) begun) old out e2 out
        done out =
            ap (λ (h : Header). carried printed_note (End h.system ∷ Remove true h.system ∷ []) (on_the_way old out))
            header_is
            ∙ ap (λ (w : Went (EndView K) Note). and_then w (carried printed_note (Remove true header.system ∷ [])))
            (ended out)
            ∙ ap (λ (w : Went (EndView K) Note). and_then w (carried printed_note [])) (removed out)

-- with what its end brings, by its header and kind
pub begun_ended :
    {K : Type 0} (brings : Begun K → List (Command K)) (what : Header × K → List (Command K)) (primary : Header × K)
    (old new : EndView K) (out out_later : StepOut)
    → ((begun : Begun K) → brings begun ≡ what (primary_of begun)) → IsFirstEnded primary old new
    → AreCarried (what primary) new out new out_later
    → IsEnded (ends_begun brings old) (ends_begun brings new) old new out out_later
    (length old.transactions.begun) (length new.transactions.begun)
begun_ended {K} brings what primary old new out out_later told is brought =
    record { same = sym same; fewer = fewer }
  where
    F : List (Begun K) → List (Command K)
    F begun = flat_map (ends_one brings) begun

    brings_is : brings is.first ≡ what primary
    brings_is = told is.first ∙ ap what is.primary_is

    same : carried printed_note (F old.transactions.begun) (on_the_way old out)
        ≡ carried printed_note (F new.transactions.begun) (on_the_way new out_later)
    same =
        ap (λ (all : List (Begun K)). carried printed_note (F all) (on_the_way old out)) is.begun
        ∙ carried_append printed_note (ends_one (λ begun. []) is.first) (brings is.first ++ F is.rest)
        (on_the_way old out)
        ∙ ap (λ (w : Went (EndView K) Note). and_then w (carried printed_note (brings is.first ++ F is.rest)))
        (is.ended out)
        ∙ ap (λ (cs : List (Command K)). carried printed_note (cs ++ F is.rest) (on_the_way new out)) brings_is
        ∙ carried_append printed_note (what primary) (F is.rest) (on_the_way new out)
        ∙ ap (λ (w : Went (EndView K) Note). and_then w (carried printed_note (F is.rest))) brought
        ∙ ap (λ (all : List (Begun K)). carried printed_note (F all) (on_the_way new out_later)) (sym is.left)

    fewer : length new.transactions.begun < length old.transactions.begun
    fewer =
        let shorter = ap (λ (all : List (Begun K)). length all) is.left in
        let longer = ap (λ (all : List (Begun K)). length all) is.begun in
        omega arith

-- with the note of its failure
pub failed_noted :
    {K : Type 0} (header : Header) (e : EndView K) (out : StepOut) (notes : List Note)
    → notes ≡ out.notes ++ note_of (Happening.Failed (header_title header)) ∷ []
    → AreCarried (notes_failed header) e out e (noted_out out notes)
failed_noted header e out notes noted = ap (λ (ns : List Note). Goes (on_the_way e (noted_out out ns))) (sym noted)

-- and with more behind it
pub failed_then :
    {K : Type 0} (header : Header) (more : List (Command K)) (e new : EndView K) (out out_new : StepOut)
    (notes : List Note)
    → notes ≡ out.notes ++ note_of (Happening.Failed (header_title header)) ∷ []
    → AreCarried more e (noted_out out notes) new out_new
    → AreCarried (notes_failed header ++ more) e out new out_new
failed_then header more e new out out_new notes noted is =
    ap (λ (ns : List Note). carried printed_note more (on_the_way e (noted_out out ns))) (sym noted) ∙ is

-- where none is open
pub none_first :
    {K : Type 0} (begun : List (Begun K)) → option_map primary_of (slice_get begun 0) ≡ None → begun ≡ []
none_first [] none = refl
none_first (begun ∷ rest) some = absurd (cc)

pub none_begun :
    {K : Type 0} (brings : Begun K → List (Command K)) (old : EndView K) (out : StepOut) → old.transactions.begun ≡ []
    → AreCarried (ends_begun brings old) old out old out
none_begun {K} brings old out none =
    ap (λ (all : List (Begun K)). carried printed_note (flat_map (ends_one brings) all) (on_the_way old out)) none

-- ---- the message whose block failed

pub failed_one :
    {K : Type 0} (was_open : Bool) (header : Header) (old new : EndView K) (out : StepOut) (notes : List Note)
    → was_open ≡ false
    → carry printed_note (Recall header) (on_the_way old out) ≡ Goes (on_the_way new out)
    → notes ≡ out.notes ++ note_of (Happening.Failed (header_title header)) ∷ []
    → AreCarried (ends_failed was_open header old) old out new (noted_out out notes)
failed_one {K} false header old new out notes is recalled noted =
    ap
    (λ (w : Went (EndView K) Note).
    and_then w (carried printed_note (NoteThis (Happening.Failed (header_title header)) ∷ [])))
    recalled
    ∙ ap (λ (ns : List Note). Goes (on_the_way new (noted_out out ns))) (sym noted)
failed_one true header old new out notes is recalled noted = absurd (cc)

-- ---- messages that wait

-- the one in front
pub one_waiting :
    {K : Type 0} (header : Header) (old new : EndView K) (out : StepOut) (notes : List Note)
    → option_map (last_header old.outgoing) (slice_get old.outgoing.waiting 0) ≡ Some header
    → carry printed_note DropFront (on_the_way old out) ≡ Goes (on_the_way new out)
    → notes ≡ out.notes ++ note_of (Happening.Failed (header_title header)) ∷ []
    → IsEnded (ends_waiting old) (ends_waiting new) old new out (noted_out out notes) (length old.outgoing.waiting)
    (length new.outgoing.waiting)
one_waiting {K} header old new out notes first dropped noted = go old.outgoing.waiting refl first
  where
    F : List Waiting → List (Command K)
    F waiting = flat_map ends_front waiting

    go : (waiting : List Waiting) → old.outgoing.waiting ≡ waiting
        → option_map (last_header old.outgoing) (slice_get waiting 0) ≡ Some header
        → IsEnded (F waiting) (F new.outgoing.waiting) old new out (noted_out out notes) (length waiting)
        (length new.outgoing.waiting)
    go [] is none = absurd (cc)
    go (waiting ∷ rest) is some = record { same = same; fewer = fewer }
      where
        header_is : last_header old.outgoing waiting ≡ header
        header_is = ap (λ (o : Option Header). option_map_or (λ (h : Header). h) o header) some

        left : new.outgoing.waiting ≡ rest
        left =
            sym (ap (λ (w : Went (EndView K) Note). (next_of w).outgoing.waiting) dropped)
            ∙ ap (λ (all : List Waiting). drop 1 all) is

        same : carried printed_note (F new.outgoing.waiting) (on_the_way new (noted_out out notes))
            ≡ carried printed_note (F (waiting ∷ rest)) (on_the_way old out)
        same =
            ap (λ (all : List Waiting). carried printed_note (F all) (on_the_way new (noted_out out notes))) left
            ∙ ap (λ (ns : List Note). carried printed_note (F rest) (on_the_way new (noted_out out ns))) noted
            ∙ ap (λ (w : Went (EndView K) Note). and_then w
            (carried printed_note (NoteThis (Happening.Failed (header_title header)) ∷ F rest))) (sym dropped)
            ∙ ap (λ (h : Header). carried printed_note
            (DropFront ∷ NoteThis (Happening.Failed (header_title h)) ∷ F rest) (on_the_way old out))
            (sym header_is)

        fewer : length new.outgoing.waiting < length (waiting ∷ rest)
        fewer = let same_length = ap (λ (all : List Waiting). length all) left in omega arith

-- where none waits
pub no_waiting :
    {K : Type 0} (old new : EndView K) (out : StepOut)
    → option_map (last_header old.outgoing) (slice_get old.outgoing.waiting 0) ≡ None
    → carry printed_note DropFront (on_the_way old out) ≡ Goes (on_the_way new out)
    → AreCarried (ends_waiting old) old out new out
no_waiting {K} old new out none dropped = go old.outgoing.waiting refl none
  where
    go : (waiting : List Waiting) → old.outgoing.waiting ≡ waiting
        → option_map (last_header old.outgoing) (slice_get waiting 0) ≡ None
        → carried printed_note (flat_map ends_front waiting) (on_the_way old out) ≡ Goes (on_the_way new out)
    go [] is nothing =
        ap (λ (ws : List Waiting). Goes (on_the_way (record old { outgoing = with_waiting old.outgoing ws }) out))
        (is ∙ ap (λ (ws : List Waiting). drop 1 ws) (sym is))
        ∙ dropped
    go (waiting ∷ rest) is nothing = absurd (cc)
