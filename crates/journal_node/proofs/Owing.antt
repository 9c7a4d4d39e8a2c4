-- What is owed to a journal over notes and doings.
use Rattle.std.proofs.Common.{◌≡◌, refl, sym, ap, subst, ◌∙◌, Bool, true, false, List, [], ◌∷◌, ◌++◌, Option, Some, None, if◌then◌else◌}
use Rattle.line_end.specs.Step.{LineCall}
use Rattle.line_end.specs.Step.LineCall.{Cancel, Resume, Send, Take, Tick}
use Rattle.message_flow.specs.declared.message.Message.{Message}
use Rattle.spool_law.specs.Listing.{MayDoOwed, MaySayOwed, Owed, owed_behind, owed_in, owed_with, record_of}
use Rattle.spool_law.specs.Listing.Owed.{Nothing, ToList}
use Rattle.spool_rule.specs.Rule.{is_spoolable}
use Rattle.trace_log.specs.Log.{Happening}
use Rattle.trace_log.specs.Log.Happening.{HostStarted, Listed, Listing, Received, StepEnded, Wrote}
use Rattle.trace_log.specs.Names.{Record}
use Rattle.message_end.specs.Doings.{Doing}
use Rattle.message_end.specs.Doings.Doing.{Calls, Does, Gives, Says}
use Rattle.message_end.specs.History.{noted_in, notes_of_own}
use Rattle.message_end.specs.LineCalls.{calls_in}
use Rattle.message_end.specs.Log.{noted_of_own}
use Rattle.message_end.specs.Own.{Own}
use Rattle.message_end.specs.Own.Own.{DrewNumber, DroppedMessage, GaveBlock, HeardBlock, ReceivedMessage, SentMessage, WroteFrame}
use Rattle.journal_node.specs.Journal.{listed_of}
use Rattle.journal_node.specs.Law.{AreListed, MayDoOwing}
use Rattle.journal_node.proofs.FreeNotes.{IsFree}

-- ---- over notes, the oldest first

abbrev pub owed_over : List Happening → Owed → Owed
owed_over [] owed = owed
owed_over (what ∷ notes) owed = owed_over notes (owed_behind what owed)

-- a note may be made at what is owed; a message is received where nothing is
abbrev pub MayNoteOwed : Owed → Happening → Type 0
MayNoteOwed owed (Received message) = owed ≡ Nothing
MayNoteOwed owed (Wrote characters) = Unit {0}
MayNoteOwed owed what = MaySayOwed owed what

abbrev pub KeepOwed : List Happening → Owed → Type 0
KeepOwed [] owed = Unit {0}
KeepOwed (what ∷ notes) owed = MayNoteOwed owed what × KeepOwed notes (owed_behind what owed)

pub over-both : (xs ys : List Happening) (owed : Owed) → owed_over (xs ++ ys) owed ≡ owed_over ys (owed_over xs owed)
over-both [] ys owed = refl
over-both (x ∷ xs) ys owed = over-both xs ys (owed_behind x owed)

pub keep-both : (xs ys : List Happening) (owed : Owed) → KeepOwed xs owed → KeepOwed ys (owed_over xs owed)
    → KeepOwed (xs ++ ys) owed
keep-both [] ys owed one two = two
keep-both (x ∷ xs) ys owed one two = (one.0, keep-both xs ys (owed_behind x owed) one.1 two)

pub keep-parts : (xs ys : List Happening) (owed : Owed) → KeepOwed (xs ++ ys) owed
    → KeepOwed xs owed × KeepOwed ys (owed_over xs owed)
keep-parts [] ys owed is = (tt, is)
keep-parts (x ∷ xs) ys owed is =
    let rest = keep-parts xs ys (owed_behind x owed) is.1 in ((is.0, rest.0), rest.1)

-- ---- free notes

free-owed : (what : Happening) (owed : Owed) → IsFree what → owed_behind what owed ≡ owed
free-owed (Received message) owed free = absurd free
free-owed (HostStarted journal) owed free = absurd free
free-owed (Listing number listed) owed free = absurd free
free-owed (Listed number listed) owed free = absurd free
free-owed what owed free = refl

free-may : (what : Happening) (owed : Owed) → IsFree what → MayNoteOwed owed what
free-may (Received message) owed free = absurd free
free-may (Listing number listed) owed free = absurd free
free-may (Listed number listed) owed free = absurd free
free-may (Wrote characters) owed free = absurd free
free-may StepEnded owed free = absurd free
free-may what owed free = tt

-- these notes were made from nothing owed, and come to this
pub record Owes (owed : Owed) (notes : List Happening) : Type 0 where
  pub keep : KeepOwed notes Nothing
  pub is : owed_over notes Nothing ≡ owed

pub owes-more :
    (owed : Owed) (notes : List Happening) (what : Happening) → IsFree what → Owes owed notes
    → Owes owed (notes ++ what ∷ [])
owes-more owed notes what free so = record {
  keep = keep-both notes (what ∷ []) Nothing so.keep (free-may what (owed_over notes Nothing) free, tt);
  is = over-both notes (what ∷ []) Nothing ∙ free-owed what (owed_over notes Nothing) free ∙ so.is;
}

-- what is owed of a message that was delivered
abbrev pub owed_of : Option Record → Owed
owed_of None = Nothing
owed_of (Some listed) = ToList listed

received-owed : (message : Message) → owed_behind (Received message) Nothing ≡ owed_of (listed_of (Some message))
received-owed message = go (is_spoolable message.stream message.function)
  where
    go : (b : Bool)
        → (if b then ToList (record_of message) else Nothing)
        ≡ owed_of (if b then Some (record_of message) else None)
    go true = refl
    go false = refl

pub owes-received :
    (notes : List Happening) (message : Message) → Owes Nothing notes
    → Owes (owed_of (listed_of (Some message))) (notes ++ Received message ∷ [])
owes-received notes message so = record {
  keep = keep-both notes (Received message ∷ []) Nothing so.keep (so.is, tt);
  is =
      over-both notes (Received message ∷ []) Nothing ∙ ap (λ (o : Owed). owed_behind (Received message) o) so.is
      ∙ received-owed message;
}

-- ---- over doings

abbrev pub GiveNone : List LineCall → Type 0
GiveNone [] = Unit {0}
GiveNone (Send block now ∷ calls) = ⊥
GiveNone (Resume now ∷ calls) = GiveNone calls
GiveNone (Cancel ∷ calls) = GiveNone calls
GiveNone (Take byte now ∷ calls) = GiveNone calls
GiveNone (Tick now ∷ calls) = GiveNone calls

none-later : (call : LineCall) (calls : List LineCall) → GiveNone (call ∷ calls) → GiveNone calls
none-later (Send block now) calls none = absurd none
none-later (Resume now) calls none = none
none-later Cancel calls none = none
none-later (Take byte now) calls none = none
none-later (Tick now) calls none = none

own-over : (own : Own) (owed : Owed) → owed_with (noted_of_own own) owed ≡ owed_over (notes_of_own own) owed
own-over (DrewNumber number) owed = refl
own-over (SentMessage message) owed = refl
own-over (GaveBlock place number) owed = refl
own-over (WroteFrame place number) owed = refl
own-over (HeardBlock block now flow) owed = refl
own-over (DroppedMessage header now) owed = refl
own-over (ReceivedMessage message) owed = refl

-- what is owed behind some doings is told by their notes
pub owed-done : (done doings : List Doing) → owed_in (done ++ doings) ≡ owed_over (noted_in done) (owed_in doings)
owed-done [] doings = refl
owed-done (Does own ∷ done) doings =
    ap (λ (o : Owed). owed_with (noted_of_own own) o) (owed-done done doings)
    ∙ own-over own (owed_over (noted_in done) (owed_in doings))
    ∙ sym (over-both (noted_in done) (notes_of_own own) (owed_in doings))
owed-done (Gives place number block now ∷ done) doings = owed-done done doings
owed-done (Calls call ∷ done) doings = owed-done done doings
owed-done (Says what ∷ done) doings =
    ap (λ (o : Owed). owed_behind what o) (owed-done done doings)
    ∙ sym (over-both (noted_in done) (what ∷ []) (owed_in doings))

own-may : (own : Own) (owed : Owed) → KeepOwed (notes_of_own own) owed → MayDoOwed owed own
own-may (ReceivedMessage message) owed keep = keep.0
own-may (DrewNumber number) owed keep = tt
own-may (SentMessage message) owed keep = tt
own-may (GaveBlock place number) owed keep = tt
own-may (WroteFrame place number) owed keep = tt
own-may (HeardBlock block now flow) owed keep = tt
own-may (DroppedMessage header now) owed keep = tt

says-may : (what : Happening) (owed : Owed) → MayNoteOwed owed what → MayDoOwing owed (Says what)
says-may (Received message) owed may = tt
says-may (Wrote characters) owed may = tt
says-may what owed may = may

-- doings that give no block, and note what may be noted, list as they have to
pub listed-done :
    (done doings : List Doing) → GiveNone (calls_in done) → KeepOwed (noted_in done) (owed_in doings)
    → AreListed doings → AreListed (done ++ doings)
listed-done [] doings calls keep listed = listed
listed-done (Does own ∷ done) doings calls keep listed =
    let parts = keep-parts (noted_in done) (notes_of_own own) (owed_in doings) keep in (
      subst (λ (o : Owed). MayDoOwed o own) (sym (owed-done done doings))
          (own-may own (owed_over (noted_in done) (owed_in doings)) parts.1),
      listed-done done doings calls parts.0 listed,
    )
listed-done (Gives place number block now ∷ done) doings calls keep listed = absurd calls
listed-done (Calls call ∷ done) doings calls keep listed =
    (tt, listed-done done doings (none-later call (calls_in done) calls) keep listed)
listed-done (Says what ∷ done) doings calls keep listed =
    let parts = keep-parts (noted_in done) (what ∷ []) (owed_in doings) keep in (
      subst (λ (o : Owed). MayDoOwing o (Says what)) (sym (owed-done done doings))
          (says-may what (owed_over (noted_in done) (owed_in doings)) parts.1.0),
      listed-done done doings calls parts.0 listed,
    )

-- and so do doings that note nothing, where nothing is owed
none-front : (xs ys : List Happening) → xs ++ ys ≡ [] → xs ≡ []
none-front [] ys is = refl
none-front (x ∷ xs) ys is = absurd (cc)

none-back : (xs ys : List Happening) → xs ++ ys ≡ [] → ys ≡ []
none-back [] ys is = is
none-back (x ∷ xs) ys is = absurd (cc)

silent-may : (own : Own) (owed : Owed) → notes_of_own own ≡ [] → MayDoOwed owed own
silent-may (ReceivedMessage message) owed none = absurd (cc)
silent-may (DrewNumber number) owed none = tt
silent-may (SentMessage message) owed none = tt
silent-may (GaveBlock place number) owed none = tt
silent-may (WroteFrame place number) owed none = tt
silent-may (HeardBlock block now flow) owed none = tt
silent-may (DroppedMessage header now) owed none = tt

pub silent-done :
    (done doings : List Doing) → noted_in done ≡ [] → owed_in doings ≡ Nothing → AreListed doings
    → AreListed (done ++ doings)
silent-done [] doings none owes listed = listed
silent-done (Does own ∷ done) doings none owes listed = (
  silent-may own (owed_in (done ++ doings)) (none-back (noted_in done) (notes_of_own own) none),
  silent-done done doings (none-front (noted_in done) (notes_of_own own) none) owes listed,
)
silent-done (Gives place number block now ∷ done) doings none owes listed = (
  owed-done done doings ∙ ap (λ (ns : List Happening). owed_over ns (owed_in doings)) none ∙ owes,
  silent-done done doings none owes listed,
)
silent-done (Calls call ∷ done) doings none owes listed = (tt, silent-done done doings none owes listed)
silent-done (Says what ∷ done) doings none owes listed =
    let some = none-back (noted_in done) (what ∷ []) none in absurd (cc)
