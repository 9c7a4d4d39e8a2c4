-- Entries and meetings of acts, one after another, and what one end has noted of them.
use Rattle.std.proofs.Common.{◌≡◌, refl, sym, ap, subst, ◌∙◌, ℕ, Bool, true, false, List, [], ◌∷◌, ◌++◌, append_assoc, append-nil, if◌then◌else◌}
use Rattle.gl_base.specs.declared.side.Side.{Side}
use Rattle.gl_base.specs.declared.side.Side.TheVariants.{Equipment, Host}
use Rattle.gl_base.specs.Side.{is_same_side}
use Rattle.message_end.specs.Course.{Meeting, noted_behind}
use Rattle.trace_log.specs.Laws.{log_with}
use Rattle.trace_log.specs.Log.{Entry, Happening}
use Rattle.trace_log.specs.Log.Entry.{Ended, Noted, Slipped}
use Rattle.end_pair.specs.Noted.{noted_by}
use Rattle.end_run.specs.Acts.{Act, log_of, noted}
use Rattle.end_run.specs.Steps.{entries_at}
use Rattle.link_courses.specs.Courses.{AreNotesOf, met_by, met_in}

-- ---- of acts

pub log-both : {S C : Type 0} (first second : List (Act S C))
    → log_of (first ++ second) ≡ log_of second ++ log_of first
log-both [] second = sym (append-nil (log_of second))
log-both (act ∷ first) second =
    ap (λ (log : List Entry). log ++ noted act) (log-both first second)
    ∙ append_assoc (log_of second) (log_of first) (noted act)

pub met-both : {S C : Type 0} (first second : List (Act S C))
    → met_by (first ++ second) ≡ met_by second ++ met_by first
met-both [] second = sym (append-nil (met_by second))
met-both {S} {C} (act ∷ first) second =
    ap (λ (met : List (Meeting C)). met ++ met_in act) (met-both first second)
    ∙ append_assoc (met_by second) (met_by first) (met_in act)

-- ---- of entries

same-side : (side : Side) → is_same_side side side ≡ true
same-side Equipment = refl
same-side Host = refl

with-behind : (now : ℕ) (side : Side) (notes : List Happening) (front log : List Entry)
    → log_with now side notes front ++ log ≡ log_with now side notes (front ++ log)
with-behind now side [] front log = refl
with-behind now side (what ∷ notes) front log = with-behind now side notes (Noted now side what ∷ front) log

with-noted : (now : ℕ) (side : Side) (notes : List Happening) (log : List Entry)
    → noted_by side (log_with now side notes log) ≡ noted_behind notes (noted_by side log)
with-noted now side [] log = refl
with-noted now side (what ∷ notes) log =
    with-noted now side notes (Noted now side what ∷ log)
    ∙ ap
    (λ (b : Bool). noted_behind notes (if b then what ∷ noted_by side log else noted_by side log))
    (same-side side)

-- what an end notes at a moment is noted behind all before
pub at-noted : (now : ℕ) (side : Side) (notes : List Happening) (log : List Entry)
    → noted_by side (entries_at side now notes ++ log) ≡ noted_behind notes (noted_by side log)
at-noted now side notes log =
    ap (λ (l : List Entry). noted_by side l) (with-behind now side notes [] log) ∙ with-noted now side notes log

with-own : (now : ℕ) (side : Side) (notes : List Happening) (log : List Entry) → AreNotesOf side log
    → AreNotesOf side (log_with now side notes log)
with-own now side [] log own = own
with-own now side (what ∷ notes) log own = with-own now side notes (Noted now side what ∷ log) (refl, own)

pub at-own : (now : ℕ) (side : Side) (notes : List Happening) (log : List Entry) → AreNotesOf side log
    → AreNotesOf side (entries_at side now notes ++ log)
at-own now side notes log own =
    subst (AreNotesOf side) (sym (with-behind now side notes [] log)) (with-own now side notes log own)

-- of more entries the older ones are the end's, too; and what it has noted of them comes first
pub own-tail : (side : Side) (later log : List Entry) → AreNotesOf side (later ++ log) → AreNotesOf side log
own-tail side [] log own = own
own-tail side (entry ∷ later) log own = own-tail side later log own.1

pub noted-both : (side : Side) (later log : List Entry)
    → noted_by side (later ++ log) ≡ noted_by side later ++ noted_by side log
noted-both side [] log = refl
noted-both side (Noted moment end what ∷ later) log = go (is_same_side side end) (noted-both side later log)
  where
    go : (b : Bool) → noted_by side (later ++ log) ≡ noted_by side later ++ noted_by side log
        → (if b then what ∷ noted_by side (later ++ log) else noted_by side (later ++ log))
        ≡ (if b then what ∷ noted_by side later else noted_by side later) ++ noted_by side log
    go true rest = ap (λ (ns : List Happening). what ∷ ns) rest
    go false rest = rest
noted-both side (Slipped moment end frame characters ∷ later) log = noted-both side later log
noted-both side (Ended moment ∷ later) log = noted-both side later log
