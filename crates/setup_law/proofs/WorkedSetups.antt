-- The worked runs, step by step.
use Rattle.std.proofs.Common.{◌≡◌, refl, sym, ◌∙◌, ap, subst, inl, inr, ◌⊎◌, Bool, true, false, cond, List, [], ◌∷◌, Option, Some, None}
use Rattle.message_flow.specs.declared.message.Message.{Message}
use Rattle.setup_store.specs.Entries.{Entry, bytes_of, has_room}
use Rattle.setup_store.specs.Kept.{kept}
use Rattle.trace_log.specs.Log.{Happening, Past}
use Rattle.trace_log.specs.Log.Past.{Asked}
use Rattle.equipment_tables.specs.declared.plan.EquipmentPlan.{EquipmentPlan}
use Rattle.equipment_tables.specs.Past.{tables_at}
use Rattle.equipment_tables.specs.Setup.{accepts_primary, asked_of, primary_of}
use Rattle.setup_law.specs.Setup.{HasRoom, IsFoundOf, IsNext, KeepsSetup, due_behind_other, due_behind_request, due_in, list_if, to_keep, with_kept}
use Rattle.setup_law.specs.Setup.Due.{AKeep, Anything}
use Rattle.setup_law.specs.Worked.{IsChange, RunsThatDont, RunsThatKeepIt, SetupsAreKeptAsWorked, heard, keeping, kept_then, list_of, started}

-- ---- runs that keep the law

started-keeps : (plan : EquipmentPlan) → KeepsSetup plan (Some []) started
started-keeps plan = (refl, (record { counted = false; is = refl }, (tt, tt)))

module _ (plan : EquipmentPlan) (request : Message) (change : IsChange plan request) where
  -- the request is to be kept
  due-is : due_in plan (Some []) (heard request started) ≡ AKeep request
  due-is = ap (λ b. due_behind_request (Asked request) (cond b (with_kept request (Some [])) None)) change.accepted

  room-is : HasRoom (to_keep plan (Some []) (Happening.Received request ∷ started) (Asked request))
  room-is =
      subst (λ b. HasRoom (cond b (with_kept request (Some [])) None)) (sym change.accepted)
      (ap (λ (l : List Entry). has_room (bytes_of l)) change.kept_is ∙ change.room)

  keeping-keeps : KeepsSetup plan (Some []) (keeping request started)
  keeping-keeps = (
    subst (λ d. IsNext plan (Some []) (heard request started) d (Happening.Keeping request)) (sym due-is) refl,
    (room-is, (tt, started-keeps plan)),
  )

  kept-keeps : KeepsSetup plan (Some []) (kept_then request started)
  kept-keeps = (inl refl, keeping-keeps)

  one : Some (list_of request) ≡ Some (kept [] (primary_of request))
  one = sym (ap (λ (l : List Entry). Some l) change.kept_is)

-- without an area nothing is to be kept
no-list : (plan : EquipmentPlan) (request : Message) (notes : List Happening)
    → (b : Bool) → due_behind_request (Asked request) (cond b (with_kept request None) None) ≡ Anything
no-list plan request notes true = refl
no-list plan request notes false = refl

no-room : (request : Message) (b : Bool) → HasRoom (cond b (with_kept request None) None)
no-room request true = tt
no-room request false = tt

pub keep : RunsThatKeepIt
keep = record {
  carried = λ plan request reply change. (
    refl,
    (
      sym
          (ap (λ b. cond b (Happening.Recorded (asked_of (primary_of request))) Happening.Refused) change.accepted),
      (
        record { counted = false; is = one plan request change },
        (tt, (tt, (tt, (tt, kept-keeps plan request change)))),
      ),
    ),
  );
  counts = λ plan request change. (
    record { counted = true; is = one plan request change },
    (tt, (inr refl, keeping-keeps plan request change)),
  );
  counts_not = λ plan request change. (
    refl,
    (record { counted = false; is = refl }, (tt, (inr refl, keeping-keeps plan request change))),
  );
  refused = λ plan first second no yes. (
    refl,
    (
      sym (ap (λ b. cond b (Happening.Recorded (asked_of second)) Happening.Refused) yes),
      (
        sym (ap (λ b. cond b (Happening.Recorded (asked_of first)) Happening.Refused) no),
        (record { counted = false; is = refl }, (tt, tt)),
      ),
    ),
  );
  no_area = λ plan request reply.
      let accepted = accepts_primary (tables_at plan []) (primary_of request) in
      let before : List Happening =
      Happening.StepEnded ∷ Happening.Setup None ∷ Happening.EquipmentStarted [] 0 ∷ [] in
      let free = no-list plan request before accepted in (
        subst (λ d. IsNext plan None (Happening.Sent reply ∷ heard request before) (due_behind_other d)
            Happening.StepEnded) (sym free) tt,
        (
          subst (λ d. IsNext plan None (heard request before) d (Happening.Sent reply)) (sym free) tt,
          (
            no-room request accepted,
            (tt, (refl, (record { counted = false; is = refl }, (tt, tt)))),
          ),
        ),
      );
}

-- ---- runs that don't

abbrev the_past : Past → Happening → Past
the_past other (Happening.Recorded past) = past
the_past other _ = other

abbrev first_of : Entry → Option (List Entry) → Entry
first_of other (Some (entry ∷ list)) = entry
first_of other _ = other

-- one of two
carries-none : (entry : Entry) (b : Bool)
    → Happening.StepEnded ≡ cond b (Happening.Recorded (asked_of entry)) Happening.Refused → ⊥
carries-none entry true is = absurd (cc)
carries-none entry false is = absurd (cc)

carries-late : (first second : Entry) → (asked_of first ≡ asked_of second → ⊥) → (b : Bool)
    → Happening.Recorded (asked_of second) ≡ cond b (Happening.Recorded (asked_of first)) Happening.Refused → ⊥
carries-late first second differ true is = differ (sym (ap (the_past (asked_of first)) is))
carries-late first second differ false is = absurd (cc)

-- what is found where nothing was being kept, and where something was
finds-held : (list found : Option (List Entry)) → IsFoundOf list None found → found ≡ list
finds-held list found at = go at.counted at.is
  where
    go : (b : Bool) → found ≡ list_if b None list → found ≡ list
    go true is = is
    go false is = is

finds-either : (request : Message) (list found : Option (List Entry)) → IsFoundOf list (Some request) found
    → (found ≡ list) ⊎ (found ≡ with_kept request list)
finds-either request list found at = go at.counted at.is
  where
    go : (b : Bool) → found ≡ list_if b (Some request) list → (found ≡ list) ⊎ (found ≡ with_kept request list)
    go true is = inr is
    go false is = inl is

abbrev no_entry : Option (List Entry)
no_entry = Some []

none-one : (x : Entry) → no_entry ≡ Some (x ∷ []) → ⊥
none-one x is = absurd (cc)

one-none : (x : Entry) → Some (x ∷ []) ≡ no_entry → ⊥
one-none x is = absurd (cc)

two-none : (x y : Entry) → Some (x ∷ y ∷ []) ≡ no_entry → ⊥
two-none x y is = absurd (cc)

one-two : (x y z : Entry) → Some (x ∷ []) ≡ Some (y ∷ z ∷ []) → ⊥
one-two x y z is = absurd (cc)

no-some : (x : List Entry) → None ≡ Some x → ⊥
no-some x is = absurd (cc)

-- nothing but its keep comes behind a request that is to be kept
only-keep : (plan : EquipmentPlan) (request : Message) → IsChange plan request → (what : Happening)
    → IsNext plan (Some []) (heard request started) (due_in plan (Some []) (heard request started)) what
    → what ≡ Happening.Keeping request
only-keep plan request change what at =
    subst (λ d. IsNext plan (Some []) (heard request started) d what) (due-is plan request change) at

sent-keeping : (reply request : Message) → Happening.Sent reply ≡ Happening.Keeping request → ⊥
sent-keeping reply request is = absurd (cc)

ended-keeping : (request : Message) → Happening.StepEnded ≡ Happening.Keeping request → ⊥
ended-keeping request is = absurd (cc)

sent-within : (reply request : Message)
    → (Happening.Sent reply ≡ Happening.Kept request) ⊎ (Happening.Sent reply ≡ Happening.Power) → ⊥
sent-within reply request (inl is) = absurd (cc)
sent-within reply request (inr is) = absurd (cc)

pub dont : RunsThatDont
dont = record {
  nothing = λ plan entry keeps. carries-none entry (accepts_primary (tables_at plan []) entry) keeps.0;
  late = λ plan first second differ keeps.
      carries-late first second differ (accepts_primary (tables_at plan []) first) keeps.0;
  silent = λ plan held keeps. keeps.0;
  forgotten = λ plan first last keeps.
      one-two first first last (finds-held (Some (first ∷ last ∷ [])) (Some (first ∷ [])) keeps.0);
  lost = λ plan request change keeps.
      none-one (primary_of request)
      (finds-held (Some (kept [] (primary_of request))) (Some []) keeps.0 ∙ sym (one plan request change));
  no_area_left = λ plan keeps. no-some [] (finds-held (Some []) None keeps.0);
  answered = λ plan request reply change keeps.
      sent-keeping reply request (only-keep plan request change (Happening.Sent reply) keeps.0);
  ended = λ plan request change keeps.
      ended-keeping request (only-keep plan request change Happening.StepEnded keeps.0);
  answered_within = λ plan request reply keeps. sent-within reply request keeps.0;
  roomless = λ plan request accepted full keeps.
      let room : has_room (bytes_of (kept [] (primary_of request))) ≡ true =
      subst (λ b. HasRoom (cond b (with_kept request (Some [])) None)) accepted keeps.0 in
      absurd (let same = sym full ∙ room in cc);
  twice = λ plan request change keeps. two-either plan request change keeps.0;
  other = λ plan request entry change differ keeps. other-either plan request entry change differ keeps.0;
  unasked = λ plan request keeps. keeps.0;
}
  where
    two-either : (plan : EquipmentPlan) (request : Message) → IsChange plan request
        → IsFoundOf (Some []) (Some request) (Some (primary_of request ∷ list_of request)) → ⊥
    two-either plan request change at =
        go (finds-either request (Some []) (Some (primary_of request ∷ list_of request)) at)
      where
        go : (Some (primary_of request ∷ list_of request) ≡ Some [])
            ⊎ (Some (primary_of request ∷ list_of request) ≡ Some (kept [] (primary_of request))) → ⊥
        go (inl is) = two-none (primary_of request) (primary_of request) is
        go (inr is) =
            one-two (primary_of request) (primary_of request) (primary_of request)
            (one plan request change ∙ sym is)

    other-either : (plan : EquipmentPlan) (request : Message) (entry : Entry) → IsChange plan request
        → (entry ≡ primary_of request → ⊥)
        → IsFoundOf (Some []) (Some request) (Some (entry ∷ [])) → ⊥
    other-either plan request entry change differ at =
        go (finds-either request (Some []) (Some (entry ∷ [])) at)
      where
        go : (Some (entry ∷ []) ≡ Some []) ⊎ (Some (entry ∷ []) ≡ Some (kept [] (primary_of request))) → ⊥
        go (inl is) = one-none entry is
        go (inr is) = differ (ap (first_of entry) (is ∙ sym (one plan request change)))

pub as_worked : SetupsAreKeptAsWorked
as_worked = record { keep = keep; dont = dont }
