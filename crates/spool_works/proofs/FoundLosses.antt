-- That what a loss of power leaves of a work is what a start may find.
use Rattle.std.proofs.Common.{◌≡◌, refl, sym, ap, subst, ◌∙◌, ◌⊎◌, inl, inr, arith, zero, suc, ◌-◌, ◌≤◌, true}
use Rattle.std.proofs.Common.{false, ℕ, List, [], ◌∷◌, ◌++◌, append-nil, drop, length, Option, Some, None}
use Rattle.disk_base.specs.declared.cut.CutChoice.{CutChoice}
use Rattle.gem_spool.specs.Updates.{Left}
use Rattle.gem_spool.specs.Standing.{Standing}
use Rattle.gem_spool.specs.declared.works.Work.TheVariants as work
use Rattle.message_end.specs.Own.{Has}
use Rattle.spool_law.specs.Shelf.{IsFoundOf, leaves_by, leaving_of}
use Rattle.spool_file.specs.File.{SpoolFile}
use Rattle.spool_file.specs.Slot.{Message}
use Rattle.trace_log.specs.Names.{Spooled}
use Rattle.trace_log.specs.declared.names.Cause.{Cause}
use Rattle.trace_log.specs.declared.names.Cause.TheVariants as cause
use Rattle.spool_works.specs.DiskWorks.{DiskWork, standing_behind}
use Rattle.spool_works.specs.DiskWorks.DiskWork.{Change, Keep, ReadOldest, Reserve}
use Rattle.spool_works.specs.Found.{found_in, spooled_of}
use Rattle.spool_works.proofs.EachLoss.{each-work}
use Rattle.spool_works.proofs.LossCounts.{Each}
use Rattle.spool_works.specs.WorkLosses.{LossesAreFound, MayLeaveAt, PurgesAreWhole, SetupsAreWhole, calls_at, storing_at}

-- ---- lists

pub found-behind : (list : List Message) (one : Message)
    → found_in (list ++ one ∷ []) ≡ found_in list ++ (one.number, spooled_of one) ∷ []
found-behind [] one = refl
found-behind (first ∷ list) one =
    ap (λ (all : List (ℕ × Spooled)). (first.number, spooled_of first) ∷ all) (found-behind list one)

found-drop : (n : ℕ) (list : List Message) → found_in (drop n list) ≡ drop n (found_in list)
found-drop zero list = refl
found-drop (suc n) [] = refl
found-drop (suc n) (first ∷ list) = found-drop n list

pub found-long : (list : List Message) → length (found_in list) ≡ length list
found-long [] = refl
found-long (first ∷ list) = let rest = found-long list in omega (arith, rest)

pub length-drop-one : (list : List Message) → length (drop 1 list) ≡ length list - 1
length-drop-one [] = refl
length-drop-one (first ∷ list) = omega arith

drop-all : {X : Type 0} (list : List X) → drop (length list) list ≡ []
drop-all [] = refl
drop-all (x ∷ list) = drop-all list

-- ---- what is found

abbrev Finds : List Message → Option (ℕ × Spooled) → Option Cause → List Message → Type 0
Finds stood storing leaving list = IsFoundOf (found_in stood) storing leaving (found_in list)

finds-all : (list : List Message) (storing : Option (ℕ × Spooled)) (leaving : Option Cause)
    → Finds list storing leaving list
finds-all list storing leaving =
    record { missing = 0; stored = false; at_most = omega arith; is = sym (append-nil (found_in list)) }

finds-more : (list : List Message) (one : Message) (leaving : Option Cause)
    → Finds list (Some (one.number, spooled_of one)) leaving (list ++ one ∷ [])
finds-more list one leaving =
    record { missing = 0; stored = true; at_most = omega arith; is = found-behind list one }

finds-less :
    (n : ℕ) (list : List Message) (storing : Option (ℕ × Spooled)) (leaving : Option Cause)
    → n ≤ leaving_of leaving (length (found_in list)) → Finds list storing leaving (drop n list)
finds-less n list storing leaving most = record {
  missing = n;
  stored = false;
  at_most = most;
  is = found-drop n list ∙ sym (append-nil (drop n (found_in list)));
}

-- ---- at each call

each-has : (P : Left → Type 0) (calls : List Left) (left : Left) → Each P calls → Has calls left → P left
each-has P [] left each has = absurd has
each-has P (one ∷ calls) left each (inl same) = subst P (sym same) each.0
each-has P (one ∷ calls) left each (inr has) = each-has P calls left each.1 has

module _ (stood : List Message) (storing : Option (ℕ × Spooled)) (leaving : Option Cause) where
  abbrev pub Leaves : Left → Type 0
  Leaves left = (choice : CutChoice) → Finds stood storing leaving (left choice).list

pub each-call :
    (st : Standing) (one : DiskWork) (leaving : Option Cause) → MayLeaveAt one leaving
    → Each (Leaves st.file.list (storing_at st.next one) leaving) (calls_at st one)
each-call st one leaving may =
    each-work (λ (file : SpoolFile). Finds st.file.list (storing_at st.next one) leaving file.list) st one
    (finds-all st.file.list (storing_at st.next one) leaving)
    (λ gates. finds-all st.file.list (storing_at st.next one) leaving) (after one may)
  where
    some : (why : Cause) → leaving ≡ Some why → leaves_by why (length (found_in st.file.list))
        ≤ leaving_of leaving (length (found_in st.file.list))
    some why is =
        subst
        (λ (leaves : Option Cause).
        leaves_by why (length (found_in st.file.list)) ≤ leaving_of leaves (length (found_in st.file.list)))
        (sym is) (omega arith)

    after : (one : DiskWork) → MayLeaveAt one leaving
        → Finds st.file.list (storing_at st.next one) leaving (standing_behind st one).file.list
    after Reserve may = finds-all st.file.list None leaving
    after (Keep bytes) may = finds-all st.file.list None leaving
    after (ReadOldest slots) may = finds-all st.file.list None leaving
    after (Change (work.Put stream function body)) may =
        finds-more st.file.list (record { number = st.next; stream = stream; function = function; body = body }) leaving
    after (Change (work.DropOldest slots)) (inl is) = finds-less 1 st.file.list None leaving (some cause.Confirmed is)
    after (Change (work.DropOldest slots)) (inr is) = finds-less 1 st.file.list None leaving (some cause.Overwritten is)
    after (Change work.Purge) is = record {
      missing = length (found_in st.file.list);
      stored = false;
      at_most = some cause.Purged is;
      is = sym (append-nil _ ∙ drop-all (found_in st.file.list));
    }

pub losses-found : LossesAreFound
losses-found st one leaving may left has choice =
    each-has (Leaves st.file.list (storing_at st.next one) leaving) (calls_at st one) left
    (each-call st one leaving may) has choice

-- what a loss leaves of a purge
pub purges-whole : PurgesAreWhole
purges-whole st left has choice =
    each-has
    (λ (one : Left). (choice : CutChoice) → ((one choice).list ≡ st.file.list) ⊎ ((one choice).list ≡ []))
    (calls_at st (Change work.Purge)) left
    (each-work (λ (file : SpoolFile). (file.list ≡ st.file.list) ⊎ (file.list ≡ [])) st (Change work.Purge) (inl refl)
    (λ gates. inl refl) (inr refl)) has choice

-- and of the setup
pub setups-whole : SetupsAreWhole
setups-whole st one left has choice =
    each-has
    (λ (some : Left). (choice : CutChoice) → ((some choice).setup ≡ st.file.setup)
    ⊎ ((some choice).setup ≡ (standing_behind st one).file.setup))
    (calls_at st one) left
    (each-work (λ (file : SpoolFile). (file.setup ≡ st.file.setup)
    ⊎ (file.setup ≡ (standing_behind st one).file.setup)) st one (inl refl) (λ gates. inl refl) (inr refl)) has choice
