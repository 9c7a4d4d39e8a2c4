-- Kept lists worked by computing.
use Rattle.std.proofs.Common.{◌≡◌, refl, sym, ◌∙◌, ap, true, false, not, nat_lt, ℕ, List, [], ◌∷◌, Some, None}
use Rattle.std.proofs.lemmas.List.{length-replicate}
use Rattle.secs_items.specs.declared.item.Item.{Item, out-Item}
use Rattle.secs_items.specs.declared.item.Item.TheOpen.{Item-F}
use Rattle.secs_items.specs.declared.item.Item.TheVariants as item
use Rattle.secs_items.specs.declared.item.Item.TheVariants.{rolls-B, rolls-Bool, rolls-L, rolls-U1}
use Rattle.secs_items.specs.declared.item.Item.TheViews.{out-roll-Item, roll-Item}
use Rattle.secs_items.specs.Reading.{format_at, head_at, item_at, size_at}
use Rattle.setup_store.specs.declared.change.Change.TheVariants as change
use Rattle.setup_store.specs.Entries.{most_kept}
use Rattle.setup_store.specs.Kept.{change_by}
use Rattle.setup_store.specs.Worked.{BytesAreAsWorked, KeptListsAreAsWorked, ReportsAreAsWorked, SettingsAreAsWorked, alarm, alarms, constants, define, eleven, entry, events, link, linked, rule, ten}

opened : (x : Item-F Item) (i : Item) → roll-Item x ≡ i → out-Item i ≡ x
opened x i rolls = ap out-Item (sym rolls) ∙ out-roll-Item x

pub out_L : (xs : List Item) → out-Item (item.L xs) ≡ Item-F.L xs
out_L xs = opened (Item-F.L xs) (item.L xs) (rolls-L xs)

pub out_U1 : (xs : List ℕ) → out-Item (item.U1 xs) ≡ Item-F.U1 xs
out_U1 xs = opened (Item-F.U1 xs) (item.U1 xs) (rolls-U1 xs)

out_B : (xs : List ℕ) → out-Item (item.B xs) ≡ Item-F.B xs
out_B xs = opened (Item-F.B xs) (item.B xs) (rolls-B xs)

out_Bool : (xs : List ℕ) → out-Item (item.Bool xs) ≡ Item-F.Bool xs
out_Bool xs = opened (Item-F.Bool xs) (item.Bool xs) (rolls-Bool xs)

is_ten : change_by ten ≡ Some (change.Definitions (record { rptid = 10; vids = 1 ∷ [] } ∷ []))
unfolding item_at head_at format_at size_at
is_ten = simp (out_L, out_U1) refl

is_eleven : change_by eleven ≡ Some (change.Definitions (record { rptid = 11; vids = 1 ∷ [] } ∷ []))
unfolding item_at head_at format_at size_at
is_eleven = simp (out_L, out_U1) refl

is_deleted : change_by (define ((10, []) ∷ [])) ≡ Some (change.Definitions (record { rptid = 10; vids = [] } ∷ []))
unfolding item_at head_at format_at size_at
is_deleted = simp (out_L, out_U1) refl

are_deleted : change_by (define []) ≡ Some (change.Definitions [])
unfolding item_at head_at format_at size_at
are_deleted = simp (out_L, out_U1) refl

is_linked : change_by linked ≡ Some (change.Linkings (record { ceid = 1; rptids = 10 ∷ [] } ∷ []))
unfolding item_at head_at format_at size_at
is_linked = simp (out_L, out_U1) refl

is_unlinked : change_by (link ((1, []) ∷ [])) ≡ Some (change.Linkings (record { ceid = 1; rptids = [] } ∷ []))
unfolding item_at head_at format_at size_at
is_unlinked = simp (out_L, out_U1) refl

links_none : change_by (link []) ≡ Some (change.Linkings [])
unfolding item_at head_at format_at size_at
links_none = simp (out_L, out_U1) refl

is_on : change_by (events 1 (1 ∷ [])) ≡ Some (change.Events true (1 ∷ []))
unfolding item_at head_at format_at size_at
is_on = simp (out_L, out_U1, out_Bool) refl

sets_101 : change_by (constants ((101, 5) ∷ [])) ≡ Some (change.Constants ((101, 5) ∷ []))
unfolding item_at head_at format_at size_at
sets_101 = simp (out_L, out_U1) refl

sets_both : change_by (constants ((102, 1) ∷ (101, 7) ∷ [])) ≡ Some (change.Constants ((102, 1) ∷ (101, 7) ∷ []))
unfolding item_at head_at format_at size_at
sets_both = simp (out_L, out_U1) refl

sets_two : change_by (constants ((101, 5) ∷ (102, 0) ∷ [])) ≡ Some (change.Constants ((101, 5) ∷ (102, 0) ∷ []))
unfolding item_at head_at format_at size_at
sets_two = simp (out_L, out_U1) refl

sets_again : change_by (constants ((101, 7) ∷ [])) ≡ Some (change.Constants ((101, 7) ∷ []))
unfolding item_at head_at format_at size_at
sets_again = simp (out_L, out_U1) refl

sets_none : change_by (constants []) ≡ Some (change.Constants [])
unfolding item_at head_at format_at size_at
sets_none = simp out_L refl

on_two : change_by (events 1 (1 ∷ 2 ∷ 1 ∷ [])) ≡ Some (change.Events true (1 ∷ 2 ∷ 1 ∷ []))
unfolding item_at head_at format_at size_at
on_two = simp (out_L, out_U1, out_Bool) refl

off_three : change_by (events 0 (3 ∷ [])) ≡ Some (change.Events false (3 ∷ []))
unfolding item_at head_at format_at size_at
off_three = simp (out_L, out_U1, out_Bool) refl

off_both : change_by (events 0 (2 ∷ 1 ∷ [])) ≡ Some (change.Events false (2 ∷ 1 ∷ []))
unfolding item_at head_at format_at size_at
off_both = simp (out_L, out_U1, out_Bool) refl

off_all : change_by (events 0 []) ≡ Some (change.Events false [])
unfolding item_at head_at format_at size_at
off_all = simp (out_L, out_Bool) refl

on_all : change_by (events 1 []) ≡ Some (change.Events true [])
unfolding item_at head_at format_at size_at
on_all = simp (out_L, out_Bool) refl

on_both : change_by (events 1 (1 ∷ 2 ∷ [])) ≡ Some (change.Events true (1 ∷ 2 ∷ []))
unfolding item_at head_at format_at size_at
on_both = simp (out_L, out_U1, out_Bool) refl

alarm_1_on : change_by (alarm 128 1) ≡ Some (change.Alarms true (Some 1))
unfolding item_at head_at format_at size_at
alarm_1_on = simp (out_L, out_U1, out_B) refl

alarm_2_on : change_by (alarm 128 2) ≡ Some (change.Alarms true (Some 2))
unfolding item_at head_at format_at size_at
alarm_2_on = simp (out_L, out_U1, out_B) refl

alarm_1_off : change_by (alarm 0 1) ≡ Some (change.Alarms false (Some 1))
unfolding item_at head_at format_at size_at
alarm_1_off = simp (out_L, out_U1, out_B) refl

alarms_off : change_by (alarms 0) ≡ Some (change.Alarms false None)
unfolding item_at head_at format_at size_at
alarms_off = simp (out_L, out_U1, out_B) refl

rule_events :
    change_by (rule ((6, 11 ∷ []) ∷ [])) ≡ Some (change.Rule (record { stream = 6; functions = 11 ∷ [] } ∷ []))
unfolding item_at head_at format_at size_at
rule_events = simp (out_L, out_U1) refl

rule_none : change_by (rule []) ≡ Some (change.Rule [])
unfolding item_at head_at format_at size_at
rule_none = simp out_L refl

no_shape : change_by (entry 2 37 (0 ∷ [])) ≡ None
unfolding item_at head_at format_at size_at
no_shape = refl

reports : ReportsAreAsWorked
reports = record {
  anew = simp (is_ten, are_deleted, is_eleven) refl;
  deleted = simp (is_ten, is_linked, is_on, are_deleted) refl;
  one_deleted = simp (is_ten, is_deleted) refl;
  links = simp (is_ten, is_linked, is_unlinked) refl;
  no_links = simp (is_ten, is_linked, links_none) refl;
}

settings : SettingsAreAsWorked
settings = record {
  constants_again = simp (sets_101, sets_both) refl;
  constants_in_part = simp (sets_two, sets_again) refl;
  no_constants = simp (sets_101, sets_none) refl;
  events_again = simp (on_two, off_three, off_both) refl;
  all_events = simp (is_on, off_all, on_both) refl;
  alarms_again = simp (alarm_1_on, alarm_2_on, alarm_1_off) refl;
  all_alarms = simp (alarm_1_on, alarms_off, alarm_2_on) refl;
  rules = simp (rule_events, rule_none) refl;
  shapeless_stays = simp (is_on, no_shape) refl;
  shapeless_goes = simp on_all refl;
}

bytes : BytesAreAsWorked
bytes = record {
  spelled = refl;
  none = refl;
  read = refl;
  stream = refl;
  function = refl;
  of_another = refl;
  second = refl;
  head_alone = refl;
  no_length = refl;
  no_body = refl;
  long = refl;
  fits = ap (λ n. not (nat_lt most_kept n)) (length-replicate {A = ℕ} 262144 0);
  one_more = ap (λ n. not (nat_lt most_kept n)) (length-replicate {A = ℕ} 262145 0);
}

pub as_worked : KeptListsAreAsWorked
as_worked = record { reports = reports; settings = settings; bytes = bytes }
