-- What the calls in a disk's list come to.
use Rattle.std.proofs.Common.{◌≡◌, ℕ, Bool, true, false, List, [], ◌∷◌, ◌++◌, fold, length, Option, None, Some, if◌then◌else◌, refl, sym, ap, ◌∙◌, arith, append_assoc, append-nil}
use Rattle.std.proofs.lemmas.List.Sums.{fold-append}
use Rattle.std.specs.Option.{option_map}
use Rattle.disk_base.specs.Calls.{DiskCall}
use Rattle.disk_base.specs.Listed.{AsListed, next_story}
use Rattle.disk_base.specs.MemDisk.{DiskState, after_call, after_entry, after_refusal, is_full, next_attach}
use Rattle.disk_base.specs.Story.{Story}

-- of a disk in memory that hasn't stopped
module _ (s : DiskState) (call : DiskCall) where
  entry_listed : (stopped : Bool) → stopped ≡ false →
      AsListed (Some s.story) (Some s.calls) (Some (if stopped then s.story else next_story s.story call)) (Some (s.calls ++ call ∷ []))
  entry_listed true is = absurd (grind (arith, is))
  entry_listed false is = record { more = call ∷ []; calls = refl; told = refl }

  by_room : (full : Bool) → s.plan.stopped ≡ false →
      AsListed (Some s.story) (Some s.calls) (Some (if full then after_refusal s else after_entry call s).story)
      (Some (if full then after_refusal s else after_entry call s).calls)
  by_room true going = record { more = []; calls = ap Some (sym (append-nil s.calls)); told = refl }
  by_room false going = entry_listed s.plan.stopped going

  pub as_listed : s.plan.stopped ≡ false → AsListed (Some s.story) (Some s.calls) (Some (after_call call s).story) (Some (after_call call s).calls)
  as_listed = by_room (is_full (length call.bytes) s)

-- one stretch of calls behind another
both_listed : (more last : List DiskCall) (calls : Option (List DiskCall)) →
    option_map (λ (all : List DiskCall). all ++ last) (option_map (λ (all : List DiskCall). all ++ more) calls)
    ≡ option_map (λ (all : List DiskCall). all ++ (more ++ last)) calls
both_listed more last None = refl
both_listed more last (Some all) = ap Some (append_assoc all more last)

both_told : (more last : List DiskCall) (told : Option Story) →
    option_map (λ story. fold next_story story last) (option_map (λ story. fold next_story story more) told)
    ≡ option_map (λ story. fold next_story story (more ++ last)) told
both_told more last None = refl
both_told more last (Some story) = ap Some (sym (fold-append next_story story more last))

pub listed_behind : {a b c : Option Story} {k l m : Option (List DiskCall)} → AsListed a k b l → AsListed b l c m → AsListed a k c m
listed_behind {a} {b} {c} {k} {l} {m} first second = record {
  more = first.more ++ second.more;
  calls = second.calls ∙ ap (λ calls. option_map (λ (all : List DiskCall). all ++ second.more) calls) first.calls ∙ both_listed first.more second.more k;
  told = second.told ∙ ap (λ told. option_map (λ story. fold next_story story second.more) told) first.told ∙ both_told first.more second.more a;
}

-- an attaching keeps all bytes
pub attaching_keeps : (s : DiskState) (grow : ℕ) → (after_call (next_attach grow s) s).story ≡ s.story
attaching_keeps s grow =
    let call = next_attach grow s in
    elim (is_full 0 s) as (λ full. (if full then after_refusal s else after_entry call s).story ≡ s.story) [
      | true ↦ refl
      | false ↦ elim s.plan.stopped as (λ stopped. (if stopped then s.story else s.story) ≡ s.story) [ true ↦ refl | false ↦ refl ]
    ]
