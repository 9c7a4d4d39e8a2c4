-- That the calls of the disk in a step are those of its works.
use Rattle.std.proofs.Common.{◌≡◌, refl, sym, ap, subst, ◌∙◌, inl, inr, ◌⊎◌, arith, ℕ, ◌+◌, ◌-◌, ◌&&◌, not, Bool, true, false, List, [], ◌∷◌, ◌++◌, append_assoc, append-nil, Option, Some, None, if◌then◌else◌}
use Rattle.std.proofs.lemmas.Bool.Decides.{nat_tests}
use Rattle.std.specs.Prelude.{Result, Ok, Err}
use Rattle.disk_base.specs.Calls.{DiskCall}
use Rattle.disk_base.specs.declared.disk.Disk as disk
use Rattle.gem_spool.specs.declared.spool.GemSpool.{GemSpool}
use Rattle.gem_spool.specs.Standing.{Standing}
use Rattle.host_node.specs.Host.{HostOwn, Kind}
use Rattle.message_end.specs.Core.{Went, and_then}
use Rattle.message_end.specs.Core.Went.{Goes, Spent}
use Rattle.message_end.specs.Ends.{Input}
use Rattle.message_end.specs.Parts.{Node}
use Rattle.message_flow.specs.declared.step.StepOut.{StepOut}
use Rattle.spool_slots.specs.declared.states.Spent.{Spent as Device}
use Rattle.spool_works.specs.DiskCalls.{AreFirstReads, HasBegunWorks, HasFailedIn, HasMade, all_disk_calls, disk_calls}
use Rattle.spool_works.specs.DiskWorks.{DiskWork, standing_behind, standings_behind}
use Rattle.spool_works.specs.DiskWorks.DiskWork.{Change, Reserve}
use Rattle.spool_works.proofs.Called.{all-failed, all-made, failed-before, failed-behind, made-same, made-then, mark-made, mark-stops}
use Rattle.trace_log.specs.declared.commands.HostCommand.{HostCommand}
use Rattle.trace_log.specs.Log.{Happening}
use Rattle.trace_log.specs.Names.{Record}
use Rattle.journal_node.specs.declared.journal_host.JournalEnded.{JournalEnded}
use Rattle.journal_node.specs.declared.journal_host.JournalEnded.TheVariants as ended
use Rattle.journal_node.specs.Amid.{Acts, HasOpened, ListsOf, Opens, entry_works, opened}
use Rattle.journal_node.specs.Held.{Held, IsIn, IsReady, Moves, view_in}
use Rattle.journal_node.specs.Journal.{JournalView, act, acts_on, is_marked_out, listed_of, needs_numbers, put_of, put_works, standing_in}
use Rattle.journal_node.specs.Stepping.{CallsInStep}
use Rattle.journal_node.specs.Works.{reserve_works, works_behind, works_of}
use Rattle.journal_node.proofs.OnDisk.{few-needs, needs-of, opens, opens-none}
use Rattle.journal_node.proofs.StepDone.{step-moves}
use Rattle.journal_node.proofs.StepMoves.{puts-then, reserved-behind}

-- ---- works behind others

calls-both :
    (st : Standing) (xs ys : List DiskWork)
    → all_disk_calls st (xs ++ ys) ≡ all_disk_calls st xs ++ all_disk_calls (standings_behind st xs) ys
calls-both st [] ys = refl
calls-both st (x ∷ xs) ys =
    ap (λ (calls : List DiskCall). disk_calls st x ++ calls) (calls-both (standing_behind st x) xs ys)
    ∙ sym (append_assoc (disk_calls st x) (all_disk_calls (standing_behind st x) xs)
    (all_disk_calls (standings_behind (standing_behind st x) xs) ys))

-- a step that ends early puts nothing, and one that goes on what was delivered, so that nothing of a put is begun by
-- itself
first-reads : (st : Standing) (went : Went JournalView Happening) → AreFirstReads st (works_behind went) []
first-reads st (Spent step) = refl
first-reads st (Goes step) = by (listed_of step.next.node.own.delivered)
  where
    by : (listed : Option Record) → AreFirstReads st (put_works listed) []
    by None = refl
    by (Some listed) = refl

module _ {D : Type 0} (members : disk.Ghosts D) (h : Held D) (input : Input HostCommand) (now : ℕ)
    (on : IsIn members h)
  where
    abbrev s : JournalView
    s = view_in members h

    abbrev old : D
    old = h.journal.spool.disk

    abbrev begun : Standing
    begun = standing_in s

    pub works-by : (needs out : Bool) → needs_numbers s ≡ needs → is_marked_out s.file.mark.value ≡ out
        → reserve_works s ≡ (if needs && not out then Reserve ∷ [] else [])
    works-by needs out is marks =
        ap (λ (b : Bool). if b && not (is_marked_out s.file.mark.value) then Reserve ∷ [] else []) is
        ∙ ap (λ (b : Bool). if needs && not b then Reserve ∷ [] else []) marks

    -- with a reserve or without
    pub reserve-made : (node : Node HostOwn Kind) (g : GemSpool D) → Opens members h.host h.journal node (Ok g)
        → HasMade members old g.spool.disk (all_disk_calls begun (reserve_works s))
    reserve-made node g (inl (enough, node_is, same)) =
        subst (λ (works : List DiskWork). HasMade members old g.spool.disk (all_disk_calls begun works))
        (sym (works-by false (is_marked_out s.file.mark.value)
        (needs-of members s refl s.node.core.numbers enough) refl))
        (made-same members old g.spool.disk (ap (λ (x : GemSpool D). x.spool.disk) same))
    reserve-made node g (inr is) =
        let most = is.reserve.0.0.0 in
        let mark = on.stands.mark in
        let room : is_marked_out s.file.mark.value ≡ false = grind (arith, nat_tests, most, mark) in
        subst (λ (works : List DiskWork). HasMade members old g.spool.disk (all_disk_calls begun works))
        (sym (works-by true false (few-needs members s refl h.host refl is.few) room))
        (mark-made members h.journal.spool g.spool.disk begun on.stands on.told.0 on.told.1 is.reserve.0.0)

    module _ (node : Node HostOwn Kind) (g : GemSpool D) (at : HasOpened members s node g)
        (made : HasMade members old g.spool.disk (all_disk_calls begun (reserve_works s)))
      where
        abbrev st : Standing
        st = standings_behind begun (reserve_works s)

        behind : (new : D) (works : List DiskWork) → works_behind (act s input now) ≡ works
            → HasMade members g.spool.disk new (all_disk_calls st works)
            → HasMade members old new (all_disk_calls begun (works_of s input now))
        behind new works are is =
            subst (λ (all : List DiskWork). HasMade members old new (all_disk_calls begun (reserve_works s ++ all)))
            (sym are)
            (subst (λ (calls : List DiskCall). HasMade members old new calls)
            (sym (calls-both begun (reserve_works s) works))
            (made-then members old g.spool.disk new (all_disk_calls begun (reserve_works s)) (all_disk_calls st works)
            made is))

        none-behind : (new : D) → works_behind (act s input now) ≡ [] → new ≡ g.spool.disk
            → HasMade members old new (all_disk_calls begun (works_of s input now))
        none-behind new are same = behind new [] are (made-same members g.spool.disk new same)

        begun-behind : (spent : Device D) → spent.disk ≡ g.spool.disk
            → HasBegunWorks members old spent.disk begun (works_of s input now)
        begun-behind spent same = record {
          first = reserve_works s;
          rest = works_behind (act s input now);
          are = refl;
          reads = [];
          are_reads = first-reads st (act s input now);
          made =
              subst (λ (calls : List DiskCall). HasMade members old spent.disk calls)
              (sym (append-nil (all_disk_calls begun (reserve_works s))))
              (subst (λ (d : D). HasMade members old d (all_disk_calls begun (reserve_works s))) (sym same) made);
        }

        -- it has no room, or no number
        ends-same :
            (listed : Option Record) (mid out : StepOut) (spent : Device D)
            → ListsOf members listed g mid out (Err (ended.NumbersSpent spent))
            ⊎ ListsOf members listed g mid out (Err (ended.JournalFull spent)) → spent.disk ≡ g.spool.disk
        ends-same None mid out spent (inl lists) = absurd lists
        ends-same None mid out spent (inr lists) = absurd lists
        ends-same (Some listed) mid out spent (inl lists) = lists.2
        ends-same (Some listed) mid out spent (inr lists) = lists.2

        wants-same : (listed : Option Record) (mid out : StepOut) (spent : Device D)
            → ListsOf members listed g mid out (Err (ended.NoMemory spent)) → spent.disk ≡ g.spool.disk
        wants-same None mid out spent lists = absurd lists
        wants-same (Some listed) mid out spent lists = lists

        put-made : (listed : Option Record) (mid out : StepOut) (k : GemSpool D)
            → ListsOf members listed g mid out (Ok k)
            → HasMade members g.spool.disk k.spool.disk (all_disk_calls st (put_works listed))
        put-made None mid out k lists =
            made-same members g.spool.disk k.spool.disk (ap (λ (x : GemSpool D). x.spool.disk) lists.0)
        put-made (Some listed) mid out k lists =
            subst
            (λ (x : Standing). HasMade members g.spool.disk k.spool.disk (all_disk_calls x (put_works (Some listed))))
            (sym (reserved-behind members s node g at input now))
            (all-made members g (entry_works listed) k (standing_in (opened s)) at.on.stands at.on.told.0 at.on.told.1
            (tt, tt) lists.1.done)

        pub acts-called : (out : StepOut) (result : Result (Held D) (JournalEnded D))
            → Acts members node g input now out result → Moves members h input now out result
            → CallsInStep members h input now result
        acts-called out (Ok k) acts moves =
            behind k.journal.spool.disk (put_works (listed_of k.host.own.delivered))
            (ap works_behind moves.gone.is
            ∙ ap (λ (x : JournalView). put_works (listed_of x.node.own.delivered)) moves.gone.next_is)
            (put-made (listed_of k.host.own.delivered) acts.mid out k.journal acts.lists)
        acts-called out (Err (ended.NumbersSpent spent)) (inl ends) moves =
            none-behind spent.disk (ap works_behind moves.0.is) ends.1
        acts-called out (Err (ended.NumbersSpent spent)) (inr unlisted) moves =
            none-behind spent.disk (ap works_behind moves.0.is)
            (ends-same (listed_of unlisted.next.own.delivered) unlisted.mid out spent (inl unlisted.lists))
        acts-called out (Err (ended.JournalFull spent)) (inl ends) moves = absurd ends
        acts-called out (Err (ended.JournalFull spent)) (inr unlisted) moves =
            none-behind spent.disk (ap works_behind moves.0.is)
            (ends-same (listed_of unlisted.next.own.delivered) unlisted.mid out spent (inr unlisted.lists))
        acts-called out (Err (ended.NoMemory spent)) (inl ends) moves = begun-behind spent ends.1
        acts-called out (Err (ended.NoMemory spent)) (inr unlisted) moves =
            begun-behind spent (wants-same
            (listed_of unlisted.next.own.delivered) unlisted.mid out spent unlisted.lists)
        acts-called out (Err (ended.DiskFailed spent)) (inl ends) moves = absurd ends
        acts-called out (Err (ended.DiskFailed spent)) (inr unlisted) moves =
            let puts = puts-then members s node g at input now out spent unlisted in
            let undone = puts.2 in
            subst
            (λ (all : List DiskWork). HasFailedIn members old spent.disk (all_disk_calls begun (reserve_works s
            ++ all)))
            (sym puts.1)
            (subst (λ (calls : List DiskCall). HasFailedIn members old spent.disk calls)
            (sym (calls-both begun (reserve_works s) (Change (put_of puts.0) ∷ [])))
            (failed-behind members old g.spool.disk spent.disk (all_disk_calls begun (reserve_works s))
            (all_disk_calls st (Change (put_of puts.0) ∷ [])) made
            (subst
            (λ (x : Standing).
            HasFailedIn members g.spool.disk spent.disk (all_disk_calls x (Change (put_of puts.0) ∷ [])))
            (sym (reserved-behind members s node g at input now))
            (all-failed members g (entry_works puts.0) 0 undone.failed undone.before spent
            (standing_in (opened s)) at.on.stands at.on.told.0 at.on.told.1 (tt, tt)
            undone.is undone.done undone.fails))))

    pub step-called :
        (node : Node HostOwn Kind) (g : GemSpool D) (out : StepOut) (result : Result (Held D) (JournalEnded D))
        → IsReady h.journal.spool h.host → Opens members h.host h.journal node (Ok g)
        → Acts members node g input now out result → CallsInStep members h input now result
    step-called node g out result ready is acts =
        acts-called node g (opens members s refl h.host node h.journal g refl on ready is)
        (reserve-made node g is) out result acts
        (step-moves members h input now node g out result ready on is acts)

    -- it hasn't numbers enough
    pub unopened-called :
        (node : Node HostOwn Kind) (end : JournalEnded D) → Opens members h.host h.journal node (Err end)
        → CallsInStep members h input now (Err end)
    unopened-called node (ended.NumbersSpent spent) is =
        let none = is.none in
        let mark = on.stands.mark in
        let out : is_marked_out s.file.mark.value ≡ true = grind (arith, nat_tests, none, mark) in
        let begins_is = opens-none members s refl h.host h.journal spent refl on is in
        subst (λ (works : List DiskWork). HasMade members old spent.disk (all_disk_calls begun works))
        (sym (ap (λ (works : List DiskWork). works ++ works_behind (act s input now))
        (works-by true true (few-needs members s refl h.host refl is.few) out)
        ∙ ap (λ (went : Went JournalView Happening). works_behind (and_then went (acts_on input now))) begins_is))
        (made-same members old spent.disk is.same_disk)
    unopened-called node (ended.DiskFailed spent) is =
        let most = is.reserve.0 in
        let mark = on.stands.mark in
        let room : is_marked_out s.file.mark.value ≡ false = grind (arith, nat_tests, most, mark) in
        subst
        (λ (works : List DiskWork).
        HasFailedIn members old spent.disk (all_disk_calls begun (works ++ works_behind (act s input now))))
        (sym (works-by true false (few-needs members s refl h.host refl is.few) room))
        (subst (λ (calls : List DiskCall). HasFailedIn members old spent.disk calls)
        (sym (calls-both begun (Reserve ∷ []) (works_behind (act s input now))))
        (failed-before members old spent.disk (all_disk_calls begun (Reserve ∷ []))
        (all_disk_calls (standings_behind begun (Reserve ∷ [])) (works_behind (act s input now)))
        (mark-stops members h.journal.spool spent.disk begun on.stands on.told.0 on.told.1 is.reserve)))
    unopened-called node (ended.JournalFull spent) is = absurd is
    unopened-called node (ended.NoMemory spent) is = absurd is
