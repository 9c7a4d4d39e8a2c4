-- That a step whose disk goes on where a call fails misses it: those before it were made, with what is noted by then.
use Rattle.std.proofs.Common.{◌≡◌, refl, sym, ap, subst, ◌∙◌, ◌⊎◌, inl, inr, arith, suc, ◌+◌, ℕ, List, [], ◌∷◌}
use Rattle.std.proofs.Common.{◌++◌, append_assoc, drop, length, length-append, map, take, Some}
use Rattle.std.proofs.lemmas.List.{map-append}
use Rattle.std.specs.Prelude.{slice_get}
use Rattle.disk_base.specs.Calls.{DiskCall}
use Rattle.disk_base.specs.Faults.{IsLeftOut}
use Rattle.disk_base.specs.declared.disk.Disk as disk
use Rattle.disk_base.proofs.Stretches.{left_out_behind}
use Rattle.gem_spool.specs.Standing.{Standing}
use Rattle.message_flow.specs.declared.step.Note.{Note}
use Rattle.spool_file.specs.Logs.{written_by}
use Rattle.spool_file.proofs.Making.{written_both}
use Rattle.trace_log.specs.Log.{Happening}
use Rattle.message_end.specs.Ends.{Loss, printed}
use Rattle.spool_works.specs.DiskCalls.{HasFailedIn, HasMade, all_disk_calls, disk_calls, failing, with_calls}
use Rattle.spool_works.specs.DiskWorks.{DiskWork, front_at, fronts_of, lines_behind, lines_up_to, standing_behind}
use Rattle.spool_works.specs.DiskWorks.{standings_behind}
use Rattle.spool_works.specs.WorkLosses.{lost_calls}
use Rattle.spool_works.proofs.Called.{with-both}
use Rattle.spool_works.proofs.EachFront.{all_behind, all_up_to}
use Rattle.spool_works.proofs.LossCounts.{IsBeside, beside-call, lost-sizes}
use Rattle.tool_step.proofs.LossCalls.{losses-both, map-sizes}
use Rattle.tool_step.specs.Equipment.{EquipmentView}
use Rattle.tool_step.specs.Losses.{loss_at, losses_of}
use Rattle.equipment_node.specs.Breaking.{HasMissedAt, Passes, bytes_of, sizes_of}
use Rattle.equipment_node.proofs.BreakPlaces.{parted, taken}
use Rattle.equipment_node.proofs.Broken.{both-sized}
use Rattle.equipment_node.proofs.BrokenSteps.{same-some}

module _ {D : Type 0} (members : disk.Ghosts D) where
  -- the calls of a work are those of its losses
  work-sized : (s : EquipmentView) (st : Standing) (one : DiskWork) (front : List Happening)
      → bytes_of (disk_calls st one) ≡ sizes_of (map (loss_at s front) (lost_calls st one))
  work-sized s st one front = sym (map-sizes s front (lost_calls st one) ∙ lost-sizes st one)

  pub passes-work :
      (s : EquipmentView) (old new : D) (one : DiskWork) (st : Standing) (front : List Happening)
      → HasMade members old new (disk_calls st one)
      → Passes members old (map (loss_at s front) (lost_calls st one)) new
  passes-work s old new one st front is =
      record { made = disk_calls st one; sized = work-sized s st one front; are = is }

  -- and so it is of all works
  works-sized : (s : EquipmentView) (works : List DiskWork) (st : Standing) (before notes : List Happening)
      → bytes_of (all_disk_calls st works) ≡ sizes_of (losses_of s st before works notes)
  works-sized s [] st before notes = refl
  works-sized s (one ∷ works) st before notes =
      both-sized (disk_calls st one) (all_disk_calls (standing_behind st one) works)
      (map (loss_at s (front_at one before notes)) (lost_calls st one))
      (losses_of s (standing_behind st one) (lines_up_to one before notes) works (lines_behind one notes))
      (work-sized s st one (front_at one before notes))
      (works-sized s works (standing_behind st one) (lines_up_to one before notes) (lines_behind one notes))

  pub passes-works :
      (s : EquipmentView) (old new : D) (works : List DiskWork) (st : Standing) (before notes : List Happening)
      → HasMade members old new (all_disk_calls st works)
      → Passes members old (losses_of s st before works notes) new
  passes-works s old new works st before notes is =
      record { made = all_disk_calls st works; sized = works-sized s works st before notes; are = is }

  -- ---- the call that it misses, and those before it

  -- in one work
  pub missed-work :
      (s : EquipmentView) (st : Standing) (one : DiskWork) (front : List Happening) (old new : D) (notes : List Note)
      → notes ≡ printed front → HasFailedIn members old new (disk_calls st one)
      → HasMissedAt members old new (map (loss_at s front) (lost_calls st one)) notes
  missed-work s st one front old new notes noted is = record {
    first = map (loss_at s front) at.before;
    loss = loss_at s front (length is.failed.bytes, at.left);
    rest = map (loss_at s front) at.rest;
    are =
        ap (map (loss_at s front)) at.are
        ∙ map-append (loss_at s front) at.before ((length is.failed.bytes, at.left) ∷ at.rest);
    noted = noted;
    made = is.first;
    sized = sym (map-sizes s front at.before ∙ at.sized);
    listed = go is.listed;
  }
    where
      at : IsBeside (lost_calls st one) is.first is.failed
      at = beside-call st one is.first is.failed is.rest is.are

      LeftOut : Type 0
      LeftOut =
          IsLeftOut (members.health old) (members.health new) (length is.first)
          (written_by is.first + length is.failed.bytes) × (members.calls new ≡ with_calls is.first (members.calls old))

      go : (members.calls new ≡ with_calls (is.first ++ failing is.failed ∷ []) (members.calls old)) ⊎ LeftOut
          → LeftOut
          ⊎ ((last : DiskCall) × (members.calls new ≡ with_calls (is.first ++ failing last ∷ []) (members.calls old)))
      go (inl calls) = inr (is.failed, calls)
      go (inr out) = inl out

  -- in some works before others
  pub missed-before :
      (old new : D) (one two : List (Loss EquipmentView)) (notes : List Note) → HasMissedAt members old new one notes
      → HasMissedAt members old new (one ++ two) notes
  missed-before old new one two notes is = record {
    first = is.first;
    loss = is.loss;
    rest = is.rest ++ two;
    are =
        ap (λ (all : List (Loss EquipmentView)). all ++ two) is.are ∙ append_assoc is.first (is.loss ∷ is.rest) two;
    noted = is.noted;
    made = is.made;
    sized = is.sized;
    listed = is.listed;
  }

  -- and behind some whose calls were all made
  pub missed-behind :
      (a b c : D) (one two : List (Loss EquipmentView)) (notes : List Note) → Passes members a one b
      → HasMissedAt members b c two notes → HasMissedAt members a c (one ++ two) notes
  missed-behind a b c one two notes passed is = record {
    first = one ++ is.first;
    loss = is.loss;
    rest = is.rest;
    are =
        ap (λ (all : List (Loss EquipmentView)). one ++ all) is.are
        ∙ sym (append_assoc one is.first (is.loss ∷ is.rest));
    noted = is.noted;
    made = passed.made ++ is.made;
    sized = both-sized passed.made is.made one is.first passed.sized is.sized;
    listed = go is.listed;
  }
    where
      long : length (passed.made ++ is.made) ≡ length passed.made + length is.made
      long = length-append passed.made is.made

      bytes : written_by (passed.made ++ is.made) ≡ written_by passed.made + written_by is.made
      bytes = written_both passed.made is.made

      made : (calls : List DiskCall) → members.calls c ≡ with_calls calls (members.calls b)
          → members.calls c ≡ with_calls (passed.made ++ calls) (members.calls a)
      made calls all =
          all ∙ ap (with_calls calls) passed.are.listed ∙ with-both passed.made calls (members.calls a)

      Listed : D → List DiskCall → Type 0
      Listed old all =
          (IsLeftOut (members.health old) (members.health c) (length all) (written_by all + is.loss.bytes)
          × (members.calls c ≡ with_calls all (members.calls old)))
          ⊎ ((last : DiskCall) × (members.calls c ≡ with_calls (all ++ failing last ∷ []) (members.calls old)))

      go : Listed b is.made → Listed a (passed.made ++ is.made)
      go (inl (out, calls)) =
          inl (
            left_out_behind (members.health a) (members.health b) (length passed.made) (written_by passed.made)
                passed.are.used (members.health c) (length is.made) (written_by is.made + is.loss.bytes)
                (length (passed.made ++ is.made)) (written_by (passed.made ++ is.made) + is.loss.bytes)
                (omega (arith, long)) (omega (arith, bytes)) out,
            made is.made calls,
          )
      go (inr (last, calls)) =
          inr (
            last,
            made (is.made ++ failing last ∷ []) calls
                ∙ ap (λ (all : List DiskCall). with_calls all (members.calls a))
                (sym (append_assoc passed.made is.made (failing last ∷ []))),
          )

  -- in one of some works, whatever comes behind them
  front-there :
      (xs rest : List DiskWork) (one : DiskWork) (before notes : List Happening)
      → slice_get (fronts_of before (xs ++ one ∷ rest) notes) (length xs)
      ≡ Some (front_at one (all_up_to xs before notes) (all_behind xs notes))
  front-there [] rest one before notes = refl
  front-there (x ∷ xs) rest one before notes =
      front-there xs rest one (lines_up_to x before notes) (lines_behind x notes)

  missed-then :
      (s : EquipmentView) (xs rest : List DiskWork) (one : DiskWork) (a b c : D) (st : Standing)
      (before notes : List Happening) (said : List Note) → HasMade members a b (all_disk_calls st xs)
      → HasFailedIn members b c (disk_calls (standings_behind st xs) one)
      → said ≡ printed (front_at one (all_up_to xs before notes) (all_behind xs notes))
      → HasMissedAt members a c (losses_of s st before (xs ++ one ∷ rest) notes) said
  missed-then s xs rest one a b c st before notes said made fails noted =
      let up = all_up_to xs before notes in
      let behind = all_behind xs notes in
      let there = standings_behind st xs in
      let here = map (loss_at s (front_at one up behind)) (lost_calls there one) in
      let later =
      losses_of s (standing_behind there one) (lines_up_to one up behind) rest (lines_behind one behind) in
      subst (λ (all : List (Loss EquipmentView)). HasMissedAt members a c all said)
      (sym (losses-both s xs (one ∷ rest) st before notes))
      (missed-behind a b c (losses_of s st before xs notes) (here ++ later) said
      (passes-works s a b xs st before notes made)
      (missed-before b c here later said (missed-work s there one (front_at one up behind) b c said noted fails)))

  pub missed-at :
      (s : EquipmentView) (works more : List DiskWork) (at : ℕ) (one : DiskWork) (a b c : D) (st : Standing)
      (before notes front : List Happening) (said : List Note) → slice_get works at ≡ Some one
      → HasMade members a b (all_disk_calls st (take at works))
      → HasFailedIn members b c (disk_calls (standings_behind st (take at works)) one)
      → slice_get (fronts_of before (works ++ more) notes) at ≡ Some front → said ≡ printed front
      → HasMissedAt members a c (losses_of s st before (works ++ more) notes) said
  missed-at s works more at one a b c st before notes front said place made fails is noted =
      subst (λ (ws : List DiskWork). HasMissedAt members a c (losses_of s st before ws notes) said) (sym whole)
      (missed-then s xs rest one a b c st before notes said made fails (noted ∙ ap printed same))
    where
      xs : List DiskWork
      xs = take at works

      rest : List DiskWork
      rest = drop (suc at) works ++ more

      whole : works ++ more ≡ xs ++ one ∷ rest
      whole =
          ap (λ (ws : List DiskWork). ws ++ more) (parted works at one place)
          ∙ append_assoc xs (one ∷ drop (suc at) works) more

      here : List Happening
      here = front_at one (all_up_to xs before notes) (all_behind xs notes)

      same : front ≡ here
      same =
          same-some front here
          (sym is
          ∙ ap (λ (ws : List DiskWork). slice_get (fronts_of before ws notes) at) whole
          ∙ ap (λ (n : ℕ). slice_get (fronts_of before (xs ++ one ∷ rest) notes) n) (sym (taken works at one place))
          ∙ front-there xs rest one before notes)
