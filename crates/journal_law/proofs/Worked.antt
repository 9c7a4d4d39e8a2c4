-- The worked journals.
use Rattle.std.proofs.Common.{◌≡◌, refl, ap, arith, ◌+◌, ◌≤◌, ◌&&◌, nat_le, ℕ, zero, suc, [], ◌∷◌, ◌++◌, drop, None}
use Rattle.journal_law.specs.Worked.{ForgetsItsJournal, HasRoomForThree, WritesBehindSteps}
use Rattle.message_end.specs.Course.Meeting.{Restarts}
use Rattle.spool_file.specs.Sizes.{slots_for}
use Rattle.spool_law.specs.Shelf.{IsFoundOf, stored_if}
use Rattle.trace_log.specs.Names.{Spooled}

pub has-room : HasRoomForThree
unfolding slots_for
has-room = record {
  third = refl;
  fourth = refl;
  long_one = refl;
  beside = refl;
  too_long = λ message is. ap (λ (n : ℕ). nat_le n 1048576 && nat_le (0 + slots_for n) 300) is;
}

-- where a message stands, and none leaves, not nothing is found
pub not-nothing : (one : ℕ × Spooled) → IsFoundOf (one ∷ []) None None [] → ⊥
not-nothing one found = go found.missing found.at_most found.is
  where
    go : (missing : ℕ) → missing ≤ 0 → [] ≡ drop missing (one ∷ []) ++ stored_if found.stored None → ⊥
    go zero none same = cc
    go (suc n) none same = absurd (omega (arith, none))

pub forgets-it : ForgetsItsJournal
unfolding slots_for
forgets-it = record {
  no_gap = (refl, refl);
  forgets = λ plan kept. not-nothing _ (kept (Restarts 0 ∷ [])).0;
}

pub writes-behind : WritesBehindSteps
writes-behind = record { behind = (tt, tt); before = λ both. both.0 }
