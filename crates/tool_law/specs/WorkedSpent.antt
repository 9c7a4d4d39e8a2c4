-- Steps that end with their numbers spent, followed by hand.
use Rattle.std.specs.Prelude.{◌≡◌, ◌-◌, ◌^◌, ℕ, true, false, [], ◌∷◌}
use Rattle.spool_slots.specs.Files.{with_mark}
use Rattle.message_end.specs.Ends.Input.{Time}
use Rattle.tool_step.specs.Equipment.{EquipmentView, act, with_core}
use Rattle.tool_law.specs.Putting.{line_timer_puts}
use Rattle.tool_law.specs.SpentSteps.{ends_spent, finds_mark_spent, finds_spool_spent, finds_spent}
use Rattle.tool_step.specs.WorkedSpool.{last_view, report}

-- this many system bytes are left below the mark
abbrev pub marked_at : ℕ → ℕ → EquipmentView → EquipmentView
marked_at next mark s =
    record s {
      node = with_core (record s.node.core { numbers = record { next = next; end = mark } }) s.node;
      file = with_mark (record { value = mark; second = false }) s.file;
    }

-- as the line fails three reports are to be put, and there is a number for the first of them alone. Where the mark is
-- at its end, a step is made as long as 128 system bytes are left
pub record NumbersEnd : Type 0 where
  pub puts :
      (line_timer_puts 10000 last_view.node.own last_view.node.core).messages
      ≡ report 0 7 ∷ report 1 7 ∷ report 2 7 ∷ []
  pub marked : finds_mark_spent last_view ≡ false
  pub spooled : finds_spool_spent last_view Time 10000 ≡ true
  pub enough : finds_spent (marked_at (2 ^ 32 - 128) (2 ^ 32) last_view) Time 0 ≡ false
  pub wanting : finds_spent (marked_at (2 ^ 32 - 127) (2 ^ 32) last_view) Time 0 ≡ true
  pub ends : ends_spent (act (marked_at (2 ^ 32 - 127) (2 ^ 32) last_view) Time 0) ≡ true
