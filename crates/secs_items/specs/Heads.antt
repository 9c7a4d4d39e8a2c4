-- The head that code has read.
use Rattle.std.specs.Prelude.{◌≡◌, ℕ, ◌%◌, ◌<◌, ◌≤◌, true, false, List, length}
use Rattle.secs_items.specs.declared.head.Head as code
use Rattle.secs_items.specs.Kinds.{is_list, unit_of}
use Rattle.secs_items.specs.Reading.{Head}

abbrev pub head_view : code.Head → Head
head_view h = record { kind = h.kind; size = h.size; rest = h.rest.now }

-- a head that was read at the front of bytes where lists may still nest so deep
pub record HeadFits (depth : ℕ) (bytes : List ℕ) (h : Head) : Type 0 where
  pub within : length h.rest ≤ length bytes
  pub even : h.size % unit_of h.kind ≡ 0
  pub deep : is_list h.kind ≡ true → 0 < depth
  pub whole : is_list h.kind ≡ false → h.size ≤ length h.rest
