use Rattle.std.proofs.Common.{◌≡◌, ◌++◌, drop, take}
use Rattle.equipment_node.specs.Cut.{cut_at}
use Rattle.equipment_node.proofs.notes_cut.cut_place.Given as goal

abbrev pub invariant-notes : goal.invariant-notes
invariant-notes l =
    take l.i l.notes ++ cut_at l.left (drop l.i l.notes) ≡ cut_at l.fn.at l.fn.notes
