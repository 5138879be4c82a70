-- The first t entries of the row are written from its start on.
use Rattle.std.proofs.Common.{◌≡◌, ◌+◌, ◌≤◌, length}
use Rattle.definition.specs.Query.{values}
use Rattle.materials.specs.Products.{over_from, entry_of}
use Rattle.materials.proofs.put_row.Given as goal

abbrev pub invariant-loop-t : goal.invariant-loop-t
invariant-loop-t l =
    (l.start + l.columns ≤ length l.out) × (l.out ≡ over_from l.start (values (entry_of l.a l.b l.columns l.i) l.t) l.initial.out)
