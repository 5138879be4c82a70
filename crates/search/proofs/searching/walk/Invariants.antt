-- `walk` meets its contract: the steps that are left from where it stands end where those from the seed do. Assumes nothing.
use mathlib.Core.Path.{◌≡◌}
use Prim.Native.Nat.{◌-◌}
use Rattle.definition.specs.Search.{walked}
use Rattle.search.specs.Steps.{Remembered}
use Rattle.search.proofs.searching.walk.Given as goal

abbrev pub invariant-loop-made : goal.invariant-loop-made
invariant-loop-made g l =
    let step = g.S.Search.step l.search in
    record { same_end : walked step (l.limit - l.made) l.at ≡ walked step l.limit l.initial.at; remembered : Remembered step l.known }
