-- `materials::copy_material` meets its contract: the closure reads one number of the list a place. Assumes nothing.
use mathlib.Core.Path.{◌≡◌}
use Rattle.std.proofs.Common.{rules}
use lib.ListN.{get_or}
use lib.Ieee.{nan}
use Rattle.materials.specs.Sixteen.{sixteen}
use Rattle.materials.proofs.Filled.{made}
use Rattle.materials.proofs.copy_material.Goals as goal

pub returns : goal.returns
unfolding sixteen
returns c = made _ (λ f. f.0.now ≡ c.args.material.now) (λ i. get_or c.args.material.now i nan) (λ f i y q a k. Prim.search rules) nan (Prim.search rules) c.from_fn.ensures.items
