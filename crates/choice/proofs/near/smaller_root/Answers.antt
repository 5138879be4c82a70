-- `smaller_root` meets its contract: where the square is not smaller, neither is the root. Assumes nothing.
use Rattle.std.proofs.Common.{rules}
use Rattle.choice.proofs.Choosing.{smaller_kept}
use Rattle.choice.proofs.near.smaller_root.Goals as goal

pub returns : goal.returns
returns c =
    smaller_kept c.args.square c.args.best_square c.then.result _ _ (rw c.well_formed.0.1 tt) (rw c.well_formed.1.0.1 tt) c.requires c.then.ensures.variant c.then.ensures.some (λ v k. search rules) c.filter.ensures (λ v b k. search rules)
