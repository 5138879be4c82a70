-- `or_nearer` meets its contract: by the laws of the first minimum. Assumes nothing.
use Rattle.choice.proofs.Choosing.{taken, kept, is_smaller, is_no_smaller}
use Rattle.choice.proofs.near.Near.or_nearer.Goals as goal

pub returns-in_default : goal.returns-in_default
returns-in_default g c = λ f h p. kept f c.args.number c.args.self h p (is_no_smaller _ _ c.smaller_root-smaller.ensures c.in_default.is)

pub returns : goal.returns
returns g c = λ f h p. taken f c.args.number c.args.self h p (is_smaller _ _ c.smaller_root-smaller.ensures c.in-Some.is)
