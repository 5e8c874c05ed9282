use Rattle.std.proofs.Common.{refl}
use Rattle.head.specs.Checks.{rate}
use Rattle.interlock.proofs.tried.tried_values_hold.Goals as goal

pub returns : goal.returns
unfolding rate
returns c = (refl, refl, refl, refl, refl, refl, refl, refl, refl, refl, refl, refl, refl, refl, refl, refl)
