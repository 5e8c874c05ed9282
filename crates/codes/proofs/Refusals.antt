-- What passed a chain of tests passed each of them.
use Rattle.std.proofs.Common.{◌≡◌, Bool, true, false, Ok, Result, refl}
use Rattle.codes.specs.Reports.{refuse}

pub passed : {V F : Type 0} (test : Bool) (fault : F) (rest : Result V F) (v : V) → refuse test fault rest ≡ Ok v → (test ≡ false) × (rest ≡ Ok v)
passed true fault rest v e = cc
passed false fault rest v e = (refl, e)
