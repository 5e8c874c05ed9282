-- How a mode is printed.
use Rattle.std.specs.Prelude.{ℕ, List, codes}
use Rattle.head.specs.declared.Mode.{Mode}
use Rattle.head.specs.declared.Mode.TheVariants.{Safe, Checkout}

abbrev pub mode_name : Mode → List ℕ
mode_name Safe = codes "SAFE"
mode_name Checkout = codes "CHECKOUT"
