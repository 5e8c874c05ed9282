-- Orders by the op-code and the words that the history knows them by.
use Rattle.std.proofs.Common.{◌≡◌, ℕ, ◌+◌, ◌<◌, true, false, List, [], ◌∷◌, length, get_or, Ok, Result, sym, refl, ap, ◌∙◌, subst, arith}
use borrow.Author.Tests.{both_ways}
use Rattle.telecommand.specs.Commands.{Telecommand}
use Rattle.telecommand.specs.Links.{reads}
use Rattle.telecommand.specs.declared.fault.ReadFault.{ReadFault}
use Rattle.head.specs.Requests.{order_op, marked}
use Rattle.head.specs.declared.Order.{Order}
use Rattle.head.specs.declared.Order.TheVariants.{SetParameter, OpenDoor, SetSupply, FireRelease}
use Rattle.interlock.specs.History.{Did, Past, Brings, Accepted, IsFrame, Given, Confirmed}

abbrev pub order_words : Order → List ℕ
order_words (SetParameter i v) = i ∷ v ∷ []
order_words OpenDoor = []
order_words (SetSupply s v) = s ∷ v ∷ []
order_words (FireRelease l n) = l ∷ n ∷ []

-- the history's words, of an order

abbrev pub Taken : Order → Past → Type 0
Taken o p = Accepted (order_op o) (order_words o) p

abbrev pub GivenOrder : Order → Past → Type 0
GivenOrder o h = Given (order_op o) (order_words o) h

abbrev pub ConfirmedOrder : Order → Past → Type 0
ConfirmedOrder o p = Confirmed (order_op o) (order_words o) p

-- an op-code and words are of one order

abbrev pub tele : ℕ → List ℕ → Telecommand
tele op ws = record { opcode = op; words = ws }

pub same_order : (o p : Order) → order_op o ≡ order_op p → order_words o ≡ order_words p → o ≡ p
same_order (SetParameter i v) (SetParameter j w) e f = let a = ap (λ (x : List ℕ). get_or x 0 0) f in let b = ap (λ (x : List ℕ). get_or x 1 0) f in cc
same_order (SetParameter i v) OpenDoor e f = absurd (omega arith)
same_order (SetParameter i v) (SetSupply s w) e f = absurd (omega arith)
same_order (SetParameter i v) (FireRelease l n) e f = absurd (omega arith)
same_order OpenDoor (SetParameter j w) e f = absurd (omega arith)
same_order OpenDoor OpenDoor e f = refl
same_order OpenDoor (SetSupply s w) e f = absurd (omega arith)
same_order OpenDoor (FireRelease l n) e f = absurd (omega arith)
same_order (SetSupply s v) (SetParameter j w) e f = absurd (omega arith)
same_order (SetSupply s v) OpenDoor e f = absurd (omega arith)
same_order (SetSupply s v) (SetSupply r w) e f = let a = ap (λ (x : List ℕ). get_or x 0 0) f in let b = ap (λ (x : List ℕ). get_or x 1 0) f in cc
same_order (SetSupply s v) (FireRelease l n) e f = absurd (omega arith)
same_order (FireRelease l n) (SetParameter j w) e f = absurd (omega arith)
same_order (FireRelease l n) OpenDoor e f = absurd (omega arith)
same_order (FireRelease l n) (SetSupply s w) e f = absurd (omega arith)
same_order (FireRelease l n) (FireRelease k m) e f = let a = ap (λ (x : List ℕ). get_or x 0 0) f in let b = ap (λ (x : List ℕ). get_or x 1 0) f in cc

-- orders are critical commands
pub critical : (o : Order) → (marked (order_op o)).critical ≡ true
critical (SetParameter i v) = refl
critical OpenDoor = refl
critical (SetSupply s v) = refl
critical (FireRelease l n) = refl

pub not_critical : (op : ℕ) → (marked op).critical ≡ false → (o : Order) → order_op o ≡ op → ⊥
not_critical op e o same = both_ways _ e (subst (λ (n : ℕ). (marked n).critical ≡ true) same (critical o))

-- what one event brings is one command
pub one_command : (d : Did) (op oq : ℕ) (ws xs : List ℕ) → Brings op ws d → Brings oq xs d → (op ≡ oq) × (ws ≡ xs)
one_command d op oq ws xs a b =
    let ca = a.came_in in
    let cb = b.came_in in
    let p : a.primary ≡ b.primary = cc in
    let r : a.redundant ≡ b.redundant = cc in
    let t : ◌≡◌ {A = Result Telecommand ReadFault} (Ok (tele op ws)) (Ok (tele oq xs)) = sym a.read_as ∙ ap (λ (x : List ℕ). reads x a.redundant) p ∙ ap (reads b.primary) r ∙ b.read_as in
    let u : tele op ws ≡ tele oq xs = cc in
    (ap (λ (x : Telecommand). x.opcode) u, ap (λ (x : Telecommand). x.words) u)

pub one_taken : (d : Did) (h : Past) (o p : Order) → Taken o (d ∷ h) → Taken p (d ∷ h) → o ≡ p
one_taken d h o p a b = let e = one_command d _ _ _ _ a.0 b.0 in same_order o p e.0 e.1

-- a frame that brings a command has an octet
some_octet : (p r : List ℕ) (t : Telecommand) → reads p r ≡ Ok t → 0 < length p + length r
some_octet [] [] t e = let z : ◌≡◌ {A = ℕ} 0 1 = cc in absurd (omega arith)
some_octet [] (x ∷ r) t e = omega arith
some_octet (x ∷ p) r t e = omega arith

pub taken_frame : (d : Did) (h : Past) (op : ℕ) (ws : List ℕ) → Accepted op ws (d ∷ h) → IsFrame (d ∷ h)
taken_frame d h op ws a = (a.0.primary, a.0.redundant, a.0.came_in, some_octet a.0.primary a.0.redundant _ a.0.read_as)
