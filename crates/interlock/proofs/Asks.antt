-- What a command that was read asks, back to its op-code and words.
use Rattle.std.proofs.Common.{◌≡◌, ℕ, Bool, true, false, cond, eqb, List, [], ◌∷◌, length, get_or, refl, ap, ◌∙◌, subst, arith, eqb-true}
use Rattle.std.proofs.lemmas.List.{nil_from_length}
use Rattle.telecommand.specs.Packet.{word}
use Rattle.telecommand.specs.Commands.{Telecommand, Legal}
use Rattle.head.specs.Requests.{request_of, order_op, first, second}
use Rattle.head.specs.declared.Order.TheVariants.{SetParameter, OpenDoor, SetSupply, FireRelease}
use Rattle.head.specs.declared.request.Request.{Request}
use Rattle.head.specs.declared.request.Request.TheVariants.{Nothing, Safe, Checkout, Confirm, CloseDoor, SuppliesOff, Heater, Critical}
use Rattle.interlock.proofs.Orders.{order_words, tele}

-- the command that a request came from
abbrev pub Means : Request → Telecommand → Type 0
Means Nothing t = Unit {0}
Means Safe t = t ≡ tele 0x6602 []
Means Checkout t = t ≡ tele 0x6603 []
Means (Confirm a b) t = (t ≡ tele 0x6604 t.words) × (word t.words 0 ≡ a) × (word t.words 2 ≡ b)
Means CloseDoor t = t ≡ tele 0x660d []
Means SuppliesOff t = t ≡ tele 0x660e []
Means (Heater i v) t = t ≡ tele 0x6611 (i ∷ v ∷ [])
Means (Critical o) t = t ≡ tele (order_op o) (order_words o)

two : (ws : List ℕ) → length ws ≡ 2 → ws ≡ get_or ws 0 0 ∷ get_or ws 1 0 ∷ []
two (a ∷ b ∷ []) e = refl
two [] e = absurd (omega arith)
two (a ∷ []) e = absurd (omega arith)
two (a ∷ b ∷ c ∷ ws) e = absurd (omega arith)

module _ (t : Telecommand) (legal : Legal t.opcode t.words) where
  is : (op : ℕ) (q rest : Request) → (t.opcode ≡ op → Means q t) → Means rest t → Means (cond (eqb t.opcode op) q rest) t
  is op q rest yes-case no-case = go (eqb t.opcode op) refl
    where
      go : (b : Bool) → eqb t.opcode op ≡ b → Means (cond b q rest) t
      go true e = yes-case (eqb-true _ _ e)
      go false e = no-case

  bare : (op : ℕ) → (Legal op t.words → length t.words ≡ 0) → t.opcode ≡ op → t ≡ tele op []
  bare op none e =
      let z : t.words ≡ [] = nil_from_length t.words (none (subst (λ (k : ℕ). Legal k t.words) e legal)) in
      ap (λ (k : ℕ). tele k t.words) e ∙ ap (tele op) z

  worded : (op : ℕ) → (Legal op t.words → length t.words ≡ 2) → t.opcode ≡ op → t ≡ tele op (first t ∷ second t ∷ [])
  worded op some e = ap (λ (k : ℕ). tele k t.words) e ∙ ap (tele op) (two t.words (some (subst (λ (k : ℕ). Legal k t.words) e legal)))

  pub means : Means (request_of t) t
  means =
      is 0x6602 Safe _ (bare 0x6602 (λ l. l))
      (is 0x6603 Checkout _ (bare 0x6603 (λ l. l))
      (is 0x6604 (Confirm (word t.words 0) (word t.words 2)) _ (λ e. (ap (λ (k : ℕ). tele k t.words) e, refl, refl))
      (is 0x6607 (Critical (SetParameter (first t) (second t))) _ (worded 0x6607 (λ l. l))
      (is 0x660d CloseDoor _ (bare 0x660d (λ l. l))
      (is 0x660e SuppliesOff _ (bare 0x660e (λ l. l))
      (is 0x660f (Critical OpenDoor) _ (bare 0x660f (λ l. l))
      (is 0x6610 (Critical (SetSupply (first t) (second t))) _ (worded 0x6610 (λ l. l))
      (is 0x6611 (Heater (first t) (second t)) _ (worded 0x6611 (λ l. l))
      (is 0x6612 (Critical (FireRelease (first t) (second t))) Nothing (worded 0x6612 (λ l. l)) tt)))))))))
