use Rattle.std.proofs.Common.{◌≡◌, ℕ, zero, suc, List, [], ◌∷◌, take, sym, refl, subst}
use Rattle.ring.specs.Rolls.{emptied}
use Rattle.interlock.specs.Promises.{begins, Follows, begun, RatesHeld}
use Rattle.interlock.specs.Logged.{LogHeld}
use Rattle.interlock.proofs.Runs.{ran_from}
use Rattle.interlock.proofs.Logs.{log_begins}
use Rattle.interlock.proofs.run.operate.Goals as goal

none : (n : ℕ) → ◌≡◌ {A = List ℕ} [] (take n [])
none zero = refl
none (suc n) = refl

pub returns : goal.returns
returns g c =
    let on = c.power_on-head.ensures in
    let first = begins c.args.stored ∷ [] in
    let led = subst (Follows first) (sym on.became) (begun c.args.stored) in
    let bare : RatesHeld first (emptied c.args.records.now.rates) = none c.args.records.now.rates.room in
    record {
      ran = ran_from _ _ _ _ _ _ _ _ _ on.became (λ i. record { log = on.noted i; rates = on.rates i }) c.bring.ensures.ran;
      promised = c.bring.ensures.promised first led;
      logged = c.bring.ensures.logged first led (subst (LogHeld first) (sym on.noted) (log_begins c.args.stored c.args.records.now.log));
      rates = c.bring.ensures.rates first led (subst (RatesHeld first) (sym on.rates) bare);
    }
