use Rattle.std.proofs.Common.{◌+◌, ◌-◌, ◌≤◌, length, take, Some, ap, sym, ◌∙◌, subst, arith}
use Rattle.std.specs.Option.{unwrap_or}
use Rattle.std.proofs.lemmas.List.{length-take}
use Rattle.script.specs.Padded.{Padded}
use Rattle.script.proofs.Chunks.{stays, fits, overflows, put_behind, still_padded}
use Rattle.script.proofs.line.LineBuffer.extend.Goals as goal

pub returns-in_default : goal.returns-in_default
returns-in_default c = rw (sym c.self.view_is, c.in_default.is) (sym (stays c.args.more.now))

pub returns-then-more-count : goal.returns-then-more-count
returns-then-more-count c =
    let bytes = c.self.inside.bytes in
    let n = c.in-Some.count in
    let h : Padded bytes n = subst (λ o. Padded bytes (unwrap_or o 0)) c.in-Some.is c.self.invariant in
    let all = length-take n bytes in
    rw (sym c.self.view_is, c.in-Some.is) (sym (overflows (take n bytes) c.args.more.now (omega (arith, all, h.0, h.1)) (omega (arith, all, h.0, h.1, c.if-more-count.true))))

pub invariant_of-self-2 : goal.invariant_of-self-2
invariant_of-self-2 c =
    let bytes = c.self.inside.bytes in
    let n = c.in-Some.count in
    let h : Padded bytes n = subst (λ o. Padded bytes (unwrap_or o 0)) c.in-Some.is c.self.invariant in
    rw c.copy_from_slice.ensures.after (still_padded bytes c.args.more.now n (n + length c.args.more.now - n) (omega arith) h (omega (arith, c.if-more-count.false, h.1)))

pub returns : goal.returns
returns c =
    let bytes = c.self.inside.bytes in
    let more = c.args.more.now in
    let n = c.in-Some.count in
    let h : Padded bytes n = subst (λ o. Padded bytes (unwrap_or o 0)) c.in-Some.is c.self.invariant in
    let room : n + length more ≤ 130 = omega (arith, c.if-more-count.false, h.1) in
    rw (sym c.self.view_is, c.in-Some.is, c.copy_from_slice.ensures.after)
    (ap (λ l. Some l) (put_behind bytes more n (n + length more - n) (omega arith) h room) ∙ sym (fits (take n bytes) more (omega (arith, length-take n bytes, h.0, h.1, room))))
