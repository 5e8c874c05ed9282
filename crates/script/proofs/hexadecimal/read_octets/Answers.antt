use Rattle.std.proofs.Common.{◌≡◌, ◌-◌, ◌≤◌, length, map, take, drop, replicate, sym, ap, ◌∙◌, ⊎_elim, arith, length-set}
use Rattle.std.proofs.ByRecursion.{All-set}
use Rattle.std.proofs.lemmas.Bool.Decides.{nat_tests}
use Rattle.std.proofs.lemmas.List.{take_all}
use Rattle.script.specs.Hex.{octet_text, octets_in}
use Rattle.script.proofs.Digits.{length_hex, held, small_in, rest_more, as_many, each, one_more, filled}
use Rattle.script.proofs.hexadecimal.read_octets.Goals as goal

pub returns-in_default : goal.returns-in_default
returns-in_default c o h e = omega (arith, c.in_default.len_at_least, c.as_chunks.ensures.back_len, length_hex (octets_in o), ap length e)

pub returns-then-is_empty : goal.returns-then-is_empty
returns-then-is_empty c o h e =
    let cut = c.as_chunks.ensures in
    let many = as_many c.args.text.now c.as_chunks.result.1.now c.as_chunks.result.0.now cut.front cut.back_len c.in_default-empty.len_below (octets_in o) e in
    let all = held o h.0 in
    ⊎_elim
    (λ none. let z : length c.as_chunks.result.0.now ≡ 0 = grind (arith, nat_tests, c.is_empty.ensures, none) in omega (arith, many, all, h.1))
    (λ more. omega (arith, many, all, h.0.few, more.1))
    c.then-is_empty.either

pub returns-in_err-bytes : goal.returns-in_err-bytes
returns-in_err-bytes c =
    let cut = c.as_chunks.ensures in
    rw c.from_residual.ensures (λ o h e.
    let m = each c.args.text.now c.as_chunks.result.1.now c.as_chunks.result.0.now cut.front cut.back_len c.in_default-empty.len_below (octets_in o) e c.loop-place.place c.loop-place-test.true (small_in o h.0) in
    c.in_err-bytes.ensures m.0 m.1 m.2)

pub loop-place-preserved : goal.loop-place-preserved
loop-place-preserved c =
    let cut = c.as_chunks.ensures in
    let i = c.loop-place.place in
    let bytes = c.loop-place.bytes in
    let inv = c.loop-place.invariant in
    let got = c.in_ok-bytes.ensures in
    let v = c.in_ok-bytes.field-0 in (
      length-set bytes i v ∙ inv.0,
      All-set (λ b. b ≤ 255) bytes i v got.0 inv.1,
      rest_more bytes i v 64 inv.2,
      one_more c.args.text.now c.as_chunks.result.1.now c.as_chunks.result.0.now cut.front cut.back_len c.in_default-empty.len_below bytes i v (omega (arith, inv.0, c.loop-place-test.true)) c.loop-place-test.true inv.3 got.1,
    )

pub returns : goal.returns
returns c =
    let cut = c.as_chunks.ensures in
    let i = c.loop-place.place in
    let pairs = c.as_chunks.result.0.now in
    let bytes = c.loop-place.bytes in
    let inv = c.loop-place.invariant in
    let s : i ≡ length pairs = omega arith in
    filled c.args.text.now c.as_chunks.result.1.now pairs cut.front cut.back_len c.in_default-empty.len_below (record { bytes = bytes; count = length pairs })
    (ap (λ n. map octet_text (take n bytes)) (sym s) ∙ inv.3 ∙ take_all i pairs (omega (arith, s)))
    (record {
      room = inv.0;
      few = omega arith;
      small = inv.1;
      rest = ap (λ n. drop n bytes) (sym s) ∙ inv.2 ∙ ap (λ n. replicate (64 - n) 0) s;
    })
    (grind (arith, nat_tests, c.is_empty.ensures, c.if-is_empty.false))
