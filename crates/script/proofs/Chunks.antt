-- A line that takes in chunks.
use borrow.Rule.Slice.PartMut.{put_mid}
use Rattle.std.proofs.Common.{◌≡◌, ℕ, ◌+◌, ◌-◌, ◌<◌, ◌≤◌, Bool, eqb, List, [], ◌∷◌, ◌++◌, length, get_or, take, drop, replicate, Some, None, Option, sym, refl, ap, ◌∙◌, subst, append-nil, append_assoc, ⊎_elim, arith, length-append}
use Rattle.std.proofs.lemmas.Bool.{eqb-true, cases_lt, lt-ltb, le-ltb}
use Rattle.std.specs.List.{position, position_or_len, before_first, after_first}
use Rattle.std.specs.Option.{option_map, unwrap_or}
use Rattle.std.proofs.lemmas.Bool.Decides.{nat_tests}
use Rattle.std.proofs.lemmas.List.{get_or-take, length-take, take_all, take-append-drop, drop-drop, drop-replicate, length-replicate}
use Rattle.std.proofs.lemmas.Slice.{take-put_mid, drop-put_mid}
use Rattle.std.proofs.lemmas.List.Sums.{fails_before_first, passes_at_first, split_at_first}
use Rattle.std.proofs.ByRecursion.{All-from_get_or}
use Rattle.script.specs.Lines.{onto, Feedless, Took}
use Rattle.script.specs.Padded.{Padded}

pub stays : (more : List ℕ) → onto None more ≡ None
stays [] = refl
stays (b ∷ more) = stays more

-- more bytes that find room
pub fits : (bs more : List ℕ) → length bs + length more ≤ 130 → onto (Some bs) more ≡ Some (bs ++ more)
fits bs [] h = ap (λ (l : List ℕ). Some l) (sym (append-nil bs))
fits bs (b ∷ more) h =
    rw (lt-ltb (length bs) 130 (omega arith))
    (fits (bs ++ b ∷ []) more (omega (arith, length-append bs (b ∷ []))) ∙ ap (λ (l : List ℕ). Some l) (append_assoc bs (b ∷ []) more))

-- more bytes that find none
pub overflows : (bs more : List ℕ) → length bs ≤ 130 → 130 < length bs + length more → onto (Some bs) more ≡ None
overflows bs [] h g = let z : ⊥ = omega arith in absurd z
overflows bs (b ∷ more) h g =
    ⊎_elim
    (λ room. rw (lt-ltb (length bs) 130 room) (overflows (bs ++ b ∷ []) more (omega (arith, length-append bs (b ∷ []))) (omega (arith, length-append bs (b ∷ [])))))
    (λ full. rw (le-ltb (length bs) 130 full) (stays more))
    (cases_lt (length bs) 130)

-- more bytes, put behind the first n of 130 places
module _ (bytes more : List ℕ) (n k : ℕ) (all : k ≡ length more) (h : Padded bytes n) (room : n + length more ≤ 130) where
  pub put_behind : take (n + length more) (put_mid n k bytes more) ≡ take n bytes ++ more
  put_behind = take-put_mid n k bytes more (n + length more) refl (omega (arith, h.0, h.1))

  zeros_behind : drop (n + length more) (put_mid n k bytes more) ≡ replicate (130 - (n + length more)) 0
  zeros_behind =
      let fewer : 130 - n - length more ≡ 130 - (n + length more) = omega arith in
      drop-put_mid n k bytes more (n + length more) (omega (arith, all)) (omega (arith, h.0, h.1)) (sym all)
      ∙ sym (drop-drop (length more) n bytes)
      ∙ ap (λ (l : List ℕ). drop (length more) l) h.2
      ∙ drop-replicate (length more) (130 - n) 0
      ∙ ap (λ m. replicate m 0) fewer

  pub still_padded : Padded (put_mid n k bytes more) (n + length more)
  still_padded =
      let whole = take-append-drop (n + length more) (put_mid n k bytes more) in
      let first = length-append (take n bytes) more in
      let last = length-append (take n bytes ++ more) (replicate (130 - (n + length more)) 0) in
      let parts : put_mid n k bytes more ≡ (take n bytes ++ more) ++ replicate (130 - (n + length more)) 0 =
      sym whole ∙ ap (λ (l : List ℕ). l ++ drop (n + length more) (put_mid n k bytes more)) put_behind ∙ ap (λ (l : List ℕ). (take n bytes ++ more) ++ l) zeros_behind in
      (omega (arith, ap length parts, last, first, length-take n bytes, length-replicate {A = ℕ} (130 - (n + length more)) 0, h.0, h.1), room, zeros_behind)

-- a chunk up to its first line feed

abbrev pub is_feed : ℕ → Bool
is_feed b = eqb b 10

feedless : (chunk : List ℕ) → Feedless (before_first is_feed chunk)
feedless chunk = All-from_get_or (λ b. b ≡ 10 → ⊥) (before_first is_feed chunk) 0 (λ i l e.
    let k = position_or_len is_feed chunk in
    let lt : i < k = omega (arith, length-take k chunk) in
    let no = fails_before_first is_feed chunk i 0 lt in
    let same = get_or-take k chunk i 0 lt in
    grind (arith, nat_tests))

pub took : (chunk : List ℕ) (before after : Option (List ℕ)) (end r : Option ℕ) → end ≡ position is_feed chunk → r ≡ option_map (λ i. i + 1) end →
    after ≡ onto before (take (unwrap_or end (length chunk)) chunk) → Took chunk before after r
took chunk before after end r e f g = ⊎_elim ends goes (cases_lt (position_or_len is_feed chunk) (length chunk))
  where
    ends : position_or_len is_feed chunk < length chunk → Took chunk before after r
    ends h =
        let at : end ≡ Some (position_or_len is_feed chunk) = e ∙ rw (lt-ltb (position_or_len is_feed chunk) (length chunk) h) refl in
        rw (f ∙ ap (option_map (λ i. i + 1)) at) (record {
          front = before_first is_feed chunk;
          rest = after_first is_feed chunk;
          parts =
              split_at_first is_feed chunk 0 h
              ∙ ap (λ b. before_first is_feed chunk ++ (b ∷ after_first is_feed chunk))
              (eqb-true (get_or chunk (position_or_len is_feed chunk) 0) 10 (passes_at_first is_feed chunk 0 h));
          used = omega (arith, length-take (position_or_len is_feed chunk) chunk);
          first = feedless chunk;
          joins = g ∙ ap (λ (o : Option ℕ). onto before (take (unwrap_or o (length chunk)) chunk)) at;
        })

    goes : length chunk ≤ position_or_len is_feed chunk → Took chunk before after r
    goes h =
        let none : end ≡ None = e ∙ rw (le-ltb (position_or_len is_feed chunk) (length chunk) h) refl in
        rw (f ∙ ap (option_map (λ i. i + 1)) none) (
          subst Feedless (take_all (position_or_len is_feed chunk) chunk h) (feedless chunk),
          g ∙ ap (λ (o : Option ℕ). onto before (take (unwrap_or o (length chunk)) chunk)) none ∙ ap (onto before) (take_all (length chunk) chunk (omega arith)),
        )
