-- Headers with another lossless flag. Assumes nothing.
use mathlib.Core.Bool.{Bool, true, false, cond, ◌&&◌, ◌||◌}
use mathlib.Core.List.{List}
use mathlib.Core.Path.{◌≡◌, refl, sym, ap, ◌∙◌}
use Prim.Native.Nat.{ℕ, ◌+◌, ◌≤◌, ◌<◌}
use native.Mathlib.Omega.{arith}
use lib.Dec.{leb, eqb, lit<}
use lib.ListN.{length, get_or, take, set, length-set}
use lib.Seq.{length-take-le, get_or-take, get_or-set_same, get_or-set_other, ext_get_or}
use borrow.Author.Tests.{eqb-true, leb-true, eq-eqb, ne_eqb}
use Rattle.numbers.specs.Numbers.{flag}
use Rattle.numbers.proofs.BoolLaws.{both}
use Rattle.numbers.proofs.OrderLaws.{split}
use Rattle.stream.specs.Headers.{byte_at, be16, header_of, kind_rules, size_rules, count_rules, all_rules, parse_of}
use Rattle.stream.specs.declared.header.FujiHeader.{FujiHeader}
use Rattle.stream.proofs.HeaderLaws.{IsParsed, parsed, parse_good}
use Rattle.theorem_whole_streams.specs.Kinds.{flagged, with_flag, FlaggedParses, FlagKept}
use Rattle.std.specs.Prelude.{Ok}

module _ (lossless : Bool) (d : List ℕ) (h : FujiHeader) (e : parse_of d ≡ Ok h) where
  abbrev s : List ℕ
  s = flagged lossless d

  P : IsParsed d h
  P = parsed d h e

  head_length : length (take 16 d) ≡ 16
  head_length = length-take-le 16 d P.whole

  pub flagged_length : length (flagged lossless d) ≡ 16
  flagged_length = length-set (take 16 d) 2 (flag lossless) ∙ head_length

  flag_is : byte_at s 2 ≡ flag lossless
  flag_is = get_or-set_same (take 16 d) 2 (flag lossless) 0 (omega (arith, head_length))

  pub other_is : (i : ℕ) → i < 16 → (i ≡ 2 → ⊥) → byte_at (flagged lossless d) i ≡ byte_at d i
  other_is i l ne = get_or-set_other (take 16 d) 2 i (flag lossless) 0 ne ∙ get_or-take 16 d i 0 l

  at : (i : ℕ) → 3 ≤ i → i < 16 → byte_at s i ≡ byte_at d i
  at i low l = other_is i l (λ f. omega arith)

  one : (b : Bool) → eqb (flag b) 1 ≡ b
  one true = refl
  one false = refl

  same_header : header_of s ≡ with_flag lossless (header_of d)
  unfolding header_of
  same_header =
      rw (
        flag_is,
        one lossless,
        at 3 (omega arith) (lit< tt),
        at 4 (omega arith) (lit< tt),
        at 5 (omega arith) (lit< tt),
        at 6 (omega arith) (lit< tt),
        at 7 (omega arith) (lit< tt),
        at 8 (omega arith) (lit< tt),
        at 9 (omega arith) (lit< tt),
        at 10 (omega arith) (lit< tt),
        at 11 (omega arith) (lit< tt),
        at 12 (omega arith) (lit< tt),
        at 13 (omega arith) (lit< tt),
        at 14 (omega arith) (lit< tt),
        at 15 (omega arith) (lit< tt),
      )

  low : (b : Bool) → leb (flag b) 1 ≡ true
  low true = refl
  low false = refl

  and_same : (a b c x : Bool) → (a && b && c && x) ≡ true → (a && true && c && x) ≡ true
  and_same true true c x f = f
  and_same true false c x f = let no : ◌≡◌ {A = ℕ} 0 1 = cc in absurd (omega arith)
  and_same false b c x f = f

  same_kind : kind_rules d ≡ true → kind_rules s ≡ true
  unfolding kind_rules
  same_kind k =
      rw (
        other_is 0 (lit< tt) (λ f. omega arith),
        other_is 1 (lit< tt) (λ f. omega arith),
        flag_is,
        low lossless,
        at 3 (omega arith) (lit< tt),
        at 4
            (omega arith) (lit< tt),
      )
      (and_same (eqb (be16 d 0) 0x4953) (leb (byte_at d 2) 1) (eqb (byte_at d 3) 0 || eqb (byte_at d 3) 16)
      (eqb (byte_at d 4) 12 || eqb (byte_at d 4) 14 || eqb (byte_at d 4) 16) k)

  same_sizes : size_rules (with_flag lossless (header_of d)) ≡ size_rules (header_of d)
  unfolding size_rules
  same_sizes = refl

  same_counts : count_rules (with_flag lossless (header_of d)) ≡ count_rules (header_of d)
  unfolding count_rules
  same_counts = refl

  rules : all_rules s ≡ true
  rules =
      let z = both (kind_rules d && size_rules (header_of d)) (count_rules (header_of d)) P.rules in
      let y = both (kind_rules d) (size_rules (header_of d)) z.0 in
      rw (same_kind y.0, same_header, same_sizes, same_counts, y.1, z.1)

  parses : parse_of s ≡ Ok (with_flag lossless h)
  parses = parse_good s (omega (arith, flagged_length)) rules ∙ ap Ok (same_header ∙ rw P.header)

pub flagged_parses : FlaggedParses
flagged_parses lossless d h e = parses lossless d h e

flag_was : (b : Bool) (n : ℕ) → leb n 1 ≡ true → b ≡ eqb n 1 → flag b ≡ n
flag_was b n l e =
    split 1 n
    (λ k. let z : n ≡ 1 = omega (arith, leb-true n 1 l) in rw (e, z))
    (λ k. let z : n ≡ 0 = omega arith in rw (e, z))

kind_low : (d : List ℕ) → kind_rules d ≡ true → leb (byte_at d 2) 1 ≡ true
unfolding kind_rules
kind_low d k =
    let z = both (eqb (be16 d 0) 0x4953 && leb (byte_at d 2) 1 && (eqb (byte_at d 3) 0 || eqb (byte_at d 3) 16)) _ k in
    let y = both (eqb (be16 d 0) 0x4953 && leb (byte_at d 2) 1) _ z.0 in
    (both (eqb (be16 d 0) 0x4953) (leb (byte_at d 2) 1) y.0).1

flag_of_lem : (d : List ℕ) (h : FujiHeader) → h ≡ header_of d → h.lossless ≡ eqb (byte_at d 2) 1
unfolding header_of
flag_of_lem d h e = rw e

pub flag_kept : FlagKept
flag_kept d h e = (refl, same)
  where
    P : IsParsed d h
    P = parsed d h e

    byte : flag h.lossless ≡ byte_at d 2
    byte =
        let z = both (kind_rules d && size_rules (header_of d)) (count_rules (header_of d)) P.rules in
        let y = both (kind_rules d) (size_rules (header_of d)) z.0 in
        flag_was h.lossless (byte_at d 2) (kind_low d y.0) (flag_of_lem d h P.header)

    long : length (take 16 d) ≡ 16
    long = length-take-le 16 d P.whole

    same : flagged h.lossless d ≡ take 16 d
    same =
        ext_get_or 0 (flagged h.lossless d) (take 16 d) (length-set (take 16 d) 2 (flag h.lossless))
        (λ i l. let l16 : i < 16 = omega (arith, flagged_length h.lossless d h e) in
        split 2 i
        (λ a. split 3 i
        (λ b. get_or-set_other (take 16 d) 2 i (flag h.lossless) 0 (λ f. omega arith))
        (λ b. let is : i ≡ 2 = omega arith in rw is (get_or-set_same (take 16 d) 2 (flag h.lossless) 0 (omega (arith, long)) ∙ byte ∙ sym
        (get_or-take 16 d 2 0 (lit< tt)))))
        (λ a. get_or-set_other (take 16 d) 2 i (flag h.lossless) 0 (λ f. omega arith)))
