-- `pass_ahead::records::put_five` meets its contract, entry by entry. Assumes nothing.
use Rattle.std.proofs.Common.{◌≡◌, ◌∙◌, refl, ℕ, ◌+◌, ◌-◌, ◌≤◌, List, ◌++◌, length, get_or, take, drop, arith, le-leb, le-ltb, lt-ltb}
use borrow.Author.Tests.{lt-leb}
use mathlib.Core.Bool.{cond, ◌&&◌}
use lib.Dec.{leb, ltb}
use borrow.Rule.Slice.PartMut.{mid_of, same_len_mid}
use lib.ListN.{length-drop, replicate, length-replicate, get_or-append}
use lib.Seq.{get_or-take, get_or-drop, length-take-le}
use Rattle.std.proofs.lemmas.List.{get_or-append_right, get_or-replicate}
use Rattle.numbers.proofs.OrderLaws.{split}
use Rattle.pass_ahead.proofs.records.put_five.Goals as goal

-- a list in which the k entries from a on are v
filled : (xs : List ℕ) (a k v i : ℕ) → a + k ≤ length xs
    → get_or (take a xs ++ (replicate k v ++ drop k (drop a xs))) i 0 ≡ cond (leb a i && ltb i (a + k)) v (get_or xs i 0)
filled xs a k v i h =
    let rest : List ℕ = replicate k v ++ drop k (drop a xs) in
    let long : length (take a xs) ≡ a = length-take-le a xs (omega arith) in
    split a i
    (λ low.
    get_or-append_right (take a xs) rest a i 0 long low
    ∙ split (a + k) i
    (λ far.
    let on : a + (k + (i - a - k)) ≡ i = omega arith in
    get_or-append_right (replicate k v) (drop k (drop a xs)) k (i - a) 0 (length-replicate k v) (omega arith)
    ∙ get_or-drop k (drop a xs) (i - a - k) 0
    ∙ get_or-drop a xs (k + (i - a - k)) 0
    ∙ rw (le-leb a i low, le-ltb i (a + k) far, on) refl)
    (λ near.
    get_or-append (replicate k v) (drop k (drop a xs)) 0 (i - a) (omega (arith, length-replicate k v))
    ∙ get_or-replicate k (i - a) v 0 (omega arith)
    ∙ rw (le-leb a i low, lt-ltb i (a + k) near) refl))
    (λ below. get_or-append (take a xs) rest 0 i (omega arith) ∙ get_or-take a xs i 0 below ∙ rw (lt-leb a i below) refl)

pub returns : goal.returns
returns c =
    let five : c.args.at + 5 - c.args.at ≡ 5 = omega arith in
    let lent : length (mid_of c.args.at 5 c.args.r.now) ≡ 5 = length-take-le 5 (drop c.args.at c.args.r.now) (omega (arith, length-drop c.args.at c.args.r.now, c.requires)) in
    let new : c.fill.new.self ≡ replicate 5 c.args.v = rw (five, lent) at (c.fill.ensures.after (λ y e. e)) in
    (same_len_mid _ _ _ _ c.fill.ensures.len ∙ c.requires.1, λ i. rw (five, new) (filled c.args.r.now c.args.at 5 c.args.v i (omega (arith, c.requires))))
