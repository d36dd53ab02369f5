-- What a call that makes a stream leaves, by how it begins. Assumes nothing.
use borrow.Author.Tests.{eq-eqb, ne_eqb}
use mathlib.Core.Bool.{Bool, true, false}
use mathlib.Core.List.{List, ◌++◌}
use mathlib.Core.Path.{◌≡◌, refl, sym, ap, ◌∙◌, subst}
use Prim.Native.Nat.{ℕ, ◌+◌, ◌-◌, ◌*◌, ◌≤◌}
use native.Mathlib.Omega.{arith}
use lib.Dec.{eqb}
use lib.ListN.{length, take, drop, replicate, length-replicate}
use lib.Seq.{take_at, drop-append-add, drop-drop}
use Rattle.stream.specs.Inside.{Ruled}
use Rattle.stream.specs.declared.header.FujiHeader.{FujiHeader}
use Rattle.stream.specs.declared.header.Refusal.{Refusal}
use Rattle.stream.specs.declared.header.Refusal.TheVariants.{WrongBases}
use Rattle.stream.specs.Streams.{open_of, row_start}
use Rattle.stream.proofs.StreamLaws.{opened}
use Rattle.read_block.specs.Lent.{Outputs}
use Rattle.theorem_whole_streams.specs.Kinds.{with_flag}
use Rattle.theorem_whole_streams.proofs.SameSetsHold.{ruled_flag}
use Rattle.stream_copies.specs.MadeStreams.{Lent, is_tight_call, new_front, made_bytes, with_room, making_begins, Making, LeftMade}
use Rattle.stream_copies.specs.Inside.{RowsFit, BlocksMade}
use Rattle.stream_copies.proofs.LaidLaws.{made_least}
use Rattle.std.specs.Prelude.{Err, Ok, Result}

module _ (d rows : List ℕ) (before : Lent) (p : Result FujiHeader Refusal) where
  pub made_refused : (x : Refusal) → p ≡ Err x → LeftMade d rows p before before (Err x)
  made_refused x e = rw e (refl, refl)

  pub made_on : (g : FujiHeader) → p ≡ Ok g → (after : Lent) (a : Result ℕ Refusal) → Making d g rows before after a → LeftMade d rows p before after a
  made_on g e after a m = rw e m

-- ---- the header that the call goes on with

module _ (d : List ℕ) (h g : FujiHeader) (e : h ≡ g) (opens : open_of d ≡ Ok h) where
  pub opens_on : open_of d ≡ Ok g
  opens_on = opens ∙ ap Ok e

  pub fits_on : (rows : List ℕ) → RowsFit h rows → RowsFit g rows
  fits_on rows f = subst (λ (x : FujiHeader). RowsFit x rows) e f

  pub ruled_on : (l : Bool) (k : FujiHeader) → k ≡ with_flag l g → Ruled k
  ruled_on l k ek = rw ek (ruled_flag l g (opened d g opens_on).ruled)

pub front_on : (l : Bool) (g k : FujiHeader) (n : ℕ) → k ≡ with_flag l g → n ≡ row_start k k.blocks → n ≡ row_start (with_flag l g) g.blocks
front_on l g k n ek en = en ∙ rw ek

-- ---- behind zeros

pub zeros_taken : (n : ℕ) (out out' : List ℕ) → out' ≡ replicate n 0 ++ drop n out → take n out' ≡ replicate n 0
zeros_taken n out out' e = ap (take n) e ∙ take_at (replicate n 0) (drop n out) n (length-replicate n 0)

zeros_dropped : (n m : ℕ) (out out' : List ℕ) → n ≤ m → out' ≡ replicate n 0 ++ drop n out → drop m out' ≡ drop m out
zeros_dropped n m out out' l e =
    let f : m ≡ length (replicate {A = ℕ} n 0) + (m - n) = omega (arith, length-replicate {A = ℕ} n 0) in
    let k : n + (m - n) ≡ m = omega arith in
    ap (λ (x : List ℕ). drop m x) e ∙ ap (λ (i : ℕ). drop i (replicate n 0 ++ drop n out)) f ∙ drop-append-add (replicate n 0) (drop n out) (m - n)
    ∙ drop-drop (m - n) n out ∙ ap (λ (i : ℕ). drop i out) k

pub made_behind : (d : List ℕ) (g : FujiHeader) (rows : List ℕ) → open_of d ≡ Ok g → RowsFit g rows → (n : ℕ) (before after : Lent)
    (mid left : Outputs) (a : Result ℕ Refusal)
    → n ≡ new_front g rows → mid.out ≡ replicate n 0 ++ drop n before.out → length mid.out ≡ length before.out → mid.lines ≡ before.lines →
    mid.records ≡ before.records
    → BlocksMade d g rows mid left a → after.out ≡ left.out → after.set ≡ replicate (length before.set) 0 → after.lines ≡ left.lines →
    after.records ≡ left.records
    → Making d g rows before after a
made_behind d g rows o fit n before after mid left a en em es el er m fo fs fl fr =
    let bytes : List ℕ = made_bytes d g rows (length before.out) in
    let least : n ≤ length bytes = omega (arith, made_least d g rows o fit (length before.out)) in
    let out : left.out ≡ made_bytes d g rows (length before.out) ++ drop (length (made_bytes d g rows (length before.out)))
    mid.out = rw (← es) m.output in
    record {
      answered = rw (← es) m.answered;
      output = fo ∙ out ∙ ap (λ (x : List ℕ). made_bytes d g rows (length before.out) ++ x)
          (zeros_dropped n (length bytes) before.out mid.out least em);
      set = fs;
      lines = fl ∙ m.lines ∙ rw el;
      records = fr ∙ m.records ∙ rw er;
    }

-- ---- the entries

module _ (d rows : List ℕ) (before : Lent) where
  pub open_refused : (lossy : Bool) (p : Result FujiHeader Refusal) (x : Refusal) → p ≡ open_of d → p ≡ Err x → LeftMade d rows
      (making_begins lossy (open_of d) rows before) before before (Err x)
  open_refused lossy p x ep e = let f : open_of d ≡ Err x = sym ep ∙ e in rw f (refl, refl)

  module _ (p : Result FujiHeader Refusal) (h : FujiHeader) (ep : p ≡ open_of d) (e : p ≡ Ok h) where
    pub is_open : open_of d ≡ Ok h
    is_open = sym ep ∙ e

    pub tight_made : (after : Lent) (a : Result ℕ Refusal)
        → LeftMade d rows (with_room h (is_tight_call rows) (length before.out) (length before.set) (length before.lines)
        (length before.records)) before after a
        → LeftMade d rows (making_begins false (open_of d) rows before) before after a
    tight_made after a m = rw is_open m

    pub lossy_wrong : (n m : ℕ) → n ≡ h.blocks → m ≡ h.lines → (length rows ≡ n * m → ⊥) → LeftMade d rows
        (making_begins true (open_of d) rows before) before before (Err WrongBases)
    lossy_wrong n m en em ne =
        let f : eqb (length rows) (h.blocks * h.lines) ≡ false = rw (← en, ← em) (ne_eqb (length rows) (n * m) ne) in
        rw (is_open, f) (refl, refl)

    pub lossy_made : (n m : ℕ) → n ≡ h.blocks → m ≡ h.lines → length rows ≡ n * m → (after : Lent) (a : Result ℕ Refusal)
        → LeftMade d rows (with_room h (is_tight_call rows) (length before.out) (length before.set) (length before.lines)
        (length before.records)) before after a
        → LeftMade d rows (making_begins true (open_of d) rows before) before after a
    lossy_made n m en em el after a l =
        let f : eqb (length rows) (h.blocks * h.lines) ≡ true = rw (← en, ← em) (eq-eqb (length rows) (n * m) el) in
        rw (is_open, f) l
