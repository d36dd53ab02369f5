-- The search for the lowest block that is not tight. Assumes nothing.
use mathlib.Core.Bool.{true, false}
use mathlib.Core.List.{List}
use mathlib.Core.Path.{◌≡◌, refl, sym, ◌∙◌}
use Prim.Native.Nat.{ℕ, zero, suc, ◌+◌, ◌-◌, ◌≤◌, ◌<◌}
use native.Mathlib.Nat.{add-zero, add-suc}
use native.Mathlib.Numerals.{add-one}
use native.Mathlib.Omega.{arith}
use Rattle.stream.specs.Streams.{open_of}
use Rattle.stream.specs.declared.header.FujiHeader.{FujiHeader}
use Rattle.stream.specs.declared.header.Refusal.{Refusal}
use Rattle.stream.specs.declared.header.Refusal.TheVariants.{Lossy}
use Rattle.tight_diagnosis.specs.Faults.{fault_at}
use Rattle.tight_findings.specs.Findings.{found_at, lowest, finding_of}
use Rattle.std.specs.Prelude.{Err, Ok, None, Option, Some}
use Rattle.tight_diagnosis.specs.declared.Fault.{Fault}

-- ---- the lowest block

module _ (d : List ℕ) (h : FujiHeader) where
  pub lowest_none : lowest d h 0 ≡ None
  unfolding lowest
  lowest_none = refl

  next : (b : ℕ) → lowest d h b ≡ None → lowest d h (suc b) ≡ found_at b (fault_at d h b)
  unfolding lowest
  next b e = rw e

  pub lowest_more : (b : ℕ) (f : Option Fault) → lowest d h b ≡ None → f ≡ fault_at d h b → f ≡ None → lowest d h (b + 1) ≡ None
  lowest_more b f e ef k = rw add-one (next b e ∙ rw (← ef, k))

  found_stays : (m k : ℕ) (x : ℕ × Fault) → lowest d h m ≡ Some x → lowest d h (m + k) ≡ Some x
  unfolding lowest
  found_stays m zero x e = rw add-zero e
  found_stays m (suc k) x e = rw (add-suc, found_stays m k x e)

  pub lowest_found : (b m : ℕ) → b < m → (f : Option Fault) → lowest d h b ≡ None → f ≡ fault_at d h b → (x : Fault) → f ≡ Some x → Some (b, x) ≡ lowest d h m
  lowest_found b m lt f e ef x k =
      let rest : suc b + (m - suc b) ≡ m = omega arith in
      sym (rw rest at (found_stays (suc b) (m - suc b) (b, x) (next b e ∙ rw (← ef, k))))

  pub lowest_done : (b m : ℕ) → b ≤ m → m ≤ b → lowest d h b ≡ None → None ≡ lowest d h m
  lowest_done b m l g e = let q : b ≡ m = omega arith in sym (rw q at e)

-- ---- a stream, by how it opens

module _ (d : List ℕ) where
  pub find_refused : (x : Refusal) → open_of d ≡ Err x → finding_of d ≡ Err x
  unfolding finding_of
  find_refused x e = rw e

  pub find_lossless : (h : FujiHeader) → open_of d ≡ Ok h → h.lossless ≡ true → finding_of d ≡ Ok (lowest d h h.blocks)
  unfolding finding_of
  find_lossless h e l = rw (e, l)

  pub find_lossy : (h : FujiHeader) → open_of d ≡ Ok h → h.lossless ≡ false → finding_of d ≡ Err Lossy
  unfolding finding_of
  find_lossy h e l = rw (e, l)
