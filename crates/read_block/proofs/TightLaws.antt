-- The answers of the readings of one block, by what a walk says. Assumes nothing.
use mathlib.Core.Bool.{Bool, true, false, cond}
use mathlib.Core.List.{List, []}
use mathlib.Core.Path.{◌≡◌, refl, sym, ap, ◌∙◌}
use Prim.Native.Nat.{ℕ, ◌≤◌, ◌<◌}
use native.Mathlib.Omega.{arith}
use borrow.Author.Tests.{lt-ltb, le-ltb}
use Rattle.bits.specs.BitLists.{is_tail}
use Rattle.line_totals.specs.declared.Totals.{Totals}
use Rattle.line_totals.specs.declared.TightLines.{TightLines}
use Rattle.stream.specs.declared.header.Refusal.TheVariants.{Truncated, NotTight}
use Rattle.read_block.specs.Blocks.{read_lines, totals_after}
use Rattle.read_block.specs.Walks.{ReadAll, CutAt, IsWalked}
use Rattle.read_block.specs.Images.{lines_read, block_answer}
use Rattle.read_block.specs.BadCodes.{BadCode, first_bad}
use Rattle.read_block.specs.TightBlocks.{bits_read, read_answer, tight_answer}
use Rattle.read_block.specs.Totals.{lines_counted, counted}
use Rattle.read_block.specs.Inside.{walked_counted}
use Rattle.read_block.specs.declared.Form.{Form}
use Rattle.read_block.proofs.DecodeLaws.{walked_lines, judged_by}
use Rattle.read_block.proofs.BadCodeLaws.{line_or, bad_in, tight_lines}
use Rattle.std.specs.Prelude.{Err, Ok, Result, None, Option, Some}
use Rattle.stream.specs.declared.header.Refusal.{Refusal}

-- ---- the answer

-- m lines from the first on are tight: those before the line of the first bad code, or all
loose_by : (o : Option BadCode) (lines m : ℕ) (tail : Bool) → m ≡ line_or lines o → m < lines → Err (NotTight m) ≡ read_answer o lines tail
loose_by None lines m tail e h = absurd (omega arith)
loose_by (Some x) lines m tail e h = rw e

ends_by : (o : Option BadCode) (lines m : ℕ) (tail : Bool) → m ≡ line_or lines o → lines ≤ m → ((x : BadCode) → o ≡ Some x → x.line < lines)
    → cond tail (Ok tt) (Err (NotTight lines)) ≡ read_answer o lines tail
ends_by None lines m tail e h low = refl
ends_by (Some x) lines m tail e h low = absurd (omega (arith, low x refl))

-- ---- with its totals

-- an answer x and the totals of the lines that it counts
told : (F : Form) (bases s : List ℕ) (count : ℕ) (x y : Result Unit Refusal) (t : Totals) → x ≡ y → t ≡ totals_after F bases s (lines_counted x count)
    → record { answer = x; totals = t } ≡ counted F bases s count y
told F bases s count x y t e f = rw (← e, f)

-- the ordinary reading
pub read_told : (F : Form) (bases s : List ℕ) (count b : ℕ) (w : Result (Totals × TightLines) (ℕ × Totals)) → IsWalked F bases s count w
    → walked_counted b w ≡ counted F bases s count (block_answer F bases s b count)
read_told F bases s count b (Ok (all, tight)) p =
    told F bases s count (Ok tt) (block_answer F bases s b count) all (judged_by F bases s count b (Ok (all, tight)) p) p.all_is
read_told F bases s count b (Err (line, t)) p =
    told F bases s count (Err (Truncated b line)) (block_answer F bases s b count) t (judged_by F bases s count b (Err (line, t)) p) p.totals_are

-- a line is truncated
pub cut_off : (F : Form) (s : List ℕ) (b count line : ℕ) (t : Totals) (w : Result (Totals × TightLines) (ℕ × Totals)) → IsWalked F [] s count w → w ≡ Err (line, t)
    → record { answer = Err (Truncated b line); totals = t } ≡ counted F [] s count (tight_answer F b count s)
unfolding tight_answer
cut_off F s b count line t w p e =
    let c : CutAt F [] s count line t = rw e at p in
    let l : line ≡ lines_read F [] s count = walked_lines F [] s count (Err (line, t)) c in
    told F [] s count (Err (Truncated b line)) (tight_answer F b count s) t (rw (← l, lt-ltb line count c.inside)) c.totals_are

-- all lines were read
module _ (F : Form) (s : List ℕ) (b count : ℕ) (t : Totals) (tight : TightLines) (w : Result (Totals × TightLines) (ℕ × Totals)) (p : IsWalked F [] s count w) (e : w ≡ Ok (t, tight)) where
  all : ReadAll F [] s count t tight
  all = rw e at p

  complete : lines_read F [] s count ≡ count
  complete = sym (walked_lines F [] s count (Ok (t, tight)) all)

  tight_count : tight.lines ≡ line_or count (first_bad F [] s count)
  tight_count = ap (λ (x : TightLines). x.lines) all.tight_is ∙ tight_lines F [] s count all.end all.read

  tight_totals : tight.totals ≡ totals_after F [] s tight.lines
  tight_totals = rw all.tight_is refl

  pub loose : tight.lines < count
      → record { answer = Err (NotTight tight.lines); totals = tight.totals } ≡ counted F [] s count (tight_answer F b count s)
  unfolding tight_answer
  loose h =
      told F [] s count (Err (NotTight tight.lines)) (tight_answer F b count s) tight.totals
      (rw (complete, le-ltb count count (omega arith)) (loose_by (first_bad F [] s count) count tight.lines _ tight_count h)) tight_totals

  last : is_tail s t.bits ≡ is_tail s (bits_read (read_lines F [] s count))
  last = rw (all.all_is, all.read)

  ends : count ≤ tight.lines → (b' : Bool) → b' ≡ is_tail s t.bits → cond b' (Ok tt) (Err (NotTight count)) ≡ tight_answer F b count s
  unfolding tight_answer
  ends h b' f =
      rw (complete, le-ltb count count (omega arith), ← last, f)
      (ends_by (first_bad F [] s count) count tight.lines (is_tail s t.bits) tight_count h (λ x g. (bad_in F [] s count x g).line_inside))

  pub accepted : count ≤ tight.lines → true ≡ is_tail s t.bits → record { answer = (Ok tt); totals = t } ≡ counted F [] s count (tight_answer F b count s)
  accepted h f = told F [] s count (Ok tt) (tight_answer F b count s) t (ends h true f) all.all_is

  pub wrong_tail : count ≤ tight.lines → false ≡ is_tail s t.bits
      → record { answer = Err (NotTight count); totals = t } ≡ counted F [] s count (tight_answer F b count s)
  wrong_tail h f = told F [] s count (Err (NotTight count)) (tight_answer F b count s) t (ends h false f) all.all_is
