-- The writer's answer: samples that are looked at first, the measured length, and the block at the start of the output. Assumes nothing.
use borrow.Author.Tests.{le-ltb, le-leb, leb-true, ltb-false}
use mathlib.Core.Bool.{Bool, true, false, cond, not, ◌||◌, and-false}
use mathlib.Core.List.{List, [], ◌∷◌, ◌++◌}
use mathlib.Core.Path.{◌≡◌, refl, sym, ap, ◌∙◌, subst}
use Prim.Native.Nat.{ℕ, zero, suc, ◌+◌, ◌-◌, ◌≤◌, ◌<◌}
use native.Mathlib.Nat.{zero-add, add-zero, le_refl}
use native.Mathlib.Omega.{arith}
use lib.Dec.{leb, ltb}
use lib.ListN.{length, get_or, drop, replicate, length-replicate}
use lib.Seq.{paste, take_at, take_all, drop-append-add, drop-drop}
use Rattle.bits.specs.declared.BitPosition.{BitPosition}
use Rattle.bits.specs.BitLists.{packed, block_bytes, bytes_of}
use Rattle.bits.specs.Inside.{bytes_for, filled}
use Rattle.bits.proofs.PackLaws.{length_packed, packed_more}
use Rattle.quantiser.specs.Quantisers.{largest}
use Rattle.stream.specs.declared.header.Refusal.{Refusal}
use Rattle.stream.specs.declared.header.Refusal.TheVariants.{AboveLargest, NotPredicted, ShortOutput}
use Rattle.image_map.specs.Places.{width_of}
use Rattle.colour_lines.specs.Sets.{set_size, line_of_rank, index_in}
use Rattle.bit_output.specs.Output.{put_bits}
use Rattle.write_pass.specs.Puts.{Room, Within}
use Rattle.write_pass.proofs.SetLaws.{colour_line_at_lem, position_at_lem}
use Rattle.write_pass.proofs.TurnPuts.{coded_wanted}
use Rattle.admission.specs.Above.{is_ignored, first_above}
use Rattle.pass_schedule.specs.Steps.{is_interpolated}
use Rattle.write_block.specs.Counted.{next_of}
use Rattle.write_block.specs.declared.counted.Next.TheVariants.{Answer, Store}
use Rattle.write_block.specs.WrittenBlocks.{is_strict, write_lines, written_block, tight_block}
use Rattle.write_block.specs.Inside.{SetWanted, FitSet}
use Rattle.write_block.specs.WrittenAnswers.{predicted_answer, range_answer, measured_answer}
use Rattle.write_block.specs.WrittenAnswers.{above_in, set_answer, written_answer}
use Rattle.write_block.specs.WriterParts.{IsSetPut, SetWritten, room_for, output_of, Storable, Stored}
use Rattle.read_block.specs.declared.Form.{Form}
use Rattle.read_block.proofs.LineLaws.{width_in_range}
use Rattle.std.specs.Prelude.{Err, Ok, Result, None, Option, Some}

-- ---- samples within M

-- where none is named, all that are not ignored are within M
first_none_lem : (ignored : ℕ → Bool) (m i : ℕ) (t : List ℕ) → first_above ignored m i t ≡ None → (j : ℕ) → ignored (i + j) ≡ false → get_or t j 0 ≤ m
unfolding first_above
first_none_lem ignored m i [] e = λ j f. omega arith
first_none_lem ignored m i (v ∷ t) e =
    go (leb v m) (ignored i) refl refl
    (λ g k f. first_none_lem ignored m (suc i) t g k (let n : i + suc k ≡ suc i + k = omega arith in rw n at f)) e
  where
    Rest : Type 0
    Rest = first_above ignored m (suc i) t ≡ None → (k : ℕ) → ignored (i + suc k) ≡ false → get_or t k 0 ≤ m

    go : (a b : Bool) → leb v m ≡ a → ignored i ≡ b → Rest → cond (a || b) (first_above ignored m (suc i) t) (Some i) ≡ None
        → (j : ℕ) → ignored (i + j) ≡ false → get_or (v ∷ t) j 0 ≤ m
    go true b ea eb rest g zero f = leb-true v m ea
    go true b ea eb rest g (suc k) f = rest g k f
    go false true ea eb rest g zero f = let no : true ≡ false = sym eb ∙ (rw (add-zero i) at f) in let z : ◌≡◌ {A = ℕ} 0 1 = cc in absurd (omega arith)
    go false true ea eb rest g (suc k) f = rest g k f
    go false false ea eb rest g j f = let no : ◌≡◌ {A = ℕ} 0 1 = cc in absurd (omega arith)

-- a set without bases has none that is ignored
strict_looks : (xtrans : Bool) (j : ℕ) → is_ignored xtrans true j ≡ false
unfolding is_ignored
strict_looks xtrans j = refl

none_within : (F : Form) (t : List ℕ) → above_in F [] t ≡ None → Within (largest F.bits) t
none_within F t e j = first_none_lem (is_ignored F.xtrans true) (largest F.bits) 0 t e j (strict_looks F.xtrans (0 + j))

-- and of any set those with a code are looked at
code_looks : (xtrans strict : Bool) (n c p : ℕ) → c < 12 → p < width_of xtrans → is_interpolated xtrans (line_of_rank c) p ≡ false
    → is_ignored xtrans strict (index_in (width_of xtrans) n (line_of_rank c) p) ≡ false
unfolding is_ignored
code_looks xtrans strict n c p hc hp e =
    rw (colour_line_at_lem (width_of xtrans) n c p hc hp, position_at_lem (width_of xtrans) n c p hc hp, e) (and-false (not strict))

pub none_wanted : (F : Form) (bases t : List ℕ) → above_in F bases t ≡ None → SetWanted F t
none_wanted F bases t e n i below =
    coded_wanted (largest F.bits) (width_of F.xtrans) t n (width_in_range F.xtrans (width_of F.xtrans) refl).2 F.xtrans i below
    (λ c p hc hp f. first_none_lem (is_ignored F.xtrans (is_strict bases)) (largest F.bits) 0 t e (index_in (width_of F.xtrans) n (line_of_rank c) p)
    (rw zero-add (code_looks F.xtrans (is_strict bases) n c p hc hp f)))

-- ---- the block

pub block_length : (F : Form) (bases : List ℕ) (count : ℕ) (t : List ℕ)
    → length (written_block F bases count t) ≡ block_bytes (length (write_lines F bases t count).bits)
unfolding written_block bytes_of
block_length F bases count t = length_packed _ _

-- bits that are put at the start: their bytes, and what follows these
put_all : (out : List ℕ) (l : List Bool) → put_bits out 0 l ≡ packed (bytes_for (length l)) l ++ drop (bytes_for (length l)) out
unfolding put_bits packed
put_all out [] = refl
put_all out (b ∷ l) = rw zero-add

-- zeros that are put behind them
glue : (out P : List ℕ) (a k b : ℕ) → length P ≡ a → a + k ≡ b → paste (P ++ drop a out) a (replicate k 0) k ≡ P ++ replicate k 0 ++ drop b out
glue out P a k b long e =
    let zeros : length (replicate {A = ℕ} k 0) ≡ k = length-replicate k 0 in
    let tail : drop (a + k) (P ++ drop a out) ≡ drop (a + k) out = (rw long at (drop-append-add P (drop a out) k)) ∙ drop-drop k a out in
    rw (take_at P (drop a out) a long, take_all {A = ℕ} k (replicate k 0) (omega arith), tail, e)

-- and with the filling: the block of these bits, and what follows it
fill_all : (out : List ℕ) (l : List Bool) → filled (length l) (put_bits out 0 l) ≡ bytes_of l ++ drop (block_bytes (length l)) out
unfolding bytes_of
fill_all out l =
    let n : ℕ = length l in
    let k : ℕ = block_bytes n - bytes_for n in
    let e : bytes_for n + (block_bytes n - bytes_for n) ≡ block_bytes n = omega arith in
    ap (λ (s : List ℕ). paste s (bytes_for n) (replicate k 0) k) (put_all out l)
    ∙ glue out (packed (bytes_for n) l) (bytes_for n) k (block_bytes n) (length_packed (bytes_for n) l) e
    ∙ ap (λ (s : List ℕ). s ++ drop (block_bytes n) out) (sym (packed_more (bytes_for n) k l (omega arith)) ∙ ap (λ (m : ℕ). packed m l) e)

-- ---- what the walks say

clash : {X : Type 0} (at : BitPosition) (j : ℕ) → Ok at ≡ Err j → X
clash at j e = let no : ◌≡◌ {A = ℕ} 0 1 = cc in absurd (omega arith)

-- a refusal leaves the output as it was
pub refused_out : (measure : Bool) (x : Refusal) (block out : List ℕ) → out ≡ output_of measure (Err x) block out
refused_out true x block out = refl
refused_out false x block out = refl

module _ (F : Form) (bases : List ℕ) (count : ℕ) (t out : List ℕ) where
  -- a set with a wrong sample, whose bits were counted
  counted_wrong : (out₁ : List ℕ) (i room : ℕ) → SetWritten (write_lines F bases t count) false out out₁ (Err i)
      → (Err (NotPredicted i) ≡ measured_answer F bases count t room) × (out₁ ≡ out)
  unfolding measured_answer
  counted_wrong out₁ i room s = go (write_lines F bases t count).wrong refl s.are
    where
      go : (o : Option ℕ) → (write_lines F bases t count).wrong ≡ o → IsSetPut o (write_lines F bases t count) false out out₁ (Err i)
          → (Err (NotPredicted i) ≡ measured_answer F bases count t room) × (out₁ ≡ out)
      go None e p = clash _ i (sym p.0)
      go (Some j) e p = let f : Err i ≡ Err j = p.0 in let q : i ≡ j = cc in (rw (e, q), p.1 refl)

  -- and with none
  pub record Counted (out₁ : List ℕ) (end : BitPosition) : Type 0 where
    pub right : (write_lines F bases t count).wrong ≡ None
    pub position : end.0 ≡ length (write_lines F bases t count).bits
    pub kept : out₁ ≡ out

  counted_right : (out₁ : List ℕ) (end : BitPosition) → SetWritten (write_lines F bases t count) false out out₁ (Ok end) → Counted out₁ end
  counted_right out₁ end s = go (write_lines F bases t count).wrong refl s.are
    where
      go : (o : Option ℕ) → (write_lines F bases t count).wrong ≡ o → IsSetPut o (write_lines F bases t count) false out out₁ (Ok end) → Counted out₁ end
      go None e p =
          let f : Ok end ≡ Ok (record { 0 = length (write_lines F bases t count).bits }) = p.0 in
          let q : end ≡ record { 0 = length (write_lines F bases t count).bits } = cc in
          record { right = e; position = ap (λ (a : BitPosition). a.0) q; kept = p.1 }
      go (Some j) e p = clash end j p.0

  needed : (out₁ : List ℕ) (end : BitPosition) → Counted out₁ end → block_bytes end.0 ≡ length (written_block F bases count t)
  needed out₁ end k = rw k.position (sym (block_length F bases count t))

  -- ---- what is answered after counting, for a set that is only measured or not

  abbrev pub Answered : Bool → Result ℕ Refusal → List ℕ → Type 0
  Answered measure a out' =
      (a ≡ measured_answer F bases count t (room_for measure (written_block F bases count t) out)) × (out' ≡ output_of measure a (written_block F bases count t) out)

  module _ (out₁ : List ℕ) (end : BitPosition) (k : Counted out₁ end) where
    -- a measured set has room for just its block
    answered_length : Answered true (Ok (block_bytes end.0)) out₁
    unfolding measured_answer
    answered_length =
        let n : ℕ = length (written_block F bases count t) in
        (rw (k.right, needed out₁ end k, le-ltb n n (le_refl n)), k.kept)

    answered_short : ltb (length out₁) (block_bytes end.0) ≡ true → Answered false (Err ShortOutput) out₁
    unfolding measured_answer
    answered_short e =
        let f : ltb (length out) (length (written_block F bases count t)) ≡ true = rw (k.kept, needed out₁ end k) at e in
        (rw (k.right, f), k.kept)

  pub next_answer : (out₁ : List ℕ) (r : Result BitPosition ℕ) (measure : Bool) (a : Result ℕ Refusal) → SetWritten (write_lines F bases t count) false out out₁ r
      → next_of r measure (length out₁) ≡ Answer a → Answered measure a out₁
  next_answer out₁ (Err i) measure a s e =
      let q : Err (NotPredicted i) ≡ a = cc in
      let w = counted_wrong out₁ i (room_for measure (written_block F bases count t) out) s in
      subst (λ (x : Result ℕ Refusal). Answered measure x out₁) q (w.0, w.1 ∙ refused_out measure (NotPredicted i) (written_block F bases count t) out)
  next_answer out₁ (Ok end) measure a s e = go measure (ltb (length out₁) (block_bytes end.0)) refl e
    where
      k : Counted out₁ end
      k = counted_right out₁ end s

      go : (m b : Bool) → ltb (length out₁) (block_bytes end.0) ≡ b
          → cond m (Answer (Ok (block_bytes end.0))) (cond b (Answer (Err ShortOutput)) (Store end)) ≡ Answer a → Answered m a out₁
      go true b eb f = let q : Ok (block_bytes end.0) ≡ a = cc in subst (λ (x : Result ℕ Refusal). Answered true x out₁) q (answered_length out₁ end k)
      go false true eb f = let q : Err ShortOutput ≡ a = cc in subst (λ (x : Result ℕ Refusal). Answered false x out₁) q (answered_short out₁ end k eb)
      go false false eb f = let no : ◌≡◌ {A = ℕ} 0 1 = cc in absurd (omega arith)

  -- ---- what is stored then

  pub next_store : (out₁ : List ℕ) (r : Result BitPosition ℕ) (measure : Bool) (end : BitPosition) → SetWritten (write_lines F bases t count) false out out₁ r
      → next_of r measure (length out₁) ≡ Store end → (measure ≡ false) × Storable F bases count t (length out₁) × (out₁ ≡ out)
  next_store out₁ (Err i) measure end s e = let no : ◌≡◌ {A = ℕ} 0 1 = cc in absurd (omega arith)
  next_store out₁ (Ok at) measure end s e = go measure refl (ltb (length out₁) (block_bytes at.0)) refl e
    where
      k : Counted out₁ at
      k = counted_right out₁ at s

      go : (m : Bool) → measure ≡ m → (b : Bool) → ltb (length out₁) (block_bytes at.0) ≡ b
          → cond m (Answer (Ok (block_bytes at.0))) (cond b (Answer (Err ShortOutput)) (Store at)) ≡ Store end
          → (measure ≡ false) × Storable F bases count t (length out₁) × (out₁ ≡ out)
      go true em b eb f = let no : ◌≡◌ {A = ℕ} 0 1 = cc in absurd (omega arith)
      go false em true eb f = let no : ◌≡◌ {A = ℕ} 0 1 = cc in absurd (omega arith)
      go false em false eb f =
          (em, record { right = k.right; enough = omega (arith, ltb-false (length out₁) (block_bytes at.0) eb, needed out₁ at k) }, k.kept)

  -- the answer for a block that was stored in such an output
  pub stored_answer : (out₁ out' : List ℕ) (measure : Bool) (a : Result ℕ Refusal) → measure ≡ false → out₁ ≡ out → Storable F bases count t (length out₁)
      → Stored (written_block F bases count t) out₁ out' a → Answered measure a out'
  unfolding measured_answer
  stored_answer out₁ out' measure a em e k s =
      let room : length (written_block F bases count t) ≤ length out = rw e at k.enough in
      rw (em, s.answered) (rw (k.right, le-ltb (length out) (length (written_block F bases count t)) room), s.output ∙ rw e)

-- a walk that stores such a set
module _ (F : Form) (bases : List ℕ) (count : ℕ) (t out : List ℕ) (k : Storable F bases count t (length out)) where
  -- there is room for the bits
  pub store_room : Room true out 0 (write_lines F bases t count).bits
  store_room e = omega (arith, k.enough, block_length F bases count t)

  module _ (out₁ : List ℕ) (r : Result BitPosition ℕ) (s : SetWritten (write_lines F bases t count) true out out₁ r) where
    put : IsSetPut None (write_lines F bases t count) true out out₁ r
    put = rw k.right at s.are

    pub never_wrong : {X : Type 0} (j : ℕ) → r ≡ Err j → X
    never_wrong j e = clash _ j (sym put.0 ∙ e)

    module _ (end : BitPosition) (e : r ≡ Ok end) where
      end_is : end.0 ≡ length (write_lines F bases t count).bits
      end_is =
          let f : Ok end ≡ Ok (record { 0 = length (write_lines F bases t count).bits }) = sym e ∙ put.0 in
          let q : end ≡ record { 0 = length (write_lines F bases t count).bits } = cc in
          ap (λ (a : BitPosition). a.0) q

      pub tail_room : block_bytes end.0 ≤ length out
      tail_room = omega (arith, k.enough, block_length F bases count t, end_is)

      pub stored : (out₂ : List ℕ) → out₂ ≡ filled end.0 out₁ → (n : ℕ) → n ≡ block_bytes end.0
          → Stored (written_block F bases count t) out out₂ (Ok n)
      unfolding written_block
      stored out₂ eo n en =
          let l : List Bool = (write_lines F bases t count).bits in
          let m : length (written_block F bases count t) ≡ block_bytes (length l) = block_length F bases count t in
          record {
            answered = ap Ok (en ∙ rw end_is (sym m));
            output = eo ∙ rw (end_is, put.1) (fill_all out l ∙ rw (sym m));
          }

-- ---- the answer for any set

module _ (F : Form) (bases : List ℕ) (count : ℕ) (t : List ℕ) (room m : ℕ) (strict : Bool) (em : m ≡ largest F.bits) (es : strict ≡ is_strict bases) where
  first_is : (o : Option ℕ) → first_above (is_ignored F.xtrans strict) m 0 t ≡ o → above_in F bases t ≡ o
  first_is o e = rw (em, es) at e

  pub set_above : (i : ℕ) → first_above (is_ignored F.xtrans strict) m 0 t ≡ Some i → Err (AboveLargest i) ≡ set_answer F bases count t room
  unfolding set_answer
  set_above i e = rw (first_is (Some i) e)

  pub set_wanted : first_above (is_ignored F.xtrans strict) m 0 t ≡ None → SetWanted F t
  set_wanted e = none_wanted F bases t (first_is None e)

  pub set_answer_lem : first_above (is_ignored F.xtrans strict) m 0 t ≡ None → (a : Result ℕ Refusal) → a ≡ measured_answer F bases count t room
      → a ≡ set_answer F bases count t room
  unfolding set_answer
  set_answer_lem e a h = h ∙ rw (first_is None e)

-- ---- which sets are written: exactly those that fit, where the output is long enough

within_none : (ignored : ℕ → Bool) (m i : ℕ) (t : List ℕ) → Within m t → first_above ignored m i t ≡ None
unfolding first_above
within_none ignored m i [] h = refl
within_none ignored m i (v ∷ t) h = rw (le-leb v m (h 0)) (within_none ignored m (suc i) t (λ j. h (suc j)))

module _ (F : Form) (lines : ℕ) (t : List ℕ) (room : ℕ) where
  pub fits_written : FitSet F lines t → length (tight_block F lines t) ≤ room → written_answer F lines t room ≡ Ok (length (tight_block F lines t))
  unfolding set_answer measured_answer
  fits_written f h =
      rw (within_none (is_ignored F.xtrans true) (largest F.bits) 0 t f.range, f.predicted, le-ltb room (length (tight_block F lines t)) h)

  pub written_fits : (n : ℕ) → length t ≡ set_size (width_of F.xtrans) lines → written_answer F lines t room ≡ Ok n
      → FitSet F lines t × (n ≡ length (tight_block F lines t)) × (n ≤ room)
  unfolding set_answer measured_answer
  written_fits n size e = ranged (above_in F [] t) refl e
    where
      measured : (b : Bool) → Within (largest F.bits) t → (write_lines F [] t lines).wrong ≡ None → ltb room (length (tight_block F lines t)) ≡ b
          → cond b (Err ShortOutput) (Ok (length (tight_block F lines t))) ≡ Ok n
          → FitSet F lines t × (n ≡ length (tight_block F lines t)) × (n ≤ room)
      measured true r p h f = let no : ◌≡◌ {A = ℕ} 0 1 = cc in absurd (omega arith)
      measured false r p h f =
          let k : length (tight_block F lines t) ≡ n = cc in
          (record { size = size; range = r; predicted = p }, sym k, omega (arith, k, ltb-false room (length (tight_block F lines t)) h))

      predicted : (o : Option ℕ) → Within (largest F.bits) t → (write_lines F [] t lines).wrong ≡ o
          → predicted_answer o (length (tight_block F lines t)) room ≡ Ok n
          → FitSet F lines t × (n ≡ length (tight_block F lines t)) × (n ≤ room)
      predicted None r p f = measured (ltb room (length (tight_block F lines t))) r p refl f
      predicted (Some j) r p f = let no : ◌≡◌ {A = ℕ} 0 1 = cc in absurd (omega arith)

      ranged : (o : Option ℕ) → above_in F [] t ≡ o → range_answer o (measured_answer F [] lines t room) ≡ Ok n
          → FitSet F lines t × (n ≡ length (tight_block F lines t)) × (n ≤ room)
      ranged None g f = predicted (write_lines F [] t lines).wrong (none_within F t g) refl f
      ranged (Some i) g f = let no : ◌≡◌ {A = ℕ} 0 1 = cc in absurd (omega arith)
