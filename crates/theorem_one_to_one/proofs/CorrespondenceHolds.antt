-- The correspondence holds. Assumes nothing.
use mathlib.Core.Bool.{Bool}
use mathlib.Core.List.{List, [], ◌++◌}
use mathlib.Core.Logic.{◌↔◌}
use mathlib.Core.Path.{◌≡◌, refl, sym, ap, ◌∙◌, subst}
use Prim.Native.Nat.{ℕ, ◌/◌, ◌%◌, ◌≤◌, ◌<◌}
use native.Mathlib.Omega.{arith}
use lib.ListN.{length, get_or, take, take-append-drop}
use lib.Seq.{ext_get_or, length-take-le}
use Rattle.bits.specs.BitLists.{bits_of, bytes_of}
use Rattle.bits.proofs.ListLaws.{length_bits}
use Rattle.bits.proofs.PackLaws.{bytes_bytes_of, bytes_of_bits}
use Rattle.quantiser.specs.Quantisers.{largest}
use Rattle.pass_steps.specs.Contexts.{Depth}
use Rattle.image_map.specs.Places.{width_of}
use Rattle.stream.proofs.HeaderLaws.{ruled}
use Rattle.stream.proofs.StreamLaws.{row_lossless}
use Rattle.colour_lines.specs.Sets.{line_size, set_size, line_at, position_at}
use Rattle.write_pass.proofs.LosslessLaws.{Lossless, lossless}
use Rattle.write_pass.proofs.TurnPuts.{coded_wanted}
use Rattle.write_pass.proofs.SetLaws.{line_lt, rank_lt, position_lt, index_at}
use Rattle.read_block.specs.Blocks.{State}
use Rattle.read_block.specs.Images.{form_of}
use Rattle.read_block.specs.TightBlocks.{Tight, set_read}
use Rattle.write_block.specs.WrittenBlocks.{WriteState, write_lines, written_block, tight_block}
use Rattle.write_block.specs.Inside.{SetWanted, FitSet}
use Rattle.read_block.specs.declared.Form.{Form}
use Rattle.read_block.proofs.LineLaws.{width_in_range}
use Rattle.theorem_one_to_one.specs.Correspondence.{Bytes, TightBlockOf, Correspondence, CorrespondenceOfHeaders, NoBases}
use Rattle.theorem_one_to_one.proofs.AnswerLaws.{done_tight, tight_done}
use Rattle.theorem_one_to_one.proofs.PredictedBlocks.{fits_is}
use Rattle.theorem_one_to_one.proofs.BlockLaws.{set_size_lem, set_at, set_shown, set_le, Tail, tail_was}
use Rattle.theorem_one_to_one.proofs.BlockTwins.{shown_exact, lines_backward}
use Rattle.theorem_one_to_one.proofs.WrittenBack.{ReadWhole, read_whole}
use Rattle.theorem_one_to_one.proofs.RunTwins.{write_state_of}

-- samples in 0..M are so where they have a code
range_wanted : (F : Form) (t : List ℕ) → ((j : ℕ) → get_or t j 0 ≤ largest F.bits) → SetWanted F t
range_wanted F t range n i below =
    let even = (width_in_range F.xtrans (width_of F.xtrans) refl).2 in
    coded_wanted (largest F.bits) (width_of F.xtrans) t n even F.xtrans i below (λ c p hc hp e. range _)

module _ (F : Form) (depth : Depth F.bits) (Q : Lossless F.bits) (lines : ℕ) where
  abbrev W : ℕ
  W = width_of F.xtrans

  -- ---- from a set to its block

  module _ (t : List ℕ) (fit : FitSet F lines t) where
    s : List ℕ
    s = tight_block F lines t

    whole : ReadWhole F [] lines t s
    unfolding s
    whole = read_whole F [] depth lines t (range_wanted F t fit.range) fit.predicted

    pub written_bytes : Bytes (tight_block F lines t)
    unfolding written_block
    written_bytes = bytes_bytes_of (write_lines F [] t lines).bits

    pub written_tight : Tight F lines (tight_block F lines t)
    unfolding s
    written_tight = record { end = whole.end; read = whole.read; codes = whole.codes; tail = whole.tail }

    pub written_set : set_read F lines (tight_block F lines t) ≡ t
    unfolding s
    written_set =
        ext_get_or 0 (set_read F lines s) t (set_size_lem F lines s ∙ sym fit.size)
        (λ j h. let k : j < set_size W lines = omega (arith, set_size_lem F lines s) in
        let pos : 0 < W = omega (arith, (width_in_range F.xtrans W refl).0) in
        let n : ℕ = line_at W j in
        let shows = shown_exact F s t n (whole.shown n (line_lt W lines j pos k)) in
        set_at F lines s j k
        ∙ shows (j % line_size W / W) (rank_lt W lines j pos k) (position_at W j) (position_lt W lines j pos k)
        ∙ ap (λ (i : ℕ). get_or t i 0) (index_at W lines j pos k))

  -- ---- from a tight block to its set

  module _ (s : List ℕ) (T : Tight F lines s) where
    abbrev z : State
    z = T.end

    abbrev t : List ℕ
    t = set_read F lines s

    end : Tail s z.at.0
    end = tail_was s z.at.0 T.tail

    written : write_lines F [] t lines ≡ write_state_of s z
    written =
        lines_backward F Q s t lines z T.read (record { tight = T.codes; inside = end.inside })
        (λ n hn c hc p hp. sym (set_shown F lines s n c p hn hc hp))

    pub fits : FitSet F lines (set_read F lines s)
    fits =
        record {
          size = set_size_lem F lines s;
          range = set_le F lines s Q.high;
          predicted = ap (λ (w : WriteState). w.wrong) written;
        }

    pub block_is : Bytes s → tight_block F lines (set_read F lines s) ≡ s
    unfolding written_block
    block_is bytes =
        let l : List Bool = take z.at.0 (bits_of s) in
        let long : length l ≡ z.at.0 = length-take-le z.at.0 (bits_of s) (rw (length_bits s) end.inside) in
        ap (λ (w : WriteState). bytes_of w.bits) written
        ∙ bytes_of_bits s l bytes (rw long end.full)
        (sym (take-append-drop z.at.0 (bits_of s)) ∙ rw (long) (ap (λ (r : List Bool). l ++ r) end.zeros))

-- ---- the correspondence

pub correspondence : (F : Form) (lines : ℕ) → Depth F.bits → Correspondence F lines
correspondence F lines depth =
    record {
      same = same;
      sets = λ t. (λ p. from_set t ((fits_is F lines t).1 p), λ a. (fits_is F lines t).0 (to_set t a));
      one = λ t a b. (same a.block b.block a.bytes b.bytes a.tight b.tight).1 (a.reads ∙ sym b.reads);
      written = λ t p. written t ((fits_is F lines t).1 p);
      accepted = λ b s. (done_tight F s b lines, tight_done F s b lines);
      shown = set_shown F lines;
    }
  where
    Q : Lossless F.bits
    Q = lossless F.bits (omega (arith, depth.0)) depth.1

    same : (a b : List ℕ) → Bytes a → Bytes b → Tight F lines a → Tight F lines b → (a ≡ b) ↔ (set_read F lines a ≡ set_read F lines b)
    same a b ha hb ta tb =
        (λ e. ap (set_read F lines) e, λ e. sym (block_is F depth Q lines a ta ha) ∙ ap (tight_block F lines) e ∙ block_is F depth Q lines b tb hb)

    written : (t : List ℕ) → FitSet F lines t
        → Bytes (tight_block F lines t) × Tight F lines (tight_block F lines t) × (set_read F lines (tight_block F lines t) ≡ t)
    written t f = (written_bytes F depth Q lines t f, written_tight F depth Q lines t f, written_set F depth Q lines t f)

    to_set : (t : List ℕ) → TightBlockOf F lines t → FitSet F lines t
    to_set t a = subst (FitSet F lines) a.reads (fits F depth Q lines a.block a.tight)

    from_set : (t : List ℕ) → FitSet F lines t → TightBlockOf F lines t
    from_set t f =
        record {
          block = tight_block F lines t;
          bytes = written_bytes F depth Q lines t f;
          tight = written_tight F depth Q lines t f;
          reads = written_set F depth Q lines t f;
        }

-- under every lossless header that breaks no rule
pub correspondence_of_headers : CorrespondenceOfHeaders
correspondence_of_headers d h e lossless =
    let R = ruled d h e in
    correspondence (form_of h) h.lines (R.bits_low, R.bits_high)

pub no_bases : NoBases
no_bases d h e lossless b = row_lossless d h b e lossless
