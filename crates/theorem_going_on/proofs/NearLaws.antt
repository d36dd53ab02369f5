-- Two states of a block that agree in what the next line goes by are read alike. Assumes nothing.
use mathlib.Core.Bool.{Bool, true, false, cond}
use mathlib.Core.List.{List}
use mathlib.Core.Path.{◌≡◌, refl, sym, ◌∙◌}
use Prim.Native.Nat.{ℕ, zero, suc, ◌+◌, ◌*◌, ◌%◌, ◌≤◌, ◌<◌}
use native.Mathlib.Nat.{mul-le-mul_right}
use native.Mathlib.Numerals.{add-one}
use native.Mathlib.Omega.{arith}
use borrow.Author.Tests.{eqb-true, eqb-false}
use lib.Dec.{leb, ltb, eqb}
use lib.ListN.{length, get_or}
use Rattle.numbers.proofs.OrderLaws.{split}
use Rattle.statistics.specs.declared.Record.{Record}
use Rattle.code.specs.declared.Place.{Place}
use Rattle.colour_lines.specs.ColourLines.{guarded}
use Rattle.colour_lines.specs.Inside.{shifted, roomed, entered}
use Rattle.colour_lines.proofs.LineLaws.{length_guarded, length_turned}
use Rattle.colour_lines.proofs.MoveLaws.{length_shifted}
use Rattle.image_map.specs.Places.{width_of}
use Rattle.image_map.proofs.PartLaws.{by_test}
use Rattle.pass_schedule.specs.Steps.{plan_of}
use Rattle.pass_schedule.specs.declared.Plan.{Plan}
use Rattle.read_pass.specs.Readings.{Reading, read_pass}
use Rattle.read_pass.specs.Pairs.{reading_at}
use Rattle.read_pass.specs.Windows.{window_line, window_plan}
use Rattle.read_pass.proofs.RangeLaws.{pass_keeps}
use Rattle.read_pass.proofs.WindowLaws.{Alike}
use Rattle.read_block.specs.Between.{lines_entered}
use Rattle.read_block.specs.Blocks.{State, runs, enter, leave, pass_at, end_line, read_line, before_line, read_line_at, read_from}
use Rattle.read_block.specs.Records.{base_of, set_of, put_set}
use Rattle.read_block.specs.WindowedLines.{Windows}
use Rattle.read_block.specs.declared.Form.{Form}
use Rattle.read_block.proofs.PlacedLines.{Placed, placed_before}
use Rattle.read_block.proofs.WindowTwins.{two_lines, Stepped, held_pass, held_turn}
use Rattle.theorem_going_on.proofs.CountLaws.{Both, both_then, More, pass_more}
use Rattle.std.specs.Prelude.{None, Option, Some}

-- ---- states

-- after i passes of a line the same nine lines stand for the 18 of both; of the first, n more codes were long
pub record Near (W n i : ℕ) (r r' : State) : Type 0 where
  pub windows : List ℕ
  pub nine : length windows ≡ 9 * (W + 2)
  pub held : Windows W i r.lines windows
  pub held' : Windows W i r'.lines windows
  pub room : length r.lines ≡ 18 * (W + 2)
  pub room' : length r'.lines ≡ 18 * (W + 2)
  pub records : r.records ≡ r'.records
  pub at : r.at ≡ r'.at
  pub long : r.long ≡ n + r'.long

-- the colour lines that a line reads: 2 to 4, 7 to 12, 15 to 17
pub record Fresh (c : ℕ) : Type 0 where
  pub low : 2 ≤ c
  pub high : c ≤ 17
  pub green : 5 ≤ c → 7 ≤ c
  pub blue : 13 ≤ c → 15 ≤ c

-- those that i passes have read are the same in both
abbrev pub Shown : (W i : ℕ) → State → State → Type 0
Shown W i r r' = (c d : ℕ) → Fresh c → Placed i c → d < W + 2 → get_or r.lines (c * (W + 2) + d) 0 ≡ get_or r'.lines (c * (W + 2) + d) 0

fresh_none : (c : ℕ) → Fresh c → Placed 0 c → ⊥
fresh_none c f p =
    split 5 c
    (λ h. split 13 c (λ k. omega (arith, p.blue k, f.blue k)) (λ k. omega (arith, p.green h k, f.green h)))
    (λ h. omega (arith, p.red h, f.low))

pub fresh_all : (c : ℕ) → Fresh c → Placed 6 c
fresh_all c f = record { red = λ h. omega (arith, h); green = λ h k. omega (arith, k); blue = λ h. omega (arith, f.high) }

-- ---- a pass

-- three readings, of which the first two differ in what was counted, and two are alike to a third one in windows
via : (R Q : Reading → Reading → Type 0) (S T : Reading → Reading → Type 0) (a a' b o : Option Reading) → Both R a a' → Alike S a' o → Alike T b o
    → ((x x' y w : Reading) → o ≡ Some w → R x x' → S x' w → T y w → Q x y) → Both Q a b
via R Q S T None None None None p u v k = tt
via R Q S T None None (Some y) None p u v k = absurd v
via R Q S T None None b (Some w) p u v k = absurd u
via R Q S T None (Some x') b o p u v k = absurd p
via R Q S T (Some x) None b o p u v k = absurd p
via R Q S T (Some x) (Some x') b None p u v k = absurd u
via R Q S T (Some x) (Some x') None (Some w) p u v k = absurd v
via R Q S T (Some x) (Some x') (Some y) (Some w) p u v k = k x x' y w refl p u v

both_leave : (R : Reading → Reading → Type 0) (Q : State → State → Type 0) (P : Plan) (r r' : State) (a b : Option Reading) → Both R a b
    → ((x y : Reading) → R x y
    → Q (record { lines = x.lines; records = put_set P.set x.set r.records; at = x.at; tight = x.tight; long = x.long })
    (record { lines = y.lines; records = put_set P.set y.set r'.records; at = y.at; tight = y.tight; long = y.long }))
    → Both Q (leave P r a) (leave P r' b)
both_leave R Q P r r' None None u k = tt
both_leave R Q P r r' None (Some y) u k = absurd u
both_leave R Q P r r' (Some x) None u k = absurd u
both_leave R Q P r r' (Some x) (Some y) u k = k x y u

-- windows keep their length
window_low : (l : ℕ) → (2 ≤ window_line l) × (window_line l ≤ 8)
unfolding window_line
window_low l =
    by_test (ltb l 5)
    (λ e. rw e (omega arith, omega arith))
    (λ e. by_test (ltb l 13) (λ f. rw (e, f) (omega arith, omega arith)) (λ f. rw (e, f) (omega arith, omega arith)))

length_entered : (W a c : ℕ) (v : List ℕ) → length v ≡ 9 * (W + 2) → 2 ≤ a → a ≤ 8 → 2 ≤ c → c ≤ 8 → length (entered true W a c v) ≡ 9 * (W + 2)
unfolding entered roomed
length_entered W a c v h la ha lc hc =
    let ra : (a + 1) * (W + 2) ≤ 9 * (W + 2) = mul-le-mul_right (W + 2) (omega arith) in
    let rc : (c + 1) * (W + 2) ≤ 9 * (W + 2) = mul-le-mul_right (W + 2) (omega arith) in
    let e = length_shifted W a v la (omega arith) in
    length_guarded W c (guarded W a (shifted W c (shifted W a v))) ∙ length_guarded W a (shifted W c (shifted W a v))
    ∙ length_shifted W c (shifted W a v) lc (omega arith) ∙ e ∙ h

pub even_width : (xtrans : Bool) → width_of xtrans % 2 ≡ 0
even_width true = refl
even_width false = refl

module _ (F : Form) (depth : F.bits ≤ 16) (s : List ℕ) (n : ℕ) where
  abbrev W : ℕ
  W = width_of F.xtrans

  abbrev Alike-after : ℕ → State → State → Type 0
  Alike-after i z z' = Near W n i z z' × Shown W i z z'

  module _ (q i : ℕ) (hi : i < 6) (r r' : State) (near : Near W n i r r') (shown : Shown W i r r') where
    abbrev P : Plan
    P = plan_of F.xtrans i

    abbrev Q : Plan
    Q = window_plan true P

    abbrev from : Place
    from = record { at = r'.at; tight = r'.tight; long = r'.long }

    abbrev set : List Record
    set = set_of P.set r'.records

    abbrev in_windows : Reading
    in_windows = reading_at (entered true W Q.first Q.second near.windows) set from

    abbrev Next : Reading → Reading → Type 0
    Next x y =
        Alike-after (i + 1)
        (record { lines = x.lines; records = put_set P.set x.set r.records; at = x.at; tight = x.tight; long = x.long })
        (record { lines = y.lines; records = put_set P.set y.set r'.records; at = y.at; tight = y.tight; long = y.long })

    nine_stay : (w : Reading) → read_pass F.bits q W s Q in_windows ≡ Some w → length w.lines ≡ 9 * (W + 2)
    unfolding window_plan
    nine_stay w e =
        let a = window_low P.first in
        let c = window_low P.second in
        (pass_keeps F.bits q W s depth Q in_windows w e).lines
        ∙ length_entered W (window_line P.first) (window_line P.second) near.windows near.nine a.0 a.1 c.0 c.1

    next : (x x' y w : Reading) → read_pass F.bits q W s Q in_windows ≡ Some w → More n x x'
        → Stepped true W i P Q.first Q.second r.lines x' w → Stepped true W i P Q.first Q.second r'.lines y w → Next x y
    next x x' y w e m u v = (
      record {
        windows = w.lines;
        nine = nine_stay w e;
        held = rw m.lines u.held;
        held' = v.held;
        room = rw m.lines (u.length18 ∙ near.room);
        room' = v.length18 ∙ near.room';
        records = rw (m.set, u.sets, v.sets, near.records);
        at = m.at ∙ u.ats ∙ sym v.ats;
        long = m.long ∙ rw (u.longs, v.longs);
      },
      λ c d f p h. rw m.lines
          (by_test (eqb c P.first)
          (λ t. let k = eqb-true c P.first t in rw k (u.first_line_lem d h ∙ sym (v.first_line_lem d h)))
          (λ t. by_test (eqb c P.second)
          (λ t'. let k = eqb-true c P.second t' in rw k (u.second_line_lem d h ∙ sym (v.second_line_lem d h)))
          (λ t'.
          let a = eqb-false c P.first t in
          let b = eqb-false c P.second t' in
          u.others c d h a b ∙ shown c d f (placed_before P i c (two_lines F.xtrans i hi) a b p) h ∙ sym (v.others c d h a b)))),
    )

    pub pass_near : Both (Alike-after (i + 1)) (pass_at F q s i r) (pass_at F q s i r')
    unfolding pass_at
    pass_near =
        both_leave Next (Alike-after (i + 1)) P r r' (read_pass F.bits q W s P (enter F P r)) (read_pass F.bits q W s P (enter F P r'))
        (via (More n) Next (Stepped true W i P Q.first Q.second r.lines) (Stepped true W i P Q.first Q.second r'.lines)
        (read_pass F.bits q W s P (enter F P r)) (read_pass F.bits q W s P (reading_at (lines_entered F P r.lines) set from))
        (read_pass F.bits q W s P (enter F P r')) (read_pass F.bits q W s Q in_windows)
        (pass_more F.bits q W s n P (enter F P r) (reading_at (lines_entered F P r.lines) set from)
        (record { lines = refl; set = rw near.records; at = near.at; long = near.long }))
        (held_pass true F q s i r.lines near.windows set from depth (even_width F.xtrans) hi near.room near.nine near.held)
        (held_pass true F q s i r'.lines near.windows set from depth (even_width F.xtrans) hi near.room' near.nine near.held')
        next)
        (λ x y k. k)

  -- ---- a line

  passes_near : (q m : ℕ) (r r' : State) → m ≤ 6 → Near W n 0 r r' → Both (Alike-after m) (runs (pass_at F q s) m r) (runs (pass_at F q s) m r')
  unfolding runs
  passes_near q zero r r' h near = (near, λ c d f p k. absurd (fresh_none c f p))
  passes_near q (suc m) r r' h near =
      rw (← add-one)
      (both_then (Alike-after m) (Alike-after (m + 1)) (runs (pass_at F q s) m r) (runs (pass_at F q s) m r') (λ z. pass_at F q s m z) (λ z. pass_at F q s m z)
      (passes_near q m r r' (omega arith) near) (λ z z' k. pass_near q m (omega arith) z z' k.0 k.1))

  end_near : (R : State → State → Type 0) (z z' : State) → z.at ≡ z'.at → R z z' → Both R (end_line s z) (end_line s z')
  end_near R z z' e k =
      let same : leb z.at.0 (8 * length s + 7) ≡ leb z'.at.0 (8 * length s + 7) = rw e in
      rw same (go (leb z'.at.0 (8 * length s + 7)))
    where
      go : (b : Bool) → Both R (cond b (Some z) None) (cond b (Some z') None)
      go true = k
      go false = tt

  line_near : (q : ℕ) (r r' : State) → Near W n 0 r r' → Both (Alike-after 6) (read_line F q s r) (read_line F q s r')
  unfolding read_line
  line_near q r r' near =
      both_then (Alike-after 6) (Alike-after 6) (runs (pass_at F q s) 6 r) (runs (pass_at F q s) 6 r') (end_line s) (end_line s)
      (passes_near q 6 r r' (omega arith) near) (λ z z' k. end_near (Alike-after 6) z z' k.0.at k)

  -- ---- lines from line k on

  module _ (bases : List ℕ) where
    before_near : (m : ℕ) (r r' : State) → Near W n 6 r r' → Near W n 0 (before_line F bases m r) (before_line F bases m r')
    before_near m r r' near =
        record {
          windows = near.windows;
          nine = near.nine;
          held = held_turn true W r.lines near.windows near.windows (omega (arith, near.room)) refl near.held;
          held' = held_turn true W r'.lines near.windows near.windows (omega (arith, near.room')) refl near.held';
          room = length_turned W r.lines (omega (arith, near.room)) ∙ near.room;
          room' = length_turned W r'.lines (omega (arith, near.room')) ∙ near.room';
          records = rw near.records;
          at = near.at;
          long = near.long;
        }

    abbrev pub Alike-from : ℕ → State → State → Type 0
    Alike-from m x y = Near W n 6 x y × (1 ≤ m → Shown W 6 x y)

    pub from_near : (k m : ℕ) (z z' : State) → Near W n 6 z z' → Both (Alike-from m) (read_from F bases s k z m) (read_from F bases s k z' m)
    unfolding read_from runs read_line_at
    from_near k zero z z' near = (near, λ h. absurd (omega arith))
    from_near k (suc m) z z' near =
        both_then (Alike-from m) (Alike-from (suc m)) (runs (λ i. read_line_at F bases s (k + i)) m z) (runs (λ i. read_line_at F bases s (k + i)) m z')
        (λ x. read_line_at F bases s (k + m) x) (λ x. read_line_at F bases s (k + m) x) (from_near k m z z' near)
        (λ x y a. weaker (read_line_at F bases s (k + m) x) (read_line_at F bases s (k + m) y)
        (line_near (base_of bases (k + m)) (before_line F bases (k + m) x) (before_line F bases (k + m) y) (before_near (k + m) x y a.0)))
      where
        weaker : (o o' : Option State) → Both (Alike-after 6) o o' → Both (Alike-from (suc m)) o o'
        weaker None None a = tt
        weaker None (Some y) a = absurd a
        weaker (Some x) None a = absurd a
        weaker (Some x) (Some y) a = (a.0, λ h. a.1)
