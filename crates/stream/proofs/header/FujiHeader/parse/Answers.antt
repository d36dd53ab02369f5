-- `stream::header::FujiHeader::parse` meets its contract, by the three ways in which bytes parse. Assumes nothing.
use borrow.Author.Tests.{ltb-true, ltb-false}
use mathlib.Core.Bool.{Bool, true, false, ◌&&◌}
use mathlib.Core.List.{List}
use mathlib.Core.Path.{◌≡◌, sym, ◌∙◌}
use Prim.Native.Nat.{ℕ, ◌≤◌}
use lib.Dec.{ltb}
use lib.ListN.{length}
use Rattle.stream.specs.Headers.{header_of, kind_rules, size_rules, count_rules, all_rules, parse_of}
use Rattle.stream.specs.declared.header.FujiHeader.{FujiHeader}
use Rattle.stream.specs.declared.header.Refusal.TheVariants.{BadHeader}
use Rattle.stream.proofs.HeaderLaws.{parse_short, parse_bad, parse_good}
use Rattle.stream.proofs.header.FujiHeader.parse.Goals as goal
use Rattle.std.specs.Prelude.{Err, Ok}

-- the three tests on the header that was read are those of all rules
module _ (d : List ℕ) (h : FujiHeader) (k s n : Bool) (eh : h ≡ header_of d) (ek : k ≡ kind_rules d) (es : s ≡ size_rules h) (en : n ≡ count_rules h) where
  rules : (k && s && n) ≡ all_rules d
  rules = rw (ek, es, en, eh)

  good : 16 ≤ length d → (k && s && n) ≡ true → Ok h ≡ parse_of d
  good l t = rw eh (sym (parse_good d l (sym rules ∙ t)))

  bad : 16 ≤ length d → (k && s && n) ≡ false → Err BadHeader ≡ parse_of d
  bad l t = sym (parse_bad d l (sym rules ∙ t))

-- what the first test leaves
long : (n : ℕ) (b : Bool) → b ≡ ltb n 16 → b ≡ false → 16 ≤ n
long n b e l = ltb-false n 16 (sym e ∙ l)

pub returns-then-is_short : goal.returns-then-is_short
returns-then-is_short c = sym (parse_short _ (ltb-true _ _ (sym c.is_short.ensures ∙ c.if-is_short.true)))

pub read_header-h-requires : goal.read_header-h-requires
read_header-h-requires c = long _ _ c.is_short.ensures c.if-is_short.false

pub keeps_kind_rules-requires : goal.keeps_kind_rules-requires
keeps_kind_rules-requires c = long _ _ c.is_short.ensures c.if-is_short.false

pub returns-then-keeps_kind_rules-keeps_size_rules : goal.returns-then-keeps_kind_rules-keeps_size_rules
returns-then-keeps_kind_rules-keeps_size_rules c =
    good _ _ _ _ _ c.read_header-h.ensures c.keeps_kind_rules.ensures c.keeps_size_rules.ensures c.keeps_count_rules.ensures (long _ _ c.is_short.ensures c.if-is_short.false) c.if-keeps_kind_rules-keeps_size_rules.true

pub returns : goal.returns
returns c =
    bad _ _ _ _ _ c.read_header-h.ensures c.keeps_kind_rules.ensures c.keeps_size_rules.ensures c.keeps_count_rules.ensures (long _ _ c.is_short.ensures c.if-is_short.false) c.if-keeps_kind_rules-keeps_size_rules.false
