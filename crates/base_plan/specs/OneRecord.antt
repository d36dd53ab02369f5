-- Promises. What a plan means, said of its records alone: the statements that proofs/OneRecordLaws.antt and proofs/NamedLaws.antt prove of every plan.
use Rattle.std.specs.Prelude.{true, false, List, ◌≡◌, ℕ, ◌+◌, ◌<◌, length, get_or, Err, Ok}
use Rattle.stream.specs.declared.header.Refusal.TheVariants.{BadRecord, HeldTwice, NotHeld}
use Rattle.base_plan.specs.Records.{is_good, start_of, holds, base_at}
use Rattle.base_plan.specs.Plans.{plan_answer, BasesAfter}

-- the text is m records, and every one is good
pub record AllGood (d : List ℕ) (lines m : ℕ) : Type 0 where
  pub good : (k : ℕ) → k < m → is_good d lines (start_of d k) ≡ true
  pub whole : start_of d m ≡ length d

-- exactly one of m records holds line n
pub record OneHolder (d : List ℕ) (m n : ℕ) : Type 0 where
  pub index : ℕ
  pub inside : index < m
  pub held : holds d n index ≡ true
  pub only : (k : ℕ) → k < m → holds d n k ≡ true → k ≡ index

-- every record is good, and every line lies in exactly one
pub record InOrder (d : List ℕ) (lines : ℕ) : Type 0 where
  pub records : ℕ
  pub all_good : AllGood d lines records
  pub one : (n : ℕ) → n < lines → OneHolder d records n

-- a plan is accepted exactly if it is in order
pub record AcceptedInOrder (d : List ℕ) (lines : ℕ) : Type 0 where
  pub in_order : plan_answer d lines ≡ (Ok tt) → InOrder d lines
  pub accepted : InOrder d lines → plan_answer d lines ≡ (Ok tt)

-- and then each byte is the base of the one record that holds its line
abbrev pub OneRecord : Type 0
OneRecord =
    (d bases bases' : List ℕ) (order : InOrder d (length bases)) → BasesAfter d bases bases' (Ok tt)
    → (n : ℕ) (h : n < length bases) → get_or bases' n 0 ≡ base_at d (start_of d (order.one n h).index)

-- ---- what a refusal names

-- record r, counted from 1, is the lowest that is not good
pub record LowestBad (d : List ℕ) (lines r : ℕ) : Type 0 where
  pub before : ℕ
  pub number : r ≡ before + 1
  pub good : (k : ℕ) → k < before → is_good d lines (start_of d k) ≡ true
  pub there : start_of d before < length d
  pub bad : is_good d lines (start_of d before) ≡ false

-- two of m records hold line n
pub record TwoHolders (d : List ℕ) (m n : ℕ) : Type 0 where
  pub one : ℕ
  pub other : ℕ
  pub apart : one < other
  pub inside : other < m
  pub one_holds : holds d n one ≡ true
  pub other_holds : holds d n other ≡ true

-- every record is good, and line n is the lowest that two hold
pub record LowestTwice (d : List ℕ) (lines n : ℕ) : Type 0 where
  pub records : ℕ
  pub all_good : AllGood d lines records
  pub line : n < lines
  pub twice : TwoHolders d records n
  pub lower : (i : ℕ) → i < n → TwoHolders d records i → ⊥

-- every record is good, no line is held twice, and line n is the lowest that none holds
pub record LowestNone (d : List ℕ) (lines n : ℕ) : Type 0 where
  pub records : ℕ
  pub all_good : AllGood d lines records
  pub line : n < lines
  pub none : (k : ℕ) → k < records → holds d n k ≡ false
  pub not_twice : (i : ℕ) → i < lines → TwoHolders d records i → ⊥
  pub lower : (i : ℕ) → i < n → OneHolder d records i

-- each refusal names what it should
pub record Named (d : List ℕ) (lines : ℕ) : Type 0 where
  pub bad : (r : ℕ) → plan_answer d lines ≡ Err (BadRecord r) → LowestBad d lines r
  pub twice : (n : ℕ) → plan_answer d lines ≡ Err (HeldTwice n) → LowestTwice d lines n
  pub none : (n : ℕ) → plan_answer d lines ≡ Err (NotHeld n) → LowestNone d lines n
