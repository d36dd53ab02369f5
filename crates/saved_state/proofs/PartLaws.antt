-- Storing the head, the three sets and the lines stores the whole state. Assumes nothing.
use borrow.Author.Tests.{lt-ltb, le-ltb}
use mathlib.Core.Bool.{Bool}
use mathlib.Core.List.{List}
use mathlib.Core.Path.{◌≡◌, sym, ◌∙◌}
use Prim.Native.Nat.{ℕ, ◌+◌, ◌-◌, ◌*◌, ◌/◌, ◌%◌, ◌≤◌, ◌<◌}
use native.Mathlib.Nat.{zero-add}
use native.Mathlib.Omega.{arith}
use lib.ListN.{length, take, drop}
use lib.Seq.{get_or-take, get_or-drop, length-take-le}
use Rattle.statistics.specs.declared.Record.{Record}
use Rattle.pass_steps.specs.Contexts.{no_record}
use Rattle.saved_state.specs.Heads.{put_each, head_byte}
use Rattle.saved_state.specs.Checkpoints.{stored_record, records_byte, lines_byte, Saved, checkpoint_byte, checkpoint_of}
use Rattle.saved_state.specs.Checkpoints.{size_of_checkpoint}
use Rattle.saved_state.specs.Inside.{IsCheckpoint}
use Rattle.saved_state.proofs.PutLaws.{put_length, put_same, put_add, put_at_lem}

-- set g among the records
abbrev pub set_in : ℕ → List Record → List Record
set_in g records = take 112 (drop (112 * g) records)

module _ (lossless : Bool) (W : ℕ) (z : Saved) (out : List ℕ) where
  abbrev byte : ℕ → ℕ
  byte = checkpoint_byte lossless W z

  pub head_part : put_each (head_byte z.stream z.block (z.line + 1) z.at) 0 27 out ≡ put_each byte 0 27 out
  unfolding checkpoint_byte
  head_part = put_same (head_byte z.stream z.block (z.line + 1) z.at) 0 out byte 27 (λ i h. rw (lt-ltb i 27 h))

  set_byte : (g i : ℕ) → g < 3 → i < 560 → records_byte lossless (set_in g z.records) i ≡ byte (27 + 560 * g + i)
  unfolding checkpoint_byte records_byte stored_record
  set_byte g i a b =
      let e : 27 + 560 * g + i - 27 ≡ 560 * g + i = omega arith in
      let f : (560 * g + i) / 5 ≡ 112 * g + i / 5 = omega arith in
      let k : (560 * g + i) % 5 ≡ i % 5 = omega arith in
      let m : (112 * g + i / 5) % 56 ≡ i / 5 % 56 = omega arith in
      rw (
        get_or-take 112 (drop (112 * g) z.records) (i / 5) no_record (omega arith),
        get_or-drop (112 * g) z.records (i / 5) no_record,
        le-ltb (27 + 560 * g + i) 27 (omega arith),
        lt-ltb (27 + 560 * g + i) 1707 (omega arith),
        e,
        f,
        k,
        m,
      )

  -- after the bytes before set g
  pub set_part : (g : ℕ) → g < 3 → (l : List ℕ) → l ≡ put_each byte 0 (27 + 560 * g) out
      → put_each (records_byte lossless (set_in g z.records)) (27 + 560 * g) 560 l ≡ put_each byte 0 (27 + 560 * g + 560) out
  set_part g h l e =
      put_same (records_byte lossless (set_in g z.records)) (27 + 560 * g) l (λ i. byte (27 + 560 * g + i)) 560 (λ i b. set_byte g i h b)
      ∙ rw e (sym (rw zero-add at (put_add byte 0 out (27 + 560 * g) 560)))

  -- after all of them
  pub lines_part : (l : List ℕ) → l ≡ put_each byte 0 1707 out → put_each (lines_byte W z.lines) 1707 (12 * W) l ≡ checkpoint_of lossless W z out
  unfolding checkpoint_byte
  lines_part l e =
      put_same (lines_byte W z.lines) 1707 l (λ i. byte (1707 + i)) (12 * W)
      (λ i b. let k : 1707 + i - 1707 ≡ i = omega arith in rw (le-ltb (1707 + i) 27 (omega arith), le-ltb (1707 + i) 1707 (omega arith), k))
      ∙ rw e (sym (put_add byte 0 out 1707 (12 * W)))

  -- and then the first bytes are that state
  pub is_checkpoint : size_of_checkpoint W ≤ length out → IsCheckpoint lossless W z (take (size_of_checkpoint W) (checkpoint_of lossless W z out))
  is_checkpoint h =
      record {
        whole = length-take-le (size_of_checkpoint W) (checkpoint_of lossless W z out) (rw (put_length byte 0 out (size_of_checkpoint W)) h);
        bytes =
            λ i b. get_or-take (size_of_checkpoint W) (checkpoint_of lossless W z out) i 0 b
            ∙ (rw zero-add at (put_at_lem byte 0 out (size_of_checkpoint W) i 0 b (rw zero-add h)));
      }
