-- Entries and holds after blocks, calls and histories. Assumes nothing.
use borrow.Author.Tests.{ltb-true}
use mathlib.Core.Bool.{Bool, true, false, cond, ◌||◌, false≢true}
use mathlib.Core.List.{List, [], ◌∷◌}
use mathlib.Core.Path.{◌≡◌, refl, sym, ap, ◌∙◌}
use Prim.Native.Nat.{ℕ, zero, suc, ◌+◌, ◌≤◌, ◌<◌}
use native.Mathlib.Nat.{le_refl}
use native.Mathlib.Omega.{arith}
use lib.Dec.{ltb}
use lib.ListN.{length, get_or, take, drop}
use Rattle.numbers.specs.Numbers.{flag}
use Rattle.stream.specs.Streams.{row_of}
use Rattle.stream.specs.Ranges.{part_of}
use Rattle.stream.specs.declared.header.FujiHeader.{FujiHeader}
use Rattle.image_region.specs.Regions.{first_block, line_count}
use Rattle.image_region.specs.declared.Rect.{Rect}
use Rattle.cameras.specs.Entries.{is_held, holds_it, entry_at, taking_lines, given_back, handed_back, holds, holds_of, mended, Sound}
use Rattle.cameras.specs.declared.Camera.{Camera}
use Rattle.cameras.specs.declared.Camera.TheVariants.{One, Two}
use Rattle.cameras.specs.declared.Entry.{Entry}
use Rattle.cameras.proofs.EntryLaws.{all_below_lem}
use Rattle.cameras.proofs.HoldLaws.{length_after, holds_after, holds_given}
use Rattle.cameras.proofs.SoundLaws.{sound_after, sound_given, mended_sound}
use Rattle.admission.specs.Beginnings.{region_begins}
use Rattle.admission.proofs.CallLaws.{region_reads}
use Rattle.read_block.specs.Images.{bases_in, read_in}
use Rattle.read_block.specs.Sharing.{entry_lines, block_entries, entries_after, last_entries, is_refused, call_entries}
use Rattle.theorem_cameras.specs.TwoCameras.{Event, call, end, call_answer, after, taken_blocks, taken_call, taken, given, after_all, taken_all, given_all, OfBytes, NoneHeld}
use Rattle.std.specs.Prelude.{Err, None, Ok, Option, Result, Some}
use Rattle.bits.specs.declared.ByteOffset.{ByteOffset}
use Rattle.stream.specs.declared.header.Refusal.{Refusal}

-- ---- bytes

get_d_drop_low : (d : List ℕ) (n i : ℕ) → ((k : ℕ) → get_or d k 0 < 256) → get_or (drop n d) i 0 < 256
get_d_drop_low d zero i ok = ok i
get_d_drop_low [] (suc n) i ok = ok i
get_d_drop_low (x ∷ d) (suc n) i ok = get_d_drop_low d n i (λ k. ok (suc k))

get_d_take_low : (d : List ℕ) (n i : ℕ) → ((k : ℕ) → get_or d k 0 < 256) → get_or (take n d) i 0 < 256
get_d_take_low d zero i ok = omega arith
get_d_take_low [] (suc n) i ok = omega arith
get_d_take_low (x ∷ d) (suc n) zero ok = ok 0
get_d_take_low (x ∷ d) (suc n) (suc i) ok = get_d_take_low d n i (λ k. ok (suc k))

bases_low : (d : List ℕ) (b : ℕ) → ((k : ℕ) → get_or d k 0 < 256) → (n : ℕ) → get_or (bases_in d b) n 0 < 256
bases_low d b ok n = go (row_of d b)
  where
    go : (x : Result (ByteOffset × ℕ) Refusal) → get_or (part_of d x) n 0 < 256
    go (Ok (from, m)) = get_d_take_low (drop from.0 d) m n (λ k. get_d_drop_low d from.0 k ok)
    go (Err r) = omega arith

-- ---- the lines that take an entry have one

taking_low : (m e : ℕ) → taking_lines m e ≤ e
taking_low m e = go (ltb m e) refl
  where
    go : (t : Bool) → ltb m e ≡ t → cond t (suc m) e ≤ e
    go true t = let l = ltb-true m e t in omega arith
    go false t = le_refl e

-- ---- blocks

module _ (c : Camera) (d : List ℕ) (h : FujiHeader) (r : Rect) (l : List Entry) (size : length l ≡ 16) where
  length_blocks : (n : ℕ) → length (entries_after c d h r l n) ≡ 16
  unfolding entries_after block_entries
  length_blocks zero = size
  length_blocks (suc n) =
      length_after c h.bits (bases_in d (first_block r + n)) (entries_after c d h r l n) (length_blocks n) _ ∙ length_blocks n

  holds_blocks : (n : ℕ) → holds (entries_after c d h r l n) ≡ holds l + taken_blocks c d h r l n
  unfolding entries_after block_entries taken_blocks
  holds_blocks zero = omega arith
  holds_blocks (suc n) =
      let b : ℕ = first_block r + n in
      let m : List Entry = entries_after c d h r l n in
      let t : ℕ = taking_lines (read_in d h r b) (entry_lines c d h r b m) in
      let all = all_below_lem c h.bits (bases_in d b) m (line_count r) t (taking_low (read_in d h r b) (entry_lines c d h r b m)) in
      omega (arith, holds_blocks n, holds_after c h.bits (bases_in d b) m (length_blocks n) t all)

  sound_blocks : 12 ≤ h.bits → h.bits ≤ 16 → ((k : ℕ) → get_or d k 0 < 256) → Sound l → (n : ℕ) → Sound (entries_after c d h r l n)
  unfolding entries_after block_entries
  sound_blocks low high ok s zero = s
  sound_blocks low high ok s (suc n) =
      sound_after c h.bits (bases_in d (first_block r + n)) (entries_after c d h r l n) low high (bases_low d (first_block r + n) ok)
      (sound_blocks low high ok s n) _

-- ---- a call

module _ (c : Camera) (d : List ℕ) (r : Rect) (l : List Entry) (s : Sound l) where
  size_mended : length (mended l) ≡ 16
  size_mended = rw (mended_sound l s) s.size

  length_call : (begins : Result (Option FujiHeader) Refusal) → length (call_entries c d r begins l) ≡ 16
  unfolding last_entries
  length_call (Err x) = size_mended
  length_call (Ok None) = size_mended
  length_call (Ok (Some h)) = length_blocks c d h r (mended l) size_mended _

  holds_call : (begins : Result (Option FujiHeader) Refusal) → holds (call_entries c d r begins l) ≡ holds l + taken_call c d r begins l
  unfolding last_entries
  holds_call (Err x) = rw (mended_sound l s) (omega arith)
  holds_call (Ok None) = rw (mended_sound l s) (omega arith)
  holds_call (Ok (Some h)) =
      holds_blocks c d h r (mended l) size_mended _ ∙ ap (λ (z : List Entry). holds z + taken_call c d r (Ok (Some h)) l) (mended_sound l s)

  sound_call : (i t n : ℕ) → ((k : ℕ) → get_or d k 0 < 256) → (begins : Result (Option FujiHeader) Refusal) → region_begins d r i t n ≡ begins → Sound (call_entries c d r begins l)
  unfolding last_entries
  sound_call i t n ok (Err x) e = rw (mended_sound l s) s
  sound_call i t n ok (Ok None) e = rw (mended_sound l s) s
  sound_call i t n ok (Ok (Some h)) e =
      let k = (region_reads _ _ _ _ _ _ e).region.ruled in
      sound_blocks c d h r (mended l) size_mended k.bits_low k.bits_high ok (rw (mended_sound l s) s) _

holds_handed : (c : Camera) (t : Bool) (m : List Entry) → length m ≡ 16 → holds (handed_back c t m) + cond t (holds_of c m) 0 ≡ holds m
holds_handed c true m size = holds_given c m size
holds_handed c false m size = omega arith

sound_handed : (c : Camera) (t : Bool) (m : List Entry) → Sound m → Sound (handed_back c t m)
sound_handed c true m s = sound_given c m s
sound_handed c false m s = s

sound_after_call : (c : Camera) (d : List ℕ) (r : Rect) (i t n : ℕ) (l : List Entry) → ((k : ℕ) → get_or d k 0 < 256) → Sound l → Sound (after (call c d r i t n) l)
sound_after_call c d r i t n l ok s =
    let begins = region_begins d r i t n in
    sound_handed c (is_refused (call_answer c d r begins l)) (call_entries c d r begins l) (sound_call c d r l s i t n ok begins refl)

-- ---- an event

holds_event : (e : Event) (l : List Entry) → Sound l → holds (after e l) + given e l ≡ holds l + taken e l
holds_event (call c d r i t n) l s =
    let begins = region_begins d r i t n in
    holds_handed c (is_refused (call_answer c d r begins l)) (call_entries c d r begins l) (length_call c d r l s begins) ∙ holds_call c d r l s begins
holds_event (end c) l s = holds_given c l s.size ∙ (omega arith)

-- ---- a history

pub sound_all : (es : List Event) (l : List Entry) → OfBytes es → Sound l → Sound (after_all es l)
sound_all [] l ok s = s
sound_all (call c d r i t n ∷ es) l ok s =
    sound_all es (after (call c d r i t n) l) ok.1
    (sound_after_call c d r i t n l ok.0 s)
sound_all (end c ∷ es) l ok s = sound_all es (given_back c l) ok (sound_given c l s)

pub holds_all : (es : List Event) (l : List Entry) → OfBytes es → Sound l → holds (after_all es l) + given_all es l ≡ holds l + taken_all es l
holds_all [] l ok s = refl
holds_all (call c d r i t n ∷ es) l ok s =
    let e : Event = call c d r i t n in
    let one = holds_event e l s in
    let rest =
    holds_all es (after e l) ok.1
    (sound_after_call c d r i t n l ok.0 s) in
    omega (arith, one, rest)
holds_all (end c ∷ es) l ok s =
    let one = holds_event (end c) l s in
    let rest = holds_all es (given_back c l) ok (sound_given c l s) in
    omega (arith, one, rest)

-- ---- none held

pub none_sound : (l : List Entry) → NoneHeld l → Sound l
none_sound l n =
    record {
      size = n.size;
      numbered = λ i low h. absurd (false≢true (sym (n.free i low) ∙ h));
      apart = λ i j li lj h p. absurd (false≢true (sym (n.free j lj) ∙ h));
    }

unheld : (c : Camera) (e : Entry) → is_held e ≡ false → flag (holds_it c e) ≡ 0
unheld One e h = go e.one e.two h
  where
    go : (a b : Bool) → a || b ≡ false → flag a ≡ 0
    go true b t = absurd (false≢true (sym t))
    go false b t = refl
unheld Two e h = go e.one e.two h
  where
    go : (a b : Bool) → a || b ≡ false → flag b ≡ 0
    go true b t = absurd (false≢true (sym t))
    go false true t = absurd (false≢true (sym t))
    go false false t = refl

none_of : (c : Camera) (l : List Entry) → ((i : ℕ) → i < length l → is_held (entry_at l i) ≡ false) → holds_of c l ≡ 0
none_of c [] h = refl
none_of c (e ∷ l) h = omega (arith, unheld c e (h 0 (omega arith)), none_of c l (λ i low. h (suc i) (omega arith)))

pub none_holds : (l : List Entry) → NoneHeld l → holds l ≡ 0
none_holds l n =
    let free : (i : ℕ) → i < length l → is_held (entry_at l i) ≡ false = λ i low. n.free i (omega (arith, low, n.size)) in
    omega (arith, none_of One l free, none_of Two l free)
