-- Promises. Two cameras that share 16 quantiser entries: what each reads is its own, but for refusal 23, which comes exactly where a line has no entry; entries
-- that began with none held keep their form; and the holds are the bases taken less those given back, over any history of calls. Assumes nothing.
use Rattle.std.specs.Prelude.{true, false, cond, List, [], ◌∷◌, ◌↔◌, ◌≡◌, ℕ, zero, suc, ◌+◌, ◌≤◌, ◌<◌, length, get_or, Err, None, Ok, Option, Result, Some}
use Rattle.stream.specs.declared.header.FujiHeader.{FujiHeader}
use Rattle.stream.specs.declared.header.Refusal.TheVariants.{NoEntry}
use Rattle.image_region.specs.Regions.{first_block, line_count}
use Rattle.image_region.specs.declared.Rect.{Rect}
use Rattle.cameras.specs.Entries.{is_held, is_pair, entry_at, after_lines, taking_lines, taken_by, given_back, handed_back, holds, holds_of, mended, Sound}
use Rattle.cameras.specs.declared.Camera.{Camera}
use Rattle.cameras.specs.declared.Entry.{Entry}
use Rattle.admission.specs.Beginnings.{region_begins}
use Rattle.read_block.specs.Images.{bases_in, read_in, Left}
use Rattle.read_block.specs.Lent.{Buffers}
use Rattle.read_block.specs.Sharing.{entry_lines, block_count, entries_after, blocks_before, is_out, shared_answer, is_refused, call_entries, LeftShared}
use Rattle.stream.specs.declared.header.Refusal.{Refusal}

-- ---- a history

-- a call reads a region of a stream for a camera, with an image and scratch of these lengths; or a camera's stream ends
pub data Event : Type 0 where
  call : Camera → List ℕ → Rect → (image lines records : ℕ) → Event
  end : Camera → Event

-- what a call answers
abbrev pub call_answer : Camera → List ℕ → Rect → Result (Option FujiHeader) Refusal → List Entry → Result Unit Refusal
call_answer c d r (Err x) l = Err x
call_answer c d r (Ok None) l = Ok tt
call_answer c d r (Ok (Some h)) l = shared_answer c d h r (mended l)

-- the entries after an event
abbrev pub after : Event → List Entry → List Entry
after (call c d r i s n) l =
    let begins = region_begins d r i s n in
    handed_back c (is_refused (call_answer c d r begins l)) (call_entries c d r begins l)
after (end c) l = given_back c l

-- ---- the bases taken, and those given back

-- by the lines of the region's first n blocks
unfoldable pub taken_blocks : Camera → List ℕ → FujiHeader → Rect → List Entry → ℕ → ℕ
taken_blocks c d h r l zero = 0
taken_blocks c d h r l (suc n) =
    let b = first_block r + n in
    let m = entries_after c d h r l n in
    taken_blocks c d h r l n + taken_by c h.bits (bases_in d b) m (taking_lines (read_in d h r b) (entry_lines c d h r b m))

-- by a call: its last block is the one with 23, if there is one
abbrev pub taken_call : Camera → List ℕ → Rect → Result (Option FujiHeader) Refusal → List Entry → ℕ
taken_call c d r (Err x) l = 0
taken_call c d r (Ok None) l = 0
taken_call c d r (Ok (Some h)) l =
    let n = blocks_before c d h r (mended l) in
    taken_blocks c d h r (mended l) (cond (is_out c d h r (mended l)) (suc n) n)

abbrev pub taken : Event → List Entry → ℕ
taken (call c d r i s n) l = taken_call c d r (region_begins d r i s n) l
taken (end c) l = 0

-- a refused call gives back all that its camera holds then, and so does the end of its stream
abbrev pub given : Event → List Entry → ℕ
given (call c d r i s n) l =
    let begins = region_begins d r i s n in
    cond (is_refused (call_answer c d r begins l)) (holds_of c (call_entries c d r begins l)) 0
given (end c) l = holds_of c l

-- over a history
abbrev pub after_all : List Event → List Entry → List Entry
after_all [] l = l
after_all (e ∷ es) l = after_all es (after e l)

abbrev pub taken_all : List Event → List Entry → ℕ
taken_all [] l = 0
taken_all (e ∷ es) l = taken e l + taken_all es (after e l)

abbrev pub given_all : List Event → List Entry → ℕ
given_all [] l = 0
given_all (e ∷ es) l = given e l + given_all es (after e l)

-- streams are of bytes
abbrev pub OfBytes : List Event → Type 0
OfBytes [] = Unit
OfBytes (call c d r i s n ∷ es) = ((k : ℕ) → get_or d k 0 < 256) × OfBytes es
OfBytes (end c ∷ es) = OfBytes es

-- ---- what holds

-- the entries before line n of the region's block k
abbrev pub entries_at : Camera → List ℕ → FujiHeader → Rect → List Entry → (k n : ℕ) → List Entry
entries_at c d h r l k n = after_lines c h.bits (bases_in d (first_block r + k)) (entries_after c d h r l k) n

-- 16 entries, none of which is held; they may hold any numbers
pub record NoneHeld (l : List Entry) : Type 0 where
  pub size : length l ≡ 16
  pub free : (i : ℕ) → i < 16 → is_held (entry_at l i) ≡ false

-- line n of the region's block k has no entry: all 16 are held, none for its depth and base, after the lines before it took theirs. They were all read
pub record NoEntryAt (c : Camera) (d : List ℕ) (h : FujiHeader) (r : Rect) (l : List Entry) (k n : ℕ) : Type 0 where
  pub wanted : n < line_count r
  pub read : n ≤ read_in d h r (first_block r + k)
  pub held : (i : ℕ) → i < 16 → is_held (entry_at (entries_at c d h r l k n) i) ≡ true
  pub other : (i : ℕ) → i < 16 → is_pair h.bits (get_or (bases_in d (first_block r + k)) n 0) (entry_at (entries_at c d h r l k n) i) ≡ false

-- it is the first such line, in the order of reading
pub record FirstWithout (c : Camera) (d : List ℕ) (h : FujiHeader) (r : Rect) (l : List Entry) (k n : ℕ) : Type 0 where
  pub there : NoEntryAt c d h r l k n
  pub inside : k < block_count r
  pub blocks : (j m : ℕ) → NoEntryAt c d h r l j m → k ≤ j
  pub lines : (m : ℕ) → NoEntryAt c d h r l k m → n ≤ m

pub record TwoCameras : Type 0 where
  -- unless it is refused by 23, a call leaves what `decode_region` leaves, whatever the entries
  pub own : (c : Camera) (d : List ℕ) (r : Rect) (tile : List ℕ) (begins : Result (Option FujiHeader) Refusal) (l l' : List Entry) (before after : Buffers) (answer : Result Unit Refusal)
      → LeftShared c d r tile begins l before after answer l' → ((b n : ℕ) → answer ≡ Err (NoEntry b n) → ⊥) → Left d r tile begins before after answer
  -- and it is refused by 23 exactly where a line has no entry: the first one is named
  pub out : (c : Camera) (d : List ℕ) (h : FujiHeader) (r : Rect) (l : List Entry) (k n : ℕ)
      → (shared_answer c d h r l ≡ Err (NoEntry (first_block r + k) n)) ↔ FirstWithout c d h r l k n
  -- a call hands back the entries that stand in the history
  pub told : (c : Camera) (d : List ℕ) (r : Rect) (tile : List ℕ) (i s n : ℕ) (l l' : List Entry) (before after' : Buffers) (answer : Result Unit Refusal)
      → LeftShared c d r tile (region_begins d r i s n) l before after' answer l' → l' ≡ after (call c d r i s n) l
  -- entries that began with none held, and that only these calls wrote, keep their form, and are not mended
  pub form : (es : List Event) (l : List Entry) → OfBytes es → NoneHeld l → Sound (after_all es l)
  pub whole : (l : List Entry) → Sound l → mended l ≡ l
  -- the holds are the bases taken less those given back
  pub total : (es : List Event) (l : List Entry) → OfBytes es → NoneHeld l → holds (after_all es l) + given_all es l ≡ taken_all es l
