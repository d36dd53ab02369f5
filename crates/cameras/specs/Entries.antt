-- Rules. The 16 quantiser entries that two cameras share: who holds one, which one a line takes, and what is given back.
use Rattle.std.specs.Prelude.{Bool, true, false, cond, not, ◌&&◌, ◌||◌, List, [], ◌∷◌, ◌≡◌, ℕ, zero, suc, ◌+◌, ◌≤◌, ◌<◌, leb, ltb, eqb, length, get_or, set, replicate}
use Rattle.numbers.specs.Numbers.{flag, least_from}
use Rattle.quantiser.specs.Quantisers.{main_of}
use Rattle.cameras.specs.declared.Entry.{Entry}
use Rattle.cameras.specs.declared.Camera.{Camera}
use Rattle.cameras.specs.declared.Camera.TheVariants.{One, Two}

-- ---- one entry

-- an entry that nobody holds
abbrev pub no_entry : Entry
no_entry = record { bits = 0; main = record { base = 0; weight = 0; total = 0; raw = 0; limit = 0 }; one = false; two = false }

abbrev pub is_held : Entry → Bool
is_held e = e.one || e.two

-- whether this camera holds it
abbrev pub holds_it : Camera → Entry → Bool
holds_it One e = e.one
holds_it Two e = e.two

-- it is in use for this pair of depth and main base
abbrev pub is_pair : ℕ → ℕ → Entry → Bool
is_pair bits q e = is_held e && eqb e.bits bits && eqb e.main.base q

-- with this camera's hold, and without it
abbrev pub held_by : Camera → Entry → Entry
held_by One e = record { bits = e.bits; main = e.main; one = true; two = e.two }
held_by Two e = record { bits = e.bits; main = e.main; one = e.one; two = true }

abbrev pub free_of : Camera → Entry → Entry
free_of One e = record { bits = e.bits; main = e.main; one = false; two = e.two }
free_of Two e = record { bits = e.bits; main = e.main; one = e.one; two = false }

-- an entry that is taken: the main quantiser of the pair, held by this camera alone
abbrev pub new_entry : Camera → ℕ → ℕ → Entry
new_entry c bits q = held_by c (record { bits = bits; main = main_of bits q; one = false; two = false })

-- ---- the 16 entries

abbrev pub entry_at : List Entry → ℕ → Entry
entry_at l i = get_or l i no_entry

-- the lowest entry that is in use for the pair, and the lowest that nobody holds; 16 where there is none
unfoldable pub pair_in : ℕ → ℕ → List Entry → ℕ
pair_in bits q l = least_from 16 (λ i. is_pair bits q (entry_at l i)) 0

unfoldable pub free_in : List Entry → ℕ
free_in l = least_from 16 (λ i. not (is_held (entry_at l i))) 0

-- whether a line with this pair has an entry: one that is in use for it, or else one that nobody holds
unfoldable pub has_entry : ℕ → ℕ → List Entry → Bool
has_entry bits q l = ltb (pair_in bits q l) 16 || ltb (free_in l) 16

-- the entries after such a line: the camera shares the one in use, or else takes the lowest that nobody holds
unfoldable pub with_entry : Camera → ℕ → ℕ → List Entry → List Entry
with_entry c bits q l =
    let i = pair_in bits q l in
    let j = free_in l in
    cond (ltb i 16) (set l i (held_by c (entry_at l i))) (cond (ltb j 16) (set l j (new_entry c bits q)) l)

-- f at each of the first n entries
unfoldable pub each : (Entry → Entry) → ℕ → List Entry → List Entry
each f zero l = l
each f (suc n) l = let m = each f n l in set m n (f (entry_at m n))

-- all holds of this camera go back
abbrev pub given_back : Camera → List Entry → List Entry
given_back c l = each (free_of c) 16 l

-- what a call hands back: a refused one gives back all holds of its camera
abbrev pub handed_back : Camera → Bool → List Entry → List Entry
handed_back c refused l = cond refused (given_back c l) l

abbrev pub no_entries : List Entry
no_entries = replicate 16 no_entry

-- ---- the lines of a block, whose bases are these; a lossless block has none, and base 0 in each line

-- the entries after its first n lines
unfoldable pub after_lines : Camera → ℕ → List ℕ → List Entry → ℕ → List Entry
after_lines c bits bases l zero = l
after_lines c bits bases l (suc n) = with_entry c bits (get_or bases n 0) (after_lines c bits bases l n)

-- how many of its first n lines have an entry: those before the first that has none
unfoldable pub lines_with_entry : Camera → ℕ → List ℕ → List Entry → ℕ → ℕ
lines_with_entry c bits bases l zero = 0
lines_with_entry c bits bases l (suc n) =
    let m = lines_with_entry c bits bases l n in
    cond (eqb m n && has_entry bits (get_or bases n 0) (after_lines c bits bases l n)) (suc n) m

-- how many lines of a block take one, if e lines have one and m are read: the truncated line takes one too
abbrev pub taking_lines : (m e : ℕ) → ℕ
taking_lines m e = cond (ltb m e) (suc m) e

-- line e, which has none, is one of the n lines that are wanted, and all before it are read
abbrev pub is_stopped : (m e n : ℕ) → Bool
is_stopped m e n = ltb e n && leb e m

-- ---- how many holds there are

abbrev pub sum_of : (Entry → ℕ) → List Entry → ℕ
sum_of f [] = 0
sum_of f (e ∷ l) = f e + sum_of f l

-- of one camera, and of both
abbrev pub holds_of : Camera → List Entry → ℕ
holds_of c l = sum_of (λ e. flag (holds_it c e)) l

abbrev pub holds : List Entry → ℕ
holds l = holds_of One l + holds_of Two l

-- a line takes a base unless its camera holds the pair already
unfoldable pub takes_one : Camera → ℕ → ℕ → List Entry → ℕ
takes_one c bits q l = flag (not (holds_it c (entry_at l (pair_in bits q l))))

-- the bases taken by the first n lines of a block
unfoldable pub taken_by : Camera → ℕ → List ℕ → List Entry → ℕ → ℕ
taken_by c bits bases l zero = 0
taken_by c bits bases l (suc n) = taken_by c bits bases l n + takes_one c bits (get_or bases n 0) (after_lines c bits bases l n)

-- ---- entries that only these calls wrote, and others

-- the numbers of an entry are those of its pair
pub record Numbered (e : Entry) : Type 0 where
  pub low : 12 ≤ e.bits
  pub high : e.bits ≤ 16
  pub base : e.main.base < 256
  pub main : e.main ≡ main_of e.bits e.main.base

-- every held entry has the numbers of its pair
abbrev pub AllNumbered : List Entry → Type 0
AllNumbered l = (i : ℕ) → i < 16 → is_held (entry_at l i) ≡ true → Numbered (entry_at l i)

-- 16 entries of which no two are held for the same pair
pub record Sound (l : List Entry) : Type 0 where
  pub size : length l ≡ 16
  pub numbered : AllNumbered l
  pub apart : (i j : ℕ) → i < 16 → j < 16 → is_held (entry_at l j) ≡ true → is_pair (entry_at l j).bits (entry_at l j).main.base (entry_at l i) ≡ true → i ≡ j

-- a call mends what it is given: a held entry gets the numbers of its pair, or is no longer held where there is no such quantiser
abbrev pub mended_entry : Entry → Entry
mended_entry e =
    cond (is_held e)
    (cond (leb 12 e.bits && leb e.bits 16 && ltb e.main.base 256)
    (record { bits = e.bits; main = main_of e.bits e.main.base; one = e.one; two = e.two })
    no_entry)
    e

abbrev pub mended : List Entry → List Entry
mended l = each mended_entry 16 l
