-- Promises. The entries as 128 words, for C: of each entry the depth, then base, weight, total, raw and limit of its quantiser, then 1 or 0 for each camera that
-- holds it or does not. Assumes nothing.
use Rattle.std.specs.Prelude.{cond, not, List, [], ◌∷◌, ◌≡◌, ℕ, ◌+◌, ◌*◌, ◌/◌, ◌%◌, ◌<◌, eqb, get_or}
use Rattle.numbers.specs.Numbers.{flag}
use Rattle.cameras.specs.Entries.{entry_at}
use Rattle.cameras.specs.declared.Entry.{Entry}
use Rattle.cameras.specs.declared.Camera.{Camera}
use Rattle.cameras.specs.declared.Camera.TheVariants.{One, Two}

-- entry i; any number but 0 is a hold
unfoldable pub entry_in : List ℕ → ℕ → Entry
entry_in w i =
    record {
      bits = get_or w (8 * i) 0;
      main =
          record {
            base = get_or w (8 * i + 1) 0;
            weight = get_or w (8 * i + 2) 0;
            total = get_or w (8 * i + 3) 0;
            raw = get_or w (8 * i + 4) 0;
            limit = get_or w (8 * i + 5) 0;
          };
      one = not (eqb (get_or w (8 * i + 6) 0) 0);
      two = not (eqb (get_or w (8 * i + 7) 0) 0);
    }

unfoldable pub entries_in : List ℕ → List Entry
entries_in w =
    entry_in w 0 ∷ entry_in w 1 ∷ entry_in w 2 ∷ entry_in w 3 ∷ entry_in w 4 ∷ entry_in w 5 ∷ entry_in w 6 ∷ entry_in w 7
    ∷ entry_in w 8 ∷ entry_in w 9 ∷ entry_in w 10 ∷ entry_in w 11 ∷ entry_in w 12 ∷ entry_in w 13 ∷ entry_in w 14 ∷ entry_in w 15 ∷ []

-- the eight words of an entry
unfoldable pub words_of : Entry → List ℕ
words_of e =
    let m = e.main in
    e.bits ∷ m.base ∷ m.weight ∷ m.total ∷ m.raw ∷ m.limit ∷ flag e.one ∷ flag e.two ∷ []

abbrev pub AreWords : List Entry → List ℕ → Type 0
AreWords l w = (k : ℕ) → k < 128 → get_or w k 0 ≡ get_or (words_of (entry_at l (k / 8))) (k % 8) 0

-- camera 1 is 1, and any other number is camera 2
abbrev pub camera_in : ℕ → Camera
camera_in n = cond (eqb n 1) One Two
