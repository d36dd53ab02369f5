-- `fuji_compressed::decoding::fuji_end_stream` meets its contract. Assumes nothing.
use mathlib.Core.List.{List}
use mathlib.Core.Path.{◌≡◌, ap, ◌∙◌, subst}
use Prim.Native.Nat.{ℕ}
use Rattle.cameras.specs.Entries.{given_back}
use Rattle.cameras.specs.Words.{AreWords}
use Rattle.cameras.specs.declared.Camera.{Camera}
use Rattle.cameras.specs.declared.Entry.{Entry}
use Rattle.fuji_compressed.proofs.decoding.fuji_end_stream.Goals as goal

ended : (c c' : Camera) (l l' m : List Entry) (w : List ℕ) → c ≡ c' → l ≡ l' → m ≡ given_back c l → AreWords m w → AreWords (given_back c' l') w
ended c c' l l' m w e f g p =
    subst (λ (z : List Entry). AreWords z w) (g ∙ ap (λ (x : Camera). given_back x l) e ∙ ap (λ (x : List Entry). given_back c' x) f) p

pub returns : goal.returns
returns c =
    ended _ _ _ _ _ c.words_of.result c.camera_in-c.ensures c.entries_in-held.ensures c.end_stream-left.ensures c.words_of.ensures
