-- `cameras::no_entries` meets its contract. Assumes nothing.
use mathlib.Core.Bool.{false≢true}
use mathlib.Core.Path.{◌≡◌, sym, ap, ◌∙◌, subst}
use lib.ListN.{replicate, get_or-replicate}
use Rattle.cameras.specs.Entries.{no_entry, no_entries, is_held, AllNumbered}
use Rattle.cameras.specs.declared.Entry.{Entry}
use Rattle.cameras.proofs.no_entries.Goals as goal

-- none is held
none_held : AllNumbered no_entries
none_held i low h = absurd (false≢true (sym (ap is_held (get_or-replicate 16 i no_entry no_entry low)) ∙ h))

none : (e : Entry) → e ≡ no_entry → (replicate 16 e ≡ no_entries) × AllNumbered (replicate 16 e)
none e h = (ap (replicate 16) h, subst (λ (z : Entry). AllNumbered (replicate 16 z)) (sym h) none_held)

pub returns : goal.returns
returns c = none _ c.no_entry.ensures
