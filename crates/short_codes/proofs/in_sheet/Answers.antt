-- `short_codes::in_sheet` meets its contract. Assumes nothing.
use mathlib.Core.Path.{refl}
use Rattle.short_codes.specs.Sheets.{in_sheet}
use Rattle.short_codes.proofs.in_sheet.Goals as goal

pub returns : goal.returns
unfolding in_sheet
returns c = refl
