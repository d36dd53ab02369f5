-- `cameras::handed_back` meets its contract, by whether the call was refused. Assumes nothing.
use mathlib.Core.Bool.{Bool, true}
use mathlib.Core.List.{List}
use mathlib.Core.Path.{◌≡◌}
use Rattle.cameras.specs.Entries.{given_back, handed_back}
use Rattle.cameras.specs.declared.Camera.{Camera}
use Rattle.cameras.specs.declared.Entry.{Entry}
use Rattle.cameras.proofs.handed_back.Goals as goal

refused : (c : Camera) (b : Bool) (l l' : List Entry) → b ≡ true → l' ≡ given_back c l → l' ≡ handed_back c b l
refused c b l l' t e = rw t e

pub returns-then-refused : goal.returns-then-refused
returns-then-refused c =
    refused c.args.camera c.args.refused c.args.entries.all _ c.if-refused.true c.end_stream.ensures

pub returns : goal.returns
returns c = rw c.if-refused.false
