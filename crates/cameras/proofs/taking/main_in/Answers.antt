-- `cameras::taking::main_in` meets its contract: the main quantiser of a held pair, or computed anew. Assumes nothing.
use Rattle.cameras.proofs.EntryLaws.{pair_main}
use Rattle.cameras.proofs.taking.main_in.Goals as goal

pub returns-in-Some : goal.returns-in-Some
returns-in-Some c = pair_main _ _ _ _ c.requires.all_numbered c.in-Some.ensures.0 c.in-Some.ensures.1
