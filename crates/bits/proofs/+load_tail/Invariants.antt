-- `bits::load_tail` ends: the measure is k, and the k bytes from i on are the first k - 1 and one more.
use Rattle.bits.proofs.+load_tail.Given as goal

abbrev pub decreases-load_tail : goal.decreases-load_tail
decreases-load_tail l = l.k
