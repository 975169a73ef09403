use Rattle.av_pack.proofs.InLongs.{SeenSome}
use Rattle.av_pack.proofs.in_longs.in_order_by.Given as goal

abbrev pub invariant-loop-i : goal.invariant-loop-i
invariant-loop-i l = SeenSome l.bits l.longs l.next l.i
