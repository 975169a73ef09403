use Rattle.std.proofs.Common.{◌≡◌, false, take}
use Rattle.std.specs.List.{list_any}
use Rattle.av_reports.specs.Output.{is_compression}
use Rattle.av_commands.proofs.checking.write_advice.Given as goal

-- no finding up to here is of a chunk of another compression, and nothing is written
abbrev pub invariant-loop-finding : goal.invariant-loop-finding
invariant-loop-finding g l = record {
  none : list_any (λ f. is_compression f.fault) (take l.finding-index l.found) ≡ false;
  same : g.E.Write.contents l.err ≡ g.E.Write.contents l.fn.err;
}
