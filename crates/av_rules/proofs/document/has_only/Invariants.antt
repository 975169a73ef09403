use Rattle.std.proofs.Common.{◌≡◌, map}
use Rattle.toml.specs.View.{members_view}
use Rattle.av_rules.specs.Document.{has_only}
use Rattle.av_rules.proofs.document.has_only.Given as goal

abbrev pub invariant-loop-key : goal.invariant-loop-key
invariant-loop-key l = has_only (map (λ k. k.now) l.keys) (members_view l.key-iterator) ≡ has_only (map (λ k. k.now) l.keys) (members_view l.table.entries)
