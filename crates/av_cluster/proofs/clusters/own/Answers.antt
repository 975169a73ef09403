use Rattle.std.proofs.Common.{refl, arith}
use Rattle.std.proofs.lemmas.List.{length-map}
use Rattle.av_cluster.proofs.Gathers.{grown_at, kept_at}
use Rattle.av_cluster.proofs.clusters.own.Goals as goal

pub returns-clause-parts : goal.returns-clause-parts
returns-clause-parts c = kept_at (λ u. u.entries.items) c.args.clusters.now.items c.args.number c.index_mut-cluster.result.now _ c.index_mut-cluster.ensures.value refl

pub returns-clause-sections : goal.returns-clause-sections
returns-clause-sections c =
    grown_at (λ u. u.sections.items) c.args.clusters.now.items c.args.number c.index_mut-cluster.result.now _ c.args.section
    (let a = length-map c.args.clusters.now.items (λ u. u.sections.items) in let b = length-map c.args.clusters.now.items (λ u. u.entries.items) in let d = c.requires in omega arith) c.index_mut-cluster.ensures.value c.in_ok-push.ensures.items
