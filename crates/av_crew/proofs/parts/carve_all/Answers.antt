use Rattle.std.proofs.Common.{◌++◌, ◌∷◌, [], ap, sym, subst, ◌∙◌, arith, length, length-append, append_assoc, refl, ℕ, vec_len}
use Rattle.av_world.proofs.Steps.{IsSameButBlocks-trans}
use Rattle.av_world.specs.Views.{grid}
use Rattle.av_crew.specs.Jobs.{IsJob, AreJobs, IsCarved}
use Rattle.av_cluster.specs.Clusters.{parts_of}
use Rattle.av_crew.specs.Parts.{picks_of, HaveParts, CarvesOne}
use Rattle.av_crew.proofs.Steps.{can_carve, job_is, carved_more, are_more, parts_more, at_middle, carved_first}
use Rattle.av_crew.proofs.parts.carve_all.Goals as goal

pub carve_one-requires-clause-can : goal.carve_one-requires-clause-can
carve_one-requires-clause-can c =
    let i = c.loop-cluster.invariant in
    let y = at_middle c.args.clusters.items c.loop-cluster.yielded c.in-Some.cluster c.next.new.self.rest.items (i.8 ∙ ap (λ l. c.loop-cluster.yielded ++ l) c.in-Some.ensures.steps.0) in
    can_carve (grid c.args.world.now) c.requires.cut.0 c.args.clusters.items c.requires.cut.1 (length c.loop-cluster.yielded) c.in-Some.cluster y.0 y.1 (grid c.loop-cluster.world) i.5

pub loop-cluster-preserved : goal.loop-cluster-preserved
loop-cluster-preserved c =
    let i = c.loop-cluster.invariant in
    let e = c.in_ok-carve_one.ensures in
    let n : ℕ = length c.loop-cluster.yielded in
    let split = i.8 ∙ ap (λ l. c.loop-cluster.yielded ++ l) c.in-Some.ensures.steps.0 in
    let y = at_middle c.args.clusters.items c.loop-cluster.yielded c.in-Some.cluster c.next.new.self.rest.items split in
    let one = subst (λ m. CarvesOne c.loop-cluster.world c.carve_one.new.world c.in-Some.cluster m c.in_ok-carve_one.field-0) i.4 e.ok in
    let pushed = c.push_reserved.ensures.items ∙ ap (λ l. l ++ c.in_ok-carve_one.field-0 ∷ []) c.reserve.ensures.items in
    let is : IsJob (grid c.args.world.now) (parts_of c.args.clusters.items) (picks_of c.args.clusters.items) n c.in_ok-carve_one.field-0 =
    job_is (grid c.args.world.now) c.requires.cut.0 c.args.clusters.items c.requires.cut.1 n c.in-Some.cluster y.0 y.1 (grid c.loop-cluster.world) i.5 c.loop-cluster.world c.carve_one.new.world refl c.in_ok-carve_one.field-0 one in
    let carved = carved_more (grid c.args.world.now) c.requires.cut.0 c.args.clusters.items c.requires.cut.1 n c.in-Some.cluster y.0 y.1 (grid c.loop-cluster.world) i.5 c.loop-cluster.world c.carve_one.new.world refl c.in_ok-carve_one.field-0 one in
    let more = length-append c.loop-cluster.yielded (c.in-Some.cluster ∷ []) in
    let jobs = ap length pushed ∙ length-append c.loop-cluster.jobs.items (c.in_ok-carve_one.field-0 ∷ []) in (
      tt,
      tt,
      subst (AreJobs (grid c.args.world.now) (parts_of c.args.clusters.items) (picks_of c.args.clusters.items) 0) (sym pushed)
          (are_more _ _ _ 0 c.loop-cluster.jobs.items c.in_ok-carve_one.field-0 i.2 (subst (λ m. IsJob (grid c.args.world.now) (parts_of c.args.clusters.items) (picks_of c.args.clusters.items) m c.in_ok-carve_one.field-0) (omega (arith, i.3)) is)),
      omega (arith, jobs, more, i.3),
      omega (arith, more, i.4),
      subst (λ m. IsCarved (grid c.args.world.now) (picks_of c.args.clusters.items) m (grid c.carve_one.new.world)) (omega (arith, more)) carved,
      subst (HaveParts c.carve_one.new.world) (sym pushed) (parts_more c.loop-cluster.world c.carve_one.new.world c.loop-cluster.jobs.items c.in_ok-carve_one.field-0 i.6 e.same one.part),
      IsSameButBlocks-trans _ _ _ i.7 e.same,
      split ∙ sym (append_assoc c.loop-cluster.yielded (c.in-Some.cluster ∷ []) c.next.new.self.rest.items),
    )

pub returns-in_err-reserve-clause-carved : goal.returns-in_err-reserve-clause-carved
returns-in_err-reserve-clause-carved c =
    let i = c.loop-cluster.invariant in
    carved_first (grid c.args.world.now) (picks_of c.args.clusters.items) c.args.clusters.items c.loop-cluster.yielded c.loop-cluster.cluster-iterator.rest.items i.8 (vec_len c.args.clusters) c.args.clusters.ok.0 (grid c.loop-cluster.world) i.5

pub returns-in_err-carve_one-clause-carved : goal.returns-in_err-carve_one-clause-carved
returns-in_err-carve_one-clause-carved c =
    let i = c.loop-cluster.invariant in
    subst (λ rest. IsCarved (grid c.args.world.now) (picks_of c.args.clusters.items) (vec_len c.args.clusters) rest) (sym c.in_err-carve_one.ensures.unchanged)
    (carved_first (grid c.args.world.now) (picks_of c.args.clusters.items) c.args.clusters.items c.loop-cluster.yielded c.loop-cluster.cluster-iterator.rest.items i.8 (vec_len c.args.clusters) c.args.clusters.ok.0 (grid c.loop-cluster.world) i.5)
