use Rattle.std.proofs.Common.{◌≡◌, ap, sym, subst, ◌∙◌, ◌++◌, vec_len}
use Rattle.std.specs.List.{flat_map}
use Rattle.std.proofs.lemmas.Result.{IfOk-weaker}
use Rattle.av_ticks.specs.Entries.{made_order}
use Rattle.av_types.specs.Order.{ordered}
use Rattle.av_cells.specs.Kinds.{kinds_of}
use Rattle.av_world.specs.Views.{grid, blocks, lists}
use Rattle.av_world.specs.ParcelViews.{blocks as parcel_blocks}
use Rattle.av_crew.specs.Jobs.{mended_all, IsCarved}
use Rattle.av_cluster.specs.Clusters.{parts_of}
use Rattle.av_crew.specs.Parts.{picks_of}
use Rattle.av_crew.proofs.Numbers.{jobs_differ}
use Rattle.av_crew.proofs.Others.{kept_carved, kept_mended}
use Rattle.av_crew.proofs.Steps.{none_refused}
use Rattle.av_crew.proofs.Whole.{jobs_able, dones_in, gathered}
use Rattle.av_crew.proofs.ticking.turn_parts.Goals as goal

pub work_all-requires-clause-able : goal.work_all-requires-clause-able
work_all-requires-clause-able g c κs within = jobs_able c.args.kinds.now (grid c.args.world.now) c.requires.cut.0 c.args.clusters.items c.requires.cut.1 c.requires.kinds c.requires.cut.2 c.carve_all.new.jobs.items c.in_ok-carve_all.ensures.jobs

pub mend_all-requires-clause-parts : goal.mend_all-requires-clause-parts
mend_all-requires-clause-parts g c = dones_in c.carve_all.new.world (kinds_of c.args.kinds.now) c.args.now c.carve_all.new.jobs.items c.in_ok-dones.dones.items c.in_ok-carve_all.ensures.parts c.in_ok-dones.ensures.ok

pub returns-clause-ok : goal.returns-clause-ok
returns-clause-ok g c =
    let mid = c.carve_all.new.world in
    let e = c.in_ok-carve_all.ensures in
    let dones = c.in_ok-dones.dones.items in
    let mended = subst (λ l. blocks c.mend_all.new.world ≡ mended_all (λ d. parcel_blocks d.parcel) l dones (blocks mid)) c.carve_all.ensures.same.lists_are c.mend_all.ensures.mended in
    let listed = ap (flat_map (λ m. m.items)) c.as_slice.ensures.value ∙ c.mend_all.ensures.made ∙ ap (λ ms. ms ++ flat_map (λ d. d.made.items) dones) (ap (flat_map (λ m. m.items)) c.in_ok-made.ensures.items) in
    IfOk-weaker c.merge_made.result _ _ (λ made is entries cut. gathered (kinds_of c.args.kinds.now) c.args.now (grid c.args.world.now) entries c.args.clusters.items cut (lists c.args.world.now) c.args.world.now.lawful.tied (grid mid) (subst (λ n. IsCarved (grid c.args.world.now) (picks_of c.args.clusters.items) n (grid mid)) c.args.clusters.ok.0 c.carve_all.ensures.carved)
    c.carve_all.new.jobs.items e.jobs (sym c.carve_all.new.jobs.ok.0 ∙ e.count ∙ c.args.clusters.ok.0) dones c.in_ok-dones.ensures.ok (none_refused dones (sym c.mend_all.ensures.refused ∙ c.if-mend_all.false)) (blocks c.mend_all.new.world) mended made.items (is ∙ ap (ordered made_order) listed)) c.merge_made.ensures.ok

pub work_all-requires-clause-numbers : goal.work_all-requires-clause-numbers
work_all-requires-clause-numbers g c κs within = jobs_differ (grid c.args.world.now) (parts_of c.args.clusters.items) (picks_of c.args.clusters.items) 0 c.carve_all.new.jobs.items c.in_ok-carve_all.ensures.jobs

pub returns-in_err-carve_all-clause-others : goal.returns-in_err-carve_all-clause-others
returns-in_err-carve_all-clause-others g c = kept_carved (grid c.args.world.now) (picks_of c.args.clusters.items) (vec_len c.args.clusters) (grid c.carve_all.new.world) c.carve_all.ensures.carved

pub returns-in_err-dones-clause-others : goal.returns-in_err-dones-clause-others
returns-in_err-dones-clause-others g c = kept_carved (grid c.args.world.now) (picks_of c.args.clusters.items) (vec_len c.args.clusters) (grid c.carve_all.new.world) c.carve_all.ensures.carved

pub returns-in_err-made-clause-others : goal.returns-in_err-made-clause-others
returns-in_err-made-clause-others g c = kept_carved (grid c.args.world.now) (picks_of c.args.clusters.items) (vec_len c.args.clusters) (grid c.carve_all.new.world) c.carve_all.ensures.carved

pub returns-then-mend_all-clause-others : goal.returns-then-mend_all-clause-others
returns-then-mend_all-clause-others g c =
    let mid = c.carve_all.new.world in
    let dones = c.in_ok-dones.dones.items in
    let mended = subst (λ l. blocks c.mend_all.new.world ≡ mended_all (λ d. parcel_blocks d.parcel) l dones (blocks mid)) c.carve_all.ensures.same.lists_are c.mend_all.ensures.mended in
    kept_mended (grid c.args.world.now) (parts_of c.args.clusters.items) (picks_of c.args.clusters.items) (kinds_of c.args.kinds.now) c.args.now (lists c.args.world.now) (vec_len c.args.clusters) (grid mid) c.carve_all.ensures.carved
    c.carve_all.new.jobs.items c.in_ok-carve_all.ensures.jobs dones c.in_ok-dones.ensures.ok (blocks c.mend_all.new.world) mended

pub returns-clause-others : goal.returns-clause-others
returns-clause-others g c =
    let mid = c.carve_all.new.world in
    let dones = c.in_ok-dones.dones.items in
    let mended = subst (λ l. blocks c.mend_all.new.world ≡ mended_all (λ d. parcel_blocks d.parcel) l dones (blocks mid)) c.carve_all.ensures.same.lists_are c.mend_all.ensures.mended in
    kept_mended (grid c.args.world.now) (parts_of c.args.clusters.items) (picks_of c.args.clusters.items) (kinds_of c.args.kinds.now) c.args.now (lists c.args.world.now) (vec_len c.args.clusters) (grid mid) c.carve_all.ensures.carved
    c.carve_all.new.jobs.items c.in_ok-carve_all.ensures.jobs dones c.in_ok-dones.ensures.ok (blocks c.mend_all.new.world) mended
