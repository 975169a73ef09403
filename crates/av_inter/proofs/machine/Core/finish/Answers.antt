use Rattle.std.proofs.Common.{◌≡◌, ◌∙◌, refl, sym, ap, subst, List, All, append-nil}
use Rattle.std.proofs.lemmas.Bool.{true≢false}
use Rattle.av_types.specs.declared.tick.Made.{Made}
use Rattle.av_rules.specs.Kinds.{kind_count}
use Rattle.av_ticks.specs.Entries.{made_order}
use Rattle.av_types.specs.Order.{ordered}
use Rattle.av_cells.specs.World.{listed_all}
use Rattle.av_world.specs.Appended.{entries_made}
use Rattle.av_world.specs.Views.{blocks, lists, height_of, positions_of}
use Rattle.av_play.specs.declared.event.Stage.{Stage}
use Rattle.av_play.specs.declared.event.Stage.TheVariants.{Ended}
use Rattle.av_cluster.specs.Clusters.{parts_of, sections_of}
use Rattle.av_inter.specs.Out.{outs}
use Rattle.av_inter.proofs.Ending.{can_load, are_fresh, are_distinct, rest_is, appended_is, entries_are, all_from_back, back_from_all}
use Rattle.av_inter.proofs.machine.Core.finish.Goals as goal

pub returns-then-not-all_back-clause-refused : goal.returns-then-not-all_back-clause-refused
returns-then-not-all_back-clause-refused c = λ back.
    true≢false (sym (c.all_back.ensures.1 (subst (λ (l : List Stage). All (λ s. s ≡ Ended) l) (sym c.as_slice.ensures.value) (all_from_back c.args.self.stages.items back))) ∙ c.if-not-all_back.true)

pub returns-in_default-clause-refused : goal.returns-in_default-clause-refused
returns-in_default-clause-refused c =
    let s = c.args.self in
    let ended : All (λ g. g ≡ Ended) s.stages.items = subst (λ (l : List Stage). All (λ g. g ≡ Ended) l) c.as_slice.ensures.value (c.all_back.ensures.0 c.if-not-all_back.false) in
    back_from_all s.stages.items ended

pub returns-in-Err-clause-refused : goal.returns-in-Err-clause-refused
returns-in-Err-clause-refused c =
    let s = c.args.self in
    let ended : All (λ g. g ≡ Ended) s.stages.items = subst (λ (l : List Stage). All (λ g. g ≡ Ended) l) c.as_slice.ensures.value (c.all_back.ensures.0 c.if-not-all_back.false) in
    back_from_all s.stages.items ended

pub returns-clause-done : goal.returns-clause-done
returns-clause-done c =
    let s = c.args.self in
    let ended : All (λ g. g ≡ Ended) s.stages.items = subst (λ (l : List Stage). All (λ g. g ≡ Ended) l) c.as_slice.ensures.value (c.all_back.ensures.0 c.if-not-all_back.false) in
    back_from_all s.stages.items ended

pub append-requires-clause-loaded : goal.append-requires-clause-loaded
append-requires-clause-loaded c = λ broken.
    let s = c.args.self in
    let ended : All (λ g. g ≡ Ended) s.stages.items = subst (λ (l : List Stage). All (λ g. g ≡ Ended) l) c.as_slice.ensures.value (c.all_back.ensures.0 c.if-not-all_back.false) in
    let merged : c.as_slice-2.result.now ≡ ordered made_order s.made.items =
    c.as_slice-2.ensures.value ∙ rw c.from_ref.ensures.value at c.in-Ok.ensures.ok ∙ ap (λ (l : List Made). ordered made_order l) (append-nil s.made.items) in
    can_load (kind_count s.kinds.now) (height_of s.world) (positions_of s.world) (lists s.world) (blocks s.world) (sections_of s.clusters.items) (parts_of s.clusters.items) s.stages.items (outs s.parcels.items) s.made.items s.lawful (λ q. s.world.lawful.tied q) ended c.as_slice-2.result.now merged

pub append-requires-clause-fresh : goal.append-requires-clause-fresh
append-requires-clause-fresh c = λ broken.
    let s = c.args.self in
    let ended : All (λ g. g ≡ Ended) s.stages.items = subst (λ (l : List Stage). All (λ g. g ≡ Ended) l) c.as_slice.ensures.value (c.all_back.ensures.0 c.if-not-all_back.false) in
    let merged : c.as_slice-2.result.now ≡ ordered made_order s.made.items =
    c.as_slice-2.ensures.value ∙ rw c.from_ref.ensures.value at c.in-Ok.ensures.ok ∙ ap (λ (l : List Made). ordered made_order l) (append-nil s.made.items) in
    are_fresh (kind_count s.kinds.now) (height_of s.world) (positions_of s.world) (lists s.world) (blocks s.world) (sections_of s.clusters.items) (parts_of s.clusters.items) s.stages.items (outs s.parcels.items) s.made.items s.lawful (λ q. s.world.lawful.tied q) ended c.as_slice-2.result.now merged

pub append-requires-clause-distinct : goal.append-requires-clause-distinct
append-requires-clause-distinct c = λ broken.
    let s = c.args.self in
    let ended : All (λ g. g ≡ Ended) s.stages.items = subst (λ (l : List Stage). All (λ g. g ≡ Ended) l) c.as_slice.ensures.value (c.all_back.ensures.0 c.if-not-all_back.false) in
    let merged : c.as_slice-2.result.now ≡ ordered made_order s.made.items =
    c.as_slice-2.ensures.value ∙ rw c.from_ref.ensures.value at c.in-Ok.ensures.ok ∙ ap (λ (l : List Made). ordered made_order l) (append-nil s.made.items) in
    are_distinct (kind_count s.kinds.now) (height_of s.world) (positions_of s.world) (lists s.world) (blocks s.world) (sections_of s.clusters.items) (parts_of s.clusters.items) s.stages.items (outs s.parcels.items) s.made.items s.lawful (λ q. s.world.lawful.tied q) ended c.as_slice-2.result.now merged

pub returns-clause-ok : goal.returns-clause-ok
returns-clause-ok c =
    let s = c.args.self in
    let ended : All (λ g. g ≡ Ended) s.stages.items = subst (λ (l : List Stage). All (λ g. g ≡ Ended) l) c.as_slice.ensures.value (c.all_back.ensures.0 c.if-not-all_back.false) in
    let merged : c.as_slice-2.result.now ≡ ordered made_order s.made.items =
    c.as_slice-2.ensures.value ∙ rw c.from_ref.ensures.value at c.in-Ok.ensures.ok ∙ ap (λ (l : List Made). ordered made_order l) (append-nil s.made.items) in
    λ i. record {
      world = (c.in-Ok-append.ensures.blocks ∙ appended_is (blocks s.world) s.made.items c.as_slice-2.result.now merged ∙ sym (rest_is (kind_count s.kinds.now) (height_of s.world) (positions_of s.world) (lists s.world) (blocks s.world) (sections_of s.clusters.items) (parts_of s.clusters.items) s.stages.items (outs s.parcels.items) s.made.items s.lawful (λ q. s.world.lawful.tied q) ended)) i;
      lists = (c.in-Ok-append.ensures.lists ∙ ap (listed_all (lists s.world)) (ap entries_made merged ∙ entries_are (ordered made_order s.made.items))) i;
    }

pub returns-clause-site : goal.returns-clause-site
returns-clause-site c = c.append.ensures.site

pub returns-in-Err-clause-same : goal.returns-in-Err-clause-same
returns-in-Err-clause-same c = record { parts = refl; kinds = refl; now = refl; same_site = c.append.ensures.site }
