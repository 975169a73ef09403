use Rattle.std.proofs.Common.{◌≡◌, ◌∙◌, List, All, map, length, slice_get, ◌<◌, true, false, sym, ap, subst, None}
use Rattle.std.specs.List.{AllPairs}
use Rattle.av_types.specs.declared.position.ChunkPos.{ChunkPos}
use Rattle.av_cells.specs.Positions.{same_chunk}
use Rattle.av_land.specs.Land.{has_chunk}
use Rattle.av_world.specs.Index.{slot}
use Rattle.av_world.specs.Views.{positions_of}
use Rattle.av_groups.specs.declared.groups.Group.{Group}
use Rattle.av_groups.specs.declared.groups.Groups.{Groups}
use Rattle.av_groups.specs.declared.groups.Touch.{Touch}
use Rattle.av_groups.specs.Groups.{touched, HasOwnIndex}
use Rattle.av_lending.specs.Brought.{IsBringing}
use Rattle.av_lending.proofs.Chunks.{its_group, given, still_under_way, all_there, next_in}
use Rattle.av_lending.proofs.lender.Lender.lend_group.Goals as goal

-- what is lent are the chunks that the group touches
its_chunks : (g x : Group) (ts : List Touch) (cs ds : List ChunkPos) → x ≡ g → ts ≡ x.touches.items → ds ≡ cs → cs ≡ map (λ t. t.chunk) ts → ds ≡ touched g
its_chunks g x ts cs ds is are taken collected = taken ∙ collected ∙ ap (map (λ (t : Touch). t.chunk)) (are ∙ ap (λ (h : Group). h.touches.items) is)

pub lend-requires-clause-there : goal.lend-requires-clause-there
lend-requires-clause-there c =
    let g = c.requires.next.0 in
    let at = ap (λ (gs : Groups). slice_get gs.groups.items c.args.number) (sym c.requires.plan.groups_are) ∙ c.requires.next.1 in
    subst (All (λ d. slot (positions_of c.args.world.now) d < length (positions_of c.args.world.now)))
    (sym (its_chunks g c.index.result.now c.as_slice-touches.result.now c.in_ok-chunks.chunks.items c.as_slice.result.now (its_group c.args.groups.now.groups.items c.args.number g c.index.result.now c.requires.next.1 c.index.ensures) c.as_slice-touches.ensures.value c.as_slice.ensures.value c.in_ok-chunks.ensures))
    (all_there (positions_of c.args.world.now) (touched g) (subst (λ ps. All (λ d. has_chunk ps d ≡ true) (touched g)) (sym c.requires.under_way.positions_are) (c.requires.plan.is_plan.groups.cut.each c.args.number g at).there))

pub lend-requires-clause-distinct : goal.lend-requires-clause-distinct
lend-requires-clause-distinct c =
    let g = c.requires.next.0 in
    let at = ap (λ (gs : Groups). slice_get gs.groups.items c.args.number) (sym c.requires.plan.groups_are) ∙ c.requires.next.1 in
    subst (AllPairs (λ d e. same_chunk d e ≡ false))
    (sym (its_chunks g c.index.result.now c.as_slice-touches.result.now c.in_ok-chunks.chunks.items c.as_slice.result.now (its_group c.args.groups.now.groups.items c.args.number g c.index.result.now c.requires.next.1 c.index.ensures) c.as_slice-touches.ensures.value c.as_slice.ensures.value c.in_ok-chunks.ensures))
    (c.requires.plan.is_plan.groups.cut.each c.args.number g at).distinct

pub returns-clause-lent : goal.returns-clause-lent
returns-clause-lent c =
    let g = c.requires.next.0 in
    let at = ap (λ (gs : Groups). slice_get gs.groups.items c.args.number) (sym c.requires.plan.groups_are) ∙ c.requires.next.1 in
    let chunks = its_chunks g c.index.result.now c.as_slice-touches.result.now c.in_ok-chunks.chunks.items c.as_slice.result.now (its_group c.args.groups.now.groups.items c.args.number g c.index.result.now c.requires.next.1 c.index.ensures) c.as_slice-touches.ensures.value c.as_slice.ensures.value c.in_ok-chunks.ensures in
    given c.args.plan.now c.requires.plan.is_plan c.args.number g at c.args.world.now c.lend.new.self c.in_ok-lent.lent c.args.self.now c.requires.under_way
    (next_in c.args.plan.now c.requires.plan.is_plan c.args.number g at c.args.self.now c.requires.next.2) c.in_ok-lent.ensures.lent (λ d. c.in_ok-lent.ensures.chunks d ∙ ap (λ cs. has_chunk cs d) chunks)

pub returns-clause-under_way : goal.returns-clause-under_way
returns-clause-under_way c =
    let g = c.requires.next.0 in
    let p = c.args.plan.now in
    let at = ap (λ (gs : Groups). slice_get gs.groups.items c.args.number) (sym c.requires.plan.groups_are) ∙ c.requires.next.1 in
    let chunks = its_chunks g c.index.result.now c.as_slice-touches.result.now c.in_ok-chunks.chunks.items c.as_slice.result.now (its_group c.args.groups.now.groups.items c.args.number g c.index.result.now c.requires.next.1 c.index.ensures) c.as_slice-touches.ensures.value c.as_slice.ensures.value c.in_ok-chunks.ensures in
    let ps = positions_of p.start.value in
    let ts = c.as_slice-touches.ensures.value ∙ ap (λ (h : Group). h.touches.items) (its_group c.args.groups.now.groups.items c.args.number g c.index.result.now c.requires.next.1 c.index.ensures) in
    let brought =
    subst (λ (us : List Touch). IsBringing ps (map (λ t. t.chunk) us) None c.args.self.now c.bring.new.stages.items) ts
    (subst (λ old. IsBringing ps (map (λ (t : Touch). t.chunk) c.as_slice-touches.result.now) None old c.bring.new.stages.items) c.self.view_is
    (c.bring.ensures p.start.value (subst (All (HasOwnIndex ps)) (sym ts) (c.requires.plan.is_plan.groups.cut.each c.args.number g at).own_index) (ap length c.self.view_is ∙ c.requires.under_way.long))) in
    still_under_way p c.requires.plan.is_plan c.args.number g at c.args.world.now c.lend.new.self c.in_ok-lent.lent c.args.self.now c.requires.under_way
    (next_in c.args.plan.now c.requires.plan.is_plan c.args.number g at c.args.self.now c.requires.next.2) c.in_ok-lent.ensures.lent (λ d. c.in_ok-lent.ensures.chunks d ∙ ap (λ cs. has_chunk cs d) chunks) c.bring.new.stages.items brought.long brought.came
