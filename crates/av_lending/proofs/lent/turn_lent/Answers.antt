use Rattle.std.proofs.Common.{◌≡◌, ◌∙◌, List, slice_get, Bool, true, ap, sym, subst}
use Rattle.std.specs.List.{list_all}
use Rattle.av_types.specs.declared.position.Pos.{Pos}
use Rattle.av_types.specs.declared.tick.Entry.{Entry}
use Rattle.av_groups.specs.declared.groups.Group.{Group}
use Rattle.av_groups.specs.declared.groups.Groups.{Groups}
use Rattle.av_groups.specs.Groups.{entries_in}
use Rattle.av_rules.specs.Kinds.{kind_count}
use Rattle.av_cells.specs.Kinds.{kinds_of}
use Rattle.av_land.specs.Tick.{turned_all, without_due}
use Rattle.av_world.specs.Lands.{land_of}
use Rattle.av_serial.specs.Ready.{IsReady}
use Rattle.av_serial.proofs.Keeps.{ready_left}
use Rattle.av_lending.specs.Plans.{kinds_in}
use Rattle.av_lending.proofs.Chunks.{its_group}
use Rattle.av_lending.proofs.Turning.{entries_loaded, turned_lent}
use Rattle.av_lending.proofs.lent.turn_lent.Goals as goal

-- the entries of a group that are turned
its_entries : (es fs : List Entry) (g x : Group) → fs ≡ es → x ≡ g → entries_in fs x ≡ entries_in es g
its_entries es fs g x are is = λ i. entries_in (are i) (is i)

pub turn_all-requires-clause-ready : goal.turn_all-requires-clause-ready
turn_all-requires-clause-ready c =
    ready_left (kind_count c.args.kinds.now) c.args.plan.now.tick c.args.lent.world c.leave_due.new.self c.leave_due.ensures.site c.leave_due.ensures.loaded c.leave_due.ensures.left
    (subst (λ k. IsReady (kind_count k) c.args.lent.world) (sym c.requires.plan.kinds_are) c.requires.lent.ready)

pub turn_all-requires-clause-loaded : goal.turn_all-requires-clause-loaded
turn_all-requires-clause-loaded c =
    let gs = c.args.groups.now in
    let lent = c.requires.lent in
    let group = its_group gs.groups.items c.args.lent.number lent.group c.index-group.result.now (ap (λ (hs : Groups). slice_get hs.groups.items c.args.lent.number) c.requires.plan.groups_are ∙ lent.is) c.index-group.ensures in
    let entries = its_entries c.args.plan.now.groups.value.entries.items c.deref.result.now lent.group c.index-group.result.now (c.deref.ensures.value ∙ ap (λ (hs : Groups). hs.entries.items) c.requires.plan.groups_are) group in
    rw entries (subst (λ (f : Pos → Bool). list_all (λ (e : Entry). f e.pos) (entries_in c.args.plan.now.groups.value.entries.items lent.group) ≡ true) (sym c.leave_due.ensures.loaded)
    (entries_loaded c.args.plan.now c.requires.plan.is_plan c.args.lent.number c.args.lent.world lent))

pub returns : goal.returns
returns c =
    let p = c.args.plan.now in
    let u = c.args.lent.world in
    let lent = c.requires.lent in
    let es = entries_in c.deref.result.now c.index-group.result.now in
    let group = its_group c.args.groups.now.groups.items c.args.lent.number lent.group c.index-group.result.now (ap (λ (hs : Groups). slice_get hs.groups.items c.args.lent.number) c.requires.plan.groups_are ∙ lent.is) c.index-group.ensures in
    let entries = its_entries p.groups.value.entries.items c.deref.result.now lent.group c.index-group.result.now (c.deref.ensures.value ∙ ap (λ (hs : Groups). hs.entries.items) c.requires.plan.groups_are) group in
    let done = c.in-Ok.ensures.done ∙ ap (λ k. turned_all (kinds_of k) p.tick es (land_of c.leave_due.new.self)) c.requires.plan.kinds_are
    ∙ ap (turned_all (kinds_of (kinds_in p)) p.tick es) c.leave_due.ensures.left
    ∙ ap (λ xs. turned_all (kinds_of (kinds_in p)) p.tick xs (without_due p.tick (land_of u))) entries in
    record {
      turned = turned_lent p c.requires.plan.is_plan c.args.lent.number u lent c.turn_all.new.world done
          (subst (λ k. IsReady (kind_count k) c.turn_all.new.world) c.requires.plan.kinds_are c.in-Ok.ensures.ready);
    }
