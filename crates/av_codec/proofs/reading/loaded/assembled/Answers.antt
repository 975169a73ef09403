use Rattle.std.proofs.Common.{[], refl, ap}
use Rattle.av_document.specs.Chunk.{root_tags, ticks}
use Rattle.av_chunk.specs.declared.chunk.Chunk.{Chunk}
use Rattle.av_chunk.specs.Rest.{rest_with}
use Rattle.av_codec.proofs.WaterIn.{in_height, water_in}
use Rattle.av_codec.proofs.Assembly.{assembly, loaded, was_read}
use Rattle.av_codec.proofs.reading.loaded.assembled.Goals as goal

pub mark_pending-requires-clause-count : goal.mark_pending-requires-clause-count
mark_pending-requires-clause-count c = c.requires.3.sections_are.count

pub mark_pending-requires-clause-inside : goal.mark_pending-requires-clause-inside
mark_pending-requires-clause-inside c =
    let turns = c.requires.3.ticks_are in
    rw (c.as_slice.ensures, turns.water) (in_height c.args.at c.args.height _ (water_in c.args.at c.args.height [] (ticks (root_tags c.requires.0)) turns.good refl))

pub returns : goal.returns
returns c d old new taken =
    loaded c.args.at c.args.height d (root_tags d) old new c.args.read c.args.ticks (record { sections = c.mark_pending.new.sections; ticks = c.args.ticks.water }) _
    taken.stored refl (assembly c.args.at c.args.height d old new c.args.name.items c.args.tags.items c.args.read c.args.ticks _ taken refl (rw (← c.as_slice.ensures) c.mark_pending.ensures))
    refl refl (ap (λ n. rest_with c.args.height n c.args.tags.items c.args.ticks.foreign.items c.args.read.kept.items c.args.read.outside.items) taken.name_is)

pub invariant_of-result : goal.invariant_of-result
invariant_of-result c =
    let d = c.requires.0 in
    let taken = c.requires.3 in
    let chunk : Chunk = record { sections = c.mark_pending.new.sections; ticks = c.args.ticks.water } in
    record {
      was_read = ∣ was_read c.args.at c.args.height d c.requires.1 c.requires.2 c.args.name.items c.args.tags.items c.args.read c.args.ticks chunk taken
          (assembly c.args.at c.args.height d c.requires.1 c.requires.2 c.args.name.items c.args.tags.items c.args.read c.args.ticks chunk taken refl (rw (← c.as_slice.ensures) c.mark_pending.ensures)) ∣₁;
    }
