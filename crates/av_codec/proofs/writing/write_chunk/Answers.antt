use Rattle.std.proofs.Common.{◌≡◌, sym, ◌∙◌, ap, subst}
use Rattle.av_tags.specs.Nbt.{Document, members_of}
use Rattle.av_tags.specs.View.{view, views, named_views}
use Rattle.av_nbt.specs.Writing.{IsWellFormed}
use Rattle.av_codec.specs.Writing.{DenotesSooner, written}
use Rattle.av_codec.proofs.Rewriting.{written-well_formed, written-denotes}
use Rattle.av_codec.proofs.WrittenDocument.{document-written}
use Rattle.av_codec.proofs.writing.write_chunk.Goals as goal

pub returns-clause-ok : goal.returns-clause-ok
returns-clause-ok c =
    document-written c.args.chunk.now c.args.rest.now c.args.kinds.now c.args.light.now c.args.elapsed c.in_ok-name.name.items
    (view c.compounds.result) (view c.compounds-2.result) (views c.in_ok-sections.sections.items) (views c.in_ok-ticks.ticks.items)
    (named_views c.in_ok-tags.tags.items) (named_views c.in_ok-tags-2.tags.items) (named_views c.in_ok-tags-3.tags.items)
    (c.in_ok-name.ensures.items ∙ c.as_slice-2.ensures.value)
    (c.in_ok-tags.ensures.copied ∙ ap named_views c.as_slice.ensures.value)
    c.in_ok-tags-2.ensures c.in_ok-tags-3.ensures c.compounds.ensures c.compounds-2.ensures
    c.in_ok-sections.ensures c.in_ok-ticks.ensures.ok

pub returns-clause-well_formed : goal.returns-clause-well_formed
returns-clause-well_formed c =
    let same : ◌≡◌ {A = Document} (record { name = c.in_ok-name.name.items; members = members_of (named_views c.in_ok-tags-3.tags.items) }) (written c.args.chunk.now c.args.rest.now c.args.kinds.now c.args.light.now c.args.elapsed) =
    document-written c.args.chunk.now c.args.rest.now c.args.kinds.now c.args.light.now c.args.elapsed c.in_ok-name.name.items
    (view c.compounds.result) (view c.compounds-2.result) (views c.in_ok-sections.sections.items) (views c.in_ok-ticks.ticks.items)
    (named_views c.in_ok-tags.tags.items) (named_views c.in_ok-tags-2.tags.items) (named_views c.in_ok-tags-3.tags.items)
    (c.in_ok-name.ensures.items ∙ c.as_slice-2.ensures.value)
    (c.in_ok-tags.ensures.copied ∙ ap named_views c.as_slice.ensures.value)
    c.in_ok-tags-2.ensures c.in_ok-tags-3.ensures c.compounds.ensures c.compounds-2.ensures
    c.in_ok-sections.ensures c.in_ok-ticks.ensures.ok in
    subst IsWellFormed (sym same)
    (written-well_formed c.args.chunk.now c.args.rest.now c.args.kinds.now c.args.light.now c.args.elapsed c.requires c.in_ok-ticks.ensures.ints)

pub returns-clause-denotes : goal.returns-clause-denotes
returns-clause-denotes c =
    let same : ◌≡◌ {A = Document} (record { name = c.in_ok-name.name.items; members = members_of (named_views c.in_ok-tags-3.tags.items) }) (written c.args.chunk.now c.args.rest.now c.args.kinds.now c.args.light.now c.args.elapsed) =
    document-written c.args.chunk.now c.args.rest.now c.args.kinds.now c.args.light.now c.args.elapsed c.in_ok-name.name.items
    (view c.compounds.result) (view c.compounds-2.result) (views c.in_ok-sections.sections.items) (views c.in_ok-ticks.ticks.items)
    (named_views c.in_ok-tags.tags.items) (named_views c.in_ok-tags-2.tags.items) (named_views c.in_ok-tags-3.tags.items)
    (c.in_ok-name.ensures.items ∙ c.as_slice-2.ensures.value)
    (c.in_ok-tags.ensures.copied ∙ ap named_views c.as_slice.ensures.value)
    c.in_ok-tags-2.ensures c.in_ok-tags-3.ensures c.compounds.ensures c.compounds-2.ensures
    c.in_ok-sections.ensures c.in_ok-ticks.ensures.ok in
    subst (DenotesSooner c.args.chunk.now c.args.rest.now c.args.kinds.now c.args.elapsed) (sym same)
    (written-denotes c.args.chunk.now c.args.rest.now c.args.kinds.now c.args.light.now c.args.elapsed c.requires)
