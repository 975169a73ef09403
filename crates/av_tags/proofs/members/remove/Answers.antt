use Rattle.std.proofs.Common.{◌≡◌, None, sym, ◌∙◌, Some}
use Rattle.av_tags.specs.View.{named_views}
use Rattle.av_tags.specs.ByName.{index_of_name}
use Rattle.av_tags.proofs.Names.{tag_is_missing, without_missing}
use Rattle.av_tags.proofs.Slots.{taken_at, removed_at}
use Rattle.av_tags.proofs.members.remove.Goals as goal

pub returns-in_err-index-clause-first : goal.returns-in_err-index-clause-first
returns-in_err-index-clause-first c =
    let absent : index_of_name c.args.name.now (named_views c.args.tags.now.items) ≡ None = cc c.in_err-index.ensures.index in
    rw c.from_residual.ensures (sym (tag_is_missing c.args.name.now (named_views c.args.tags.now.items) absent))

pub returns-in_err-index-clause-others : goal.returns-in_err-index-clause-others
returns-in_err-index-clause-others c =
    let absent : index_of_name c.args.name.now (named_views c.args.tags.now.items) ≡ None = cc c.in_err-index.ensures.index in
    sym (without_missing c.args.name.now (named_views c.args.tags.now.items) absent)

pub loop-other-init : goal.loop-other-init
loop-other-init c =
    let here : Some c.in_ok-index.index ≡ index_of_name c.args.name.now (named_views c.args.tags.now.items) = cc c.in_ok-index.ensures.index in
    rw c.remove-named.ensures.items (removed_at c.args.tags.now.items c.in_ok-index.index c.args.name.now here)

pub loop-other-preserved : goal.loop-other-preserved
loop-other-preserved c =
    let here : Some c.in-Some.other ≡ index_of_name c.args.name.now (named_views c.loop-other.tags.items) = cc c.in-Some.ensures.index in
    rw c.drop_at.ensures (removed_at c.loop-other.tags.items c.in-Some.other c.args.name.now here ∙ c.loop-other.invariant)

pub returns-clause-first : goal.returns-clause-first
returns-clause-first c =
    let here : Some c.in_ok-index.index ≡ index_of_name c.args.name.now (named_views c.args.tags.now.items) = cc c.in_ok-index.ensures.index in
    rw c.into_tag.ensures (sym (taken_at c.args.tags.now.items c.in_ok-index.index c.remove-named.result c.args.name.now here c.remove-named.ensures.value))

pub returns-clause-others : goal.returns-clause-others
returns-clause-others c =
    let absent : index_of_name c.args.name.now (named_views c.loop-other.tags.items) ≡ None = cc c.in_default.ensures.index in
    sym (without_missing c.args.name.now (named_views c.loop-other.tags.items) absent) ∙ c.loop-other.invariant
