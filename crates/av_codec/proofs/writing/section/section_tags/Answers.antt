-- The section's states are put in, and then its light.
use Rattle.std.proofs.Common.{◌≡◌, ◌∙◌, ap, subst, codes, IfOk}
use Rattle.av_tags.specs.Nbt.{byte_array}
use Rattle.av_tags.specs.ByName.{with_tag}
use Rattle.av_tags.specs.View.{named_views}
use Rattle.av_codec.proofs.writing.section.section_tags.Goals as goal

pub returns : goal.returns
returns c =
    let tags = c.in_ok-tags.ensures ∙ ap (λ n. with_tag (codes "block_states") n (named_views c.args.kept.tags.items)) c.in_ok-states.ensures in
    let light = c.byte_array-light.ensures ∙ ap byte_array c.in_ok-from_slice.ensures.items in
    let both = ap (λ n. with_tag (codes "BlockLight") n (named_views c.in_ok-tags.tags.items)) light ∙ ap (with_tag (codes "BlockLight") (byte_array c.args.light.now)) tags in
    subst (λ ns. IfOk c.tagged-2.result (λ new. named_views new.items ≡ ns)) both c.tagged-2.ensures
