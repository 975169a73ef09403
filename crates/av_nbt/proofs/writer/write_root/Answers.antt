use Rattle.std.proofs.Common.{◌∷◌, ◌++◌, [], ap, ◌∙◌, append_assoc, subst}
use Rattle.av_tags.specs.declared.tag.TagType.TheVariants.{Compound}
use Rattle.av_tags.specs.TagTypes.{type_number}
use Rattle.av_tags.specs.Nbt.{members_of}
use Rattle.av_tags.specs.View.{named_views}
use Rattle.av_nbt.specs.Appending.{Writes}
use Rattle.av_nbt.specs.Writing.{text_bytes, written_members}
use Rattle.av_nbt.proofs.Loops.{writes_after}
use Rattle.av_nbt.proofs.writer.write_root.Goals as goal

pub returns : goal.returns
returns c =
    let k = type_number Compound in
    let name = text_bytes c.args.root.now.name.items in
    let old = c.args.out.now.items in
    let pushed = c.in_ok-push.ensures.items ∙ ap (λ n. old ++ n ∷ []) c.number.ensures in
    let named = c.in_ok-write_text.ensures ∙ ap (λ s. c.push.new.self.items ++ text_bytes s) c.as_slice.ensures.value in
    let head = named ∙ ap (λ o. o ++ name) pushed ∙ append_assoc old (k ∷ []) name in
    let tags = subst (λ ts. Writes c.write_members.result (written_members (members_of (named_views ts))) c.write_text.new.out.items c.write_members.new.out.items) c.as_slice-2.ensures.value c.write_members.ensures in
    writes_after c.write_members.result (k ∷ name) (written_members (members_of (named_views c.args.root.now.tags.items))) old c.write_text.new.out.items c.write_members.new.out.items head tags
