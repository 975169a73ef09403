use Rattle.std.proofs.Common.{◌≡◌, ℕ, List, length, Some, true, refl, sym, ◌∙◌}
use Rattle.std.specs.Prelude.{◌==◌}
use Rattle.av_tags.specs.declared.tag.TagType.{TagType}
use Rattle.av_tags.specs.TagTypes.{is_compound}
use Rattle.av_tags.specs.Nbt.{NamedTag, members_of}
use Rattle.av_tags.specs.View.{named_views}
use Rattle.av_nbt.specs.Reading.{type_at, text_at, members_at, payload_at, document_at}
use Rattle.av_nbt.proofs.reader.root.Goals as goal

all_read : (bytes a b rest name : List ℕ) (k : TagType) (ms : List NamedTag) → type_at bytes ≡ Some (k, a) → is_compound k ≡ true → text_at a ≡ Some (name, b) → members_at (payload_at 511) b ≡ Some (ms, rest)
    → (length rest == 0) ≡ true → document_at bytes ≡ Some (record { name = name; members = members_of ms })
unfolding document_at
all_read bytes a b rest name k ms tag_type compound named tags none = rw (tag_type, compound, named, tags, none) refl

pub returns-then-is_empty : goal.returns-then-is_empty
returns-then-is_empty c =
    all_read c.args.bytes.now c.in_ok-tag_type.rest.now c.in_ok-name.rest.now c.in_ok-tags.rest.now c.in_ok-name.name.items c.in_ok-tag_type.tag_type (named_views c.in_ok-tags.tags.items)
    c.in_ok-tag_type.ensures (sym c.is_compound.ensures ∙ c.if-not-is_compound.false) c.in_ok-name.ensures c.in_ok-tags.ensures (sym c.is_empty.ensures ∙ c.if-is_empty.true)
