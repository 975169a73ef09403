-- The view of a tag, by its type.
use Rattle.std.proofs.Common.{◌≡◌, ap, sym, ◌∙◌, Vec, Global, ℕ, ℤ}
use Rattle.av_tags.specs.Nbt.{Nbt, NamedTag, byte, int, byte_array, text, list, compound, int_array, long_array, items_of, members_of}
use Rattle.av_tags.specs.View.{view, views, named_view, named_views, view_step, named_step}
use Rattle.av_tags.specs.declared.tag.TagType.{TagType}
use Rattle.av_tags.specs.declared.tag.Tag.{Tag}
use Rattle.av_tags.specs.declared.tag.Tag.TheVariants.{Byte, Int, ByteArray, Text, IntArray, LongArray, rolls-Byte, rolls-Int, rolls-ByteArray, rolls-Text, rolls-List, rolls-Compound, rolls-IntArray, rolls-LongArray}
use Rattle.av_tags.specs.declared.tag.Tag.TheOpen.{Tag-F}
use Rattle.av_tags.specs.declared.tag.Tag.TheViews as tag
use Rattle.av_tags.specs.declared.tag.Tag.TheFolds.{fold-roll-Tag, fold_out-Named}
use Rattle.av_tags.specs.declared.tag.Named.{Named}

pub view_byte : (z : ℤ) → view (Byte z) ≡ byte z
view_byte z = ap view (sym (rolls-Byte z)) ∙ fold-roll-Tag Nbt NamedTag view_step named_step (Tag-F.Byte z)

pub view_int : (z : ℤ) → view (Int z) ≡ int z
view_int z = ap view (sym (rolls-Int z)) ∙ fold-roll-Tag Nbt NamedTag view_step named_step (Tag-F.Int z)

pub view_byte_array : (s : Vec ℕ Global) → view (ByteArray s) ≡ byte_array s.items
view_byte_array s = ap view (sym (rolls-ByteArray s)) ∙ fold-roll-Tag Nbt NamedTag view_step named_step (Tag-F.ByteArray s)

pub view_text : (s : Vec ℕ Global) → view (Text s) ≡ text s.items
view_text s = ap view (sym (rolls-Text s)) ∙ fold-roll-Tag Nbt NamedTag view_step named_step (Tag-F.Text s)

pub view_int_array : (zs : Vec ℤ Global) → view (IntArray zs) ≡ int_array zs.items
view_int_array zs = ap view (sym (rolls-IntArray zs)) ∙ fold-roll-Tag Nbt NamedTag view_step named_step (Tag-F.IntArray zs)

pub view_long_array : (zs : Vec ℤ Global) → view (LongArray zs) ≡ long_array zs.items
view_long_array zs = ap view (sym (rolls-LongArray zs)) ∙ fold-roll-Tag Nbt NamedTag view_step named_step (Tag-F.LongArray zs)

pub view_compound : (ms : Vec Named Global) → view (tag.Compound ms) ≡ compound (members_of (named_views ms.items))
view_compound ms = ap view (sym (rolls-Compound ms)) ∙ fold-roll-Tag Nbt NamedTag view_step named_step (Tag-F.Compound ms)

pub view_list : (e : TagType) (ts : Vec Tag Global) → view (tag.List e ts) ≡ list e (items_of (views ts.items))
view_list e ts = ap view (sym (rolls-List e ts)) ∙ fold-roll-Tag Nbt NamedTag view_step named_step (Tag-F.List e ts)

pub name_in_view : (m : Named) → (named_view m).name ≡ m.name.items
name_in_view m = ap (λ n. n.name) (fold_out-Named Nbt NamedTag view_step named_step m)

pub tag_in_view : (m : Named) → (named_view m).tag ≡ view m.tag
tag_in_view m = ap (λ n. n.tag) (fold_out-Named Nbt NamedTag view_step named_step m)
