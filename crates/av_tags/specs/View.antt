-- The tag that a `Tag` stands for.
use Rattle.std.specs.Prelude.{List, map}
use Rattle.av_tags.specs.Nbt.{Nbt, byte, int16, int, int64, bits32, bits64, byte_array, text, list, compound, int_array, long_array, NamedTag, Document, items_of, members_of}
use Rattle.av_tags.specs.declared.tag.Root.{Root}
use Rattle.av_tags.specs.declared.tag.Named.{Named, fold-Named}
use Rattle.av_tags.specs.declared.tag.Tag.{Tag, fold-Tag}
use Rattle.av_tags.specs.declared.tag.Tag.TheOpen.{Tag-F, Named-F}

-- one level, with each tag inside already seen
abbrev pub view_step : Tag-F Nbt NamedTag → Nbt
view_step (Tag-F.Byte z) = byte z
view_step (Tag-F.Short z) = int16 z
view_step (Tag-F.Int z) = int z
view_step (Tag-F.Long z) = int64 z
view_step (Tag-F.Float n) = bits32 n
view_step (Tag-F.Double n) = bits64 n
view_step (Tag-F.ByteArray s) = byte_array s.items
view_step (Tag-F.Text s) = text s.items
view_step (Tag-F.List e ts) = list e (items_of ts.items)
view_step (Tag-F.Compound ms) = compound (members_of ms.items)
view_step (Tag-F.IntArray zs) = int_array zs.items
view_step (Tag-F.LongArray zs) = long_array zs.items

abbrev pub named_step : Named-F Nbt NamedTag → NamedTag
named_step n = record { name = n.name.items; tag = n.tag }

abbrev pub view : Tag → Nbt
view = fold-Tag Nbt NamedTag view_step named_step

abbrev pub named_view : Named → NamedTag
named_view = fold-Named Nbt NamedTag view_step named_step

abbrev pub views : List Tag → List Nbt
views ts = map view ts

abbrev pub named_views : List Named → List NamedTag
named_views ms = map named_view ms

abbrev pub document : Root → Document
document r = record { name = r.name.items; members = members_of (named_views r.tags.items) }
