-- The colours that a value of the program stands for.
use Rattle.std.specs.Prelude.{List, map}
use Rattle.av_map.specs.Colours.{NamedColour}
use Rattle.av_map.specs.declared.colours.Colours.{Colours}
use Rattle.av_map.specs.declared.colours.ColourRow.{ColourRow}

abbrev pub named_of : ColourRow → NamedColour
named_of r = record { name = r.name.items; colour = r.colour }

abbrev pub all_named : List ColourRow → List NamedColour
all_named rows = map named_of rows

-- its names and colours, in the order in which they are looked up
abbrev pub colours_of : Colours → List NamedColour
colours_of c = all_named c.rows.items
