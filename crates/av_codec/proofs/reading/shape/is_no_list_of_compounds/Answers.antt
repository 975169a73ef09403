use Rattle.std.proofs.Common.{arith}
use Rattle.av_codec.proofs.Numbers.{lacks-each}
use Rattle.av_codec.proofs.reading.shape.is_no_list_of_compounds.Goals as goal

pub returns-in-Some-as_items : goal.returns-in-Some-as_items
returns-in-Some-as_items c = grind (arith, lacks-each)
