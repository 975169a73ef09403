-- Entries of loaded blocks, one by one.
use Rattle.std.proofs.Common.{◌≡◌, Bool, List, [], ◌∷◌, true, All, IsTrue}
use Rattle.std.specs.List.{list_all, AllByRecursion}
use Rattle.std.proofs.lemmas.Bool.{and_parts}
use Rattle.std.proofs.lemmas.List.Elements.{All-from_recursion}
use Rattle.av_types.specs.declared.position.Pos.{Pos}
use Rattle.av_types.specs.declared.tick.Entry.{Entry}

each_loaded : (L : Pos → Bool) (es : List Entry) → list_all (λ e. L e.pos) es ≡ true → AllByRecursion (λ e. IsTrue (L e.pos)) es
each_loaded L [] h = tt
each_loaded L (e ∷ es) h = let parts = and_parts (L e.pos) (list_all (λ e. L e.pos) es) h in (parts.0, each_loaded L es parts.1)

pub all_loaded : (L : Pos → Bool) (es : List Entry) → list_all (λ e. L e.pos) es ≡ true → All (λ e. IsTrue (L e.pos)) es
all_loaded L es h = All-from_recursion _ es (each_loaded L es h)
