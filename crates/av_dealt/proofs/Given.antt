-- What threads answer, one after the other.
use Rattle.std.proofs.Common.{zero, suc, List, [], ◌∷◌, arith}
use Rattle.std.specs.List.{All, AllZip}

-- what each answer has, all have
pub all_given : {X Y : Type 0} (R : X → Y → Type 0) (P : Y → Type 0) → ((x : X) (y : Y) → R x y → P y) → (xs : List X) (ys : List Y) → AllZip R xs ys → All P ys
all_given R P f [] [] zip i d less = absurd (omega arith)
all_given R P f [] (y ∷ ys) zip i d less = absurd zip
all_given R P f (x ∷ xs) [] zip i d less = absurd zip
all_given R P f (x ∷ xs) (y ∷ ys) zip zero d less = f x y zip.0
all_given R P f (x ∷ xs) (y ∷ ys) zip (suc i) d less = all_given R P f xs ys zip.1 i d (omega arith)
