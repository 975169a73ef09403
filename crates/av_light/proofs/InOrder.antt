-- Lights in the slots of their chunks.
use Rattle.std.proofs.Common.{◌≡◌, ℕ, ◌+◌, ◌<◌, List, [], ◌∷◌, ◌++◌, length, get_or, take, Option, sym, subst}
use Rattle.std.proofs.lemmas.List.{take_more}
use Rattle.std.specs.Prelude.{IfSome}
use Rattle.std.specs.List.{AllZip}
use Rattle.std.proofs.lemmas.Option.{IfSome_then}
use Rattle.av_types.specs.declared.position.ChunkPos.{ChunkPos}
use Rattle.av_chunk.specs.declared.light.ChunkLight.{ChunkLight}
use Rattle.av_rules.specs.declared.kinds.Kinds.{Kinds}
use Rattle.av_dealt.specs.Dealt.{AreAtIndices}
use Rattle.av_dealt.proofs.AtIndices.{at_indices-at}
use Rattle.av_world.specs.Views.{height_of, positions_of, blocks}
use Rattle.av_world.specs.declared.worlds.World.{World}
use Rattle.av_section_light.specs.Light.{IsChunkLight}
use Rattle.av_light.specs.AtIndex.{IsChunkLightAt}

zip_push : {A B : Type 0} (R : A → B → Type 0) (xs : List A) (ys : List B) (x : A) (y : B) → AllZip R xs ys → R x y → AllZip R (xs ++ x ∷ []) (ys ++ y ∷ [])
zip_push R [] [] x y h is = (is, tt)
zip_push R [] (b ∷ ys) x y h is = absurd h
zip_push R (a ∷ xs) [] x y h is = absurd h
zip_push R (a ∷ xs) (b ∷ ys) x y h is = (h.0, zip_push R xs ys x y h.1 is)

-- one chunk more has its light
pub lit_more : (R : ChunkPos → ChunkLight → Type 0) (cs : List ChunkPos) (ls : List ChunkLight) (i : ℕ) (d : ChunkPos) (l : ChunkLight) → i < length cs → AllZip R (take i cs) ls → R (get_or cs i d) l
    → AllZip R (take (i + 1) cs) (ls ++ l ∷ [])
lit_more R cs ls i d l less h is = subst (λ xs. AllZip R xs (ls ++ l ∷ [])) (sym (take_more cs i d less)) (zip_push R (take i cs) ls (get_or cs i d) l h is)

-- what a slot has, of the chunk that stands there
pub own_at : (k : Kinds) (w : World) (slots : List (Option ChunkLight)) (i : ℕ) (o : Option ChunkLight) (cs : List ChunkPos) (d : ChunkPos)
    → AreAtIndices (IsChunkLightAt k w) slots → i < length slots → o ≡ get_or slots i o → cs ≡ positions_of w → IfSome o (IsChunkLight k (blocks w) (height_of w) (get_or cs i d))
own_at k w slots i o cs d h less is same =
    IfSome_then o (at_indices-at (IsChunkLightAt k w) slots i o h less is) (λ l p. subst (λ ps. IsChunkLight k (blocks w) (height_of w) (get_or ps i d) l) (sym same) (p.light d))
