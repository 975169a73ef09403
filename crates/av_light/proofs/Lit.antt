-- The light of each chunk of a world.
use Rattle.std.proofs.Common.{◌≡◌, ℕ, zero, suc, arith, List, [], ◌∷◌, slice_get, Some, refl, subst}
use Rattle.std.specs.Prelude.{MatchOption, IsSomeAnd}
use Rattle.std.specs.List.{All, AllZip}
use Rattle.std.proofs.lemmas.Slice.Zip.{AllZip-right}
use Rattle.av_types.specs.Positions.{chunk_of, section_of}
use Rattle.av_rules.specs.declared.kinds.Kinds.{Kinds}
use Rattle.av_types.specs.declared.position.ChunkPos.{ChunkPos}
use Rattle.av_types.specs.declared.position.Height.{Height}
use Rattle.av_chunk.specs.Light.{section_count}
use Rattle.av_chunk.specs.declared.light.ChunkLight.{ChunkLight}
use Rattle.av_cells.specs.World as cells
use Rattle.av_world.specs.Index.{slot}
use Rattle.av_world.specs.Near.{is_world_section}
use Rattle.av_world.specs.Views.{height_of, positions_of, blocks}
use Rattle.av_world.specs.declared.worlds.World.{World}
use Rattle.av_world.proofs.ChunkReads.{slot_there}
use Rattle.av_section_light.specs.Light.{IsChunkLight}
use Rattle.av_light.specs.Lights.{AreLit}

pub weaken : {A B : Type 0} (R S : A → B → Type 0) → ((x : A) (y : B) → R x y → S x y) → (xs : List A) (ys : List B) → AllZip R xs ys → AllZip S xs ys
weaken R S turn [] [] h = tt
weaken R S turn [] (y ∷ ys) h = absurd h
weaken R S turn (x ∷ xs) [] h = absurd h
weaken R S turn (x ∷ xs) (y ∷ ys) h = (turn x y h.0, weaken R S turn xs ys h.1)

zip_at : {A B : Type 0} → (Q : A → B → Type 0) (xs : List A) (ys : List B) (i : ℕ) (x : A) (y : B) → AllZip Q xs ys → slice_get xs i ≡ Some x → slice_get ys i ≡ Some y → Q x y
zip_at Q xs ys i x y zip left right =
    let at_right = subst (λ o. MatchOption o (Unit {0}) (λ b. IsSomeAnd (slice_get xs i) (λ a. Q a b))) right (AllZip-right Q xs ys zip i) in
    subst (λ o. IsSomeAnd o (λ a. Q a y)) left at_right

-- the light of a loaded block is in that of its chunk
pub lit : (k : Kinds) (w : World) (ls : List ChunkLight) → AllZip (IsChunkLight k (blocks w) (height_of w)) (positions_of w) ls → AreLit k w ls
lit k w ls zip = λ p l loaded at.
    let of_world = is_world_section w.height w.positions.items w.chunks.items w.lawful.parallel (section_of p) loaded in
    (zip_at (IsChunkLight k (blocks w) (height_of w)) (positions_of w) ls (slot (positions_of w) (chunk_of p)) (chunk_of p) l zip (slot_there (positions_of w) (chunk_of p) of_world.chunk) at).blocks p refl of_world.high

-- each has as many sections as the height
pub all_sections : (k : Kinds) (w : cells.World) (h : Height) (cs : List ChunkPos) (ls : List ChunkLight) → AllZip (IsChunkLight k w h) cs ls → All (λ l. section_count l ≡ h.sections) ls
all_sections k w h [] [] zip i d less = absurd (omega arith)
all_sections k w h [] (l ∷ ls) zip i d less = absurd zip
all_sections k w h (c ∷ cs) [] zip i d less = absurd zip
all_sections k w h (c ∷ cs) (l ∷ ls) zip zero d less = zip.0.sections
all_sections k w h (c ∷ cs) (l ∷ ls) zip (suc i) d less = all_sections k w h cs ls zip.1 i d (omega arith)
