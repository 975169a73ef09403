-- The light of a world's chunks as that of files, and what is written with it.
use Rattle.std.proofs.Common.{◌≡◌, ◌∙◌, ℕ, zero, suc, ◌+◌, ◌-◌, ◌*◌, ◌<◌, ℤ, List, [], ◌∷◌, length, drop, Bool, true, false, ◌||◌, cond, Option, Some, None, slice_get, slice_index_or, refl, ap, sym, subst, arith, length-drop}
use Rattle.std.specs.Prelude.{slice_range}
use Rattle.std.specs.List.{AllZip, AllByRecursion}
use Rattle.std.proofs.lemmas.Bool.{and_parts, false≢true}
use Rattle.std.proofs.lemmas.List.{get_or-map, length-replicate, length-take-le}
use Rattle.std.proofs.lemmas.List.Elements.{All-from_recursion}
use Rattle.std.proofs.lemmas.Slice.Zip.{AllZip-long}
use Rattle.av_types.specs.Division.{divided}
use Rattle.av_types.specs.Positions.{chunk_of, place_of, is_block_of, is_section_of, section_index}
use Rattle.av_types.specs.declared.position.Pos.{Pos}
use Rattle.av_types.specs.declared.position.ChunkPos.{ChunkPos}
use Rattle.av_types.specs.declared.position.Height.{Height}
use Rattle.av_types.specs.declared.fault.Fault.{Fault}
use Rattle.av_types.proofs.SamePositions.{same_chunk_is}
use Rattle.av_pack.specs.Nibbles.{nibble_at}
use Rattle.av_state.specs.BlockState.{air}
use Rattle.av_state.specs.Table.{states}
use Rattle.av_rules.specs.Rows.{BlockTable, row_of, shut_row}
use Rattle.av_rules.specs.Kinds.{table_in, row_at, kind_count}
use Rattle.av_rules.specs.declared.row.Row.{Row}
use Rattle.av_rules.specs.declared.kinds.Kinds.{Kinds}
use Rattle.av_chunk.specs.Light.{section_count}
use Rattle.av_codec.specs.Writing.{light_of}
use Rattle.av_chunk.specs.declared.light.ChunkLight.{ChunkLight}
use Rattle.av_chunk.proofs.Heights.{offset_below}
use Rattle.av_cells.specs.Positions.{same_chunk}
use Rattle.av_flood.specs.Light.{Terrain, IsLight}
use Rattle.av_land.specs.Land.{has_chunk, is_loaded}
use Rattle.av_land.specs.Good.{Good, IsTimely}
use Rattle.av_world.specs.Index.{slot}
use Rattle.av_world.specs.Lands.{land_of, IsUncarved}
use Rattle.av_world.specs.Views.{blocks, height_of, positions_of, is_broken}
use Rattle.av_world.specs.declared.worlds.World.{World}
use Rattle.av_files.specs.Files.{File}
use Rattle.av_files.specs.Layout.{layout_by, too_large_by}
use Rattle.av_files.specs.Light.{terrain_by, IsLit}
use Rattle.av_image.specs.declared.rest.Rest.{Rest}
use Rattle.av_image.specs.Views.{rest_in}
use Rattle.av_image.specs.Saving.{states_in, dark, section_light, lights_in, saved, unsaved, CanSave, IsSaveFault, broken, large}
use Rattle.av_image.proofs.Ready.{can_save, sources_are}
use Rattle.av_section_light.specs.Light.{terrain_of, IsChunkLight}
use Rattle.av_section_light.specs.Sections.{half_byte}
use Rattle.av_run.specs.Written.{AreFilesOf, IsNotWritten}
use Rattle.av_run.specs.Input.{AreKindsBy}

-- ---- the bytes of a section

dark_length : length dark ≡ 2048
unfolding dark
dark_length = length-replicate {A = ℕ} 2048 0

section_length : (bytes : List ℕ) (count i : ℕ) → length bytes ≡ 2048 * count → i < count → length (slice_range bytes (2048 * i) (2048 * i + 2048)) ≡ 2048
section_length bytes count i e low =
    let left = length-drop (2048 * i) bytes in
    let size : 2048 * i + 2048 - 2048 * i ≡ 2048 = omega arith in
    length-take-le (2048 * i + 2048 - 2048 * i) (drop (2048 * i) bytes) (omega (arith, left, e, low)) ∙ size

light_length : (l : ChunkLight) (h : Height) (y : ℤ) → section_count l ≡ h.sections → is_section_of h y ≡ true → length (light_of l h y) ≡ 2048
light_length l h y count inside =
    let low = offset_below h y inside in
    section_length l.bytes.items l.sections (section_index h y) l.whole (omega (arith, count, low))

counted : (h : Height) (ls : List ChunkLight) (i : ℕ) (y : ℤ) → AllByRecursion (λ l. section_count l ≡ h.sections) ls → is_section_of h y ≡ true → length (section_light h (slice_get ls i) y) ≡ 2048
counted h [] i y all inside = dark_length
counted h (l ∷ ls) zero y all inside = light_length l h y all.0 inside
counted h (l ∷ ls) (suc i) y all inside = counted h ls i y all.1 inside

-- ---- the light at a chunk's position

record IsAt (R : ChunkPos → ChunkLight → Type 0) (ls : List ChunkLight) (i : ℕ) (c : ChunkPos) : Type 0 where
  light : ChunkLight
  is : slice_get ls i ≡ Some light
  holds : R c light

light_at : (R : ChunkPos → ChunkLight → Type 0) (cs : List ChunkPos) (ls : List ChunkLight) (c : ChunkPos) → AllZip R cs ls → has_chunk cs c ≡ true → IsAt R ls (slot cs c) c
light_at R [] ls c zip is = absurd (false≢true is)
light_at R (d ∷ ds) [] c zip is = absurd zip
light_at R (d ∷ ds) (l ∷ ls) c zip is = by (same_chunk d c) refl is (light_at R ds ls c zip.1) where
  by : (b : Bool) → same_chunk d c ≡ b → (b || has_chunk ds c) ≡ true → (has_chunk ds c ≡ true → IsAt R ls (slot ds c) c) → IsAt R (l ∷ ls) (cond b zero (suc (slot ds c))) c
  by true same h more = record { light = l; is = refl; holds = subst (λ x. R x l) (same_chunk_is d c same) zip.0 }
  by false other h more = let at = more h in record { light = at.light; is = at.is; holds = at.holds }

counts_all : (k : Kinds) (w : World) (cs : List ChunkPos) (xs : List ChunkLight) → AllZip (IsChunkLight k (blocks w) (height_of w)) cs xs → AllByRecursion (λ l. section_count l ≡ (height_of w).sections) xs
counts_all k w [] [] z = tt
counts_all k w [] (x ∷ xs) z = absurd z
counts_all k w (c ∷ cs) [] z = absurd z
counts_all k w (c ∷ cs) (x ∷ xs) z = (z.0.sections, counts_all k w cs xs z.1)

module _ (t : BlockTable) (k : Kinds) (w : World) (made : AreKindsBy t k) (whole : IsUncarved w) (numbers : (p : Pos) → (land_of w).at p < kind_count k) where
  row_is : (p : Pos) → row_at k ((land_of w).at p) ≡ row_of t ((states_in k w).at p)
  row_is p =
      ap (λ (xs : List Row). slice_index_or xs ((land_of w).at p) shut_row) made.rows
      ∙ get_or-map (row_of t) (states (table_in k)) ((land_of w).at p) air shut_row (subst (λ m. (land_of w).at p < m) k.listed.a_row_each (numbers p))

  terrain_is : terrain_of k (blocks w) ≡ terrain_by t (states_in k w)
  terrain_is = λ i. record { loaded = whole i; emission = λ p. (row_is p i).emission; opacity = λ p. (row_is p i).opacity }

  module _ (ls : List ChunkLight) (zip : AllZip (IsChunkLight k (blocks w) (height_of w)) (positions_of w) ls) where
    light_is : (p : Pos) → is_loaded (land_of w) p ≡ true → IsLight (terrain_by t (states_in k w)) p (nibble_at (lights_in w ls (chunk_of p) (divided p.y 16)) (place_of p))
    light_is p there =
        let parts = and_parts (has_chunk (positions_of w) (chunk_of p)) (is_block_of (height_of w) p.y) there in
        let at = light_at (IsChunkLight k (blocks w) (height_of w)) (positions_of w) ls (chunk_of p) zip parts.0 in
        let here : IsLight (terrain_of k (blocks w)) p (half_byte (height_of w) at.light p) = at.holds.blocks p refl parts.1 in
        let byte : half_byte (height_of w) at.light p ≡ nibble_at (lights_in w ls (chunk_of p) (divided p.y 16)) (place_of p) =
        ap (λ (o : Option ChunkLight). nibble_at (section_light (height_of w) o (divided p.y 16)) (place_of p)) (sym at.is) in
        subst (λ (g : Terrain). IsLight g p (nibble_at (lights_in w ls (chunk_of p) (divided p.y 16)) (place_of p))) terrain_is (subst (λ n. IsLight (terrain_of k (blocks w)) p n) byte here)

    is_lit : IsLit t (states_in k w) (lights_in w ls)
    is_lit = record {
      bytes = λ c y inside. counted (height_of w) ls (slot (positions_of w) c) y (counts_all k w (positions_of w) ls zip) inside;
      blocks = light_is;
    }

    pub is_written : (r : Rest) (n : ℕ) (out : List File) → out ≡ saved w r k ls n → unsaved w r k ls n ≡ None → AreFilesOf t (states_in k w) (rest_in r) n out
    is_written r n out is fits =
        let same = sources_are t k w made.wets numbers in
        record {
          light = lights_in w ls;
          lit = is_lit;
          bytes = is ∙ ap (λ s. layout_by s (states_in k w) (rest_in r) (lights_in w ls) n) same;
          fits = ap (λ s. too_large_by s (states_in k w) (rest_in r) (lights_in w ls) n) (sym same) ∙ fits;
        }

    pub is_not_written : (r : Rest) (n : ℕ) (e : Fault) → is_broken w ≡ false → IsSaveFault w r k ls n e → IsNotWritten t (states_in k w) (rest_in r) n e
    is_not_written r n e sound (broken b is) = absurd (false≢true (sym sound ∙ b))
    is_not_written r n e sound (large s c first is) = record {
      chunk = c;
      light = lights_in w ls;
      lit = is_lit;
      is = is;
      first = ap (λ s. too_large_by s (states_in k w) (rest_in r) (lights_in w ls) n) (sym (sources_are t k w made.wets numbers)) ∙ first;
    }

pub can_be_saved : (k : Kinds) (w : World) (ls : List ChunkLight) (n : ℕ) → IsUncarved w → Good (kind_count k) (IsTimely n) (land_of w) → AllZip (IsChunkLight k (blocks w) (height_of w)) (positions_of w) ls → CanSave w k ls n
can_be_saved k w ls n whole good zip =
    can_save w k ls n whole good (AllZip-long (IsChunkLight k (blocks w) (height_of w)) (positions_of w) ls zip)
    (All-from_recursion (λ l. section_count l ≡ (height_of w).sections) ls (counts_all k w (positions_of w) ls zip))
