-- A good world can be written, and its table of kinds says what a block table says.
use Rattle.std.proofs.Common.{◌≡◌, ◌∙◌, ℕ, ◌<◌, List, [], ◌∷◌, length, ap, subst, map}
use Rattle.std.specs.Int.{w32}
use Rattle.std.specs.Int.RustNames.{FitsSigned}
use Rattle.std.specs.Prelude.{slice_index_or, pos, ◌-ℤ◌}
use Rattle.std.specs.List.{All, AllByRecursion}
use Rattle.std.proofs.lemmas.List.{get_or-map}
use Rattle.std.proofs.lemmas.List.Elements.{All-from_recursion}
use Rattle.av_types.specs.Water.{is_source}
use Rattle.av_types.specs.declared.water.Wet.{Wet}
use Rattle.av_types.specs.declared.water.Wet.TheVariants.{Dry}
use Rattle.av_types.specs.declared.position.Pos.{Pos}
use Rattle.av_types.specs.declared.tick.Entry.{Entry}
use Rattle.av_state.specs.BlockState.{air}
use Rattle.av_state.specs.Table.{states}
use Rattle.av_rules.specs.Rows.{BlockTable, wet_in}
use Rattle.av_rules.specs.Kinds.{table_in, wets_in, wet_at, kind_count}
use Rattle.av_rules.specs.declared.kinds.Kinds.{Kinds}
use Rattle.av_chunk.specs.Light.{section_count}
use Rattle.av_chunk.specs.declared.light.ChunkLight.{ChunkLight}
use Rattle.av_land.specs.Land.{is_loaded}
use Rattle.av_land.specs.Good.{Good, IsTimely, IsEntryOf}
use Rattle.av_world.specs.Lands.{land_of, IsUncarved}
use Rattle.av_world.specs.Views.{height_of, positions_of, lists}
use Rattle.av_world.specs.declared.worlds.World.{World}
use Rattle.av_files.specs.Layout.{sources_of}
use Rattle.av_files.proofs.Lawfuls.{timely_ints}
use Rattle.av_image.specs.Saving.{CanSave, states_in, sources_in}

times_of : (n : ℕ) (w : World) (Q : Entry → Type 0) (es : List Entry) → ((e : Entry) → Q e → IsTimely n e) → AllByRecursion Q es → AllByRecursion (λ e. FitsSigned w32 (e.due -ℤ pos n)) es
times_of n w Q [] h a = tt
times_of n w Q (e ∷ es) h a = ((timely_ints n e (h e a.0)).int_due, times_of n w Q es h a.1)

-- a whole world, good after so many ticks, with a light of all sections for each chunk, can be written
pub can_save : (w : World) (k : Kinds) (ls : List ChunkLight) (n : ℕ) → IsUncarved w → Good (kind_count k) (IsTimely n) (land_of w) → length ls ≡ length (positions_of w)
    → All (λ l. section_count l ≡ (height_of w).sections) ls → CanSave w k ls n
can_save w k ls n whole good count lit = record {
  whole = whole;
  numbered = λ p there. good.numbers p;
  due = λ c. All-from_recursion (λ e. FitsSigned w32 (e.due -ℤ pos n)) (lists w c)
      (times_of n w (IsEntryOf (IsTimely n) (is_loaded (land_of w)) c) (lists w c) (λ e own. own.holds) (good.entries c));
  lights = count;
  lit = lit;
}

-- what the table of kinds says of sources is what the block table says that it was made from
pub sources_are : (t : BlockTable) (k : Kinds) (w : World) → wets_in k ≡ map (wet_in t) (states (table_in k)) → ((p : Pos) → (land_of w).at p < kind_count k) → sources_in k w ≡ sources_of t (states_in k w)
sources_are t k w made numbers = λ i p. one p i where
  wet : (n : ℕ) → n < kind_count k → wet_at k n ≡ wet_in t (slice_index_or (states (table_in k)) n air)
  wet n low =
      ap (λ (xs : List Wet). slice_index_or xs n Dry) made
      ∙ get_or-map (wet_in t) (states (table_in k)) n air Dry (subst (λ m. n < m) k.listed.a_row_each low)

  one : (p : Pos) → sources_in k w p ≡ sources_of t (states_in k w) p
  one p = ap is_source (wet ((land_of w).at p) (numbers p))
