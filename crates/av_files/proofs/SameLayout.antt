-- The same files are written.
use Rattle.std.proofs.Common.{◌≡◌, ◌∙◌, ℕ, ◌+◌, ◌<◌, ℤ, pos, ◌-ℤ◌, List, [], ◌∷◌, ◌++◌, Bool, true, false, ◌||◌, cond, Option, Some, refl, ap, sym, subst, arith}
use Rattle.std.specs.Prelude.{map, codes}
use Rattle.av_cells.specs.Sets.{Set}
use Rattle.std.specs.List.{AllByRecursion, list_any}
use Rattle.std.proofs.lemmas.Int.{ints}
use Rattle.std.proofs.Math.Bool.{or-true}
use Rattle.av_document.proofs.Inside.{map_range_agree}
use Rattle.av_types.specs.Positions.{chunk_at, is_section_of}
use Rattle.av_types.specs.declared.position.Pos.{Pos}
use Rattle.av_types.specs.declared.position.ChunkPos.{ChunkPos}
use Rattle.av_types.specs.declared.position.RegionPos.{RegionPos}
use Rattle.av_types.specs.declared.position.Height.{Height}
use Rattle.av_types.specs.declared.tick.Entry.{Entry}
use Rattle.av_types.proofs.Coordinates.{region_back}
use Rattle.av_files.proofs.Coordinates.{same_region-refl}
use Rattle.av_tags.specs.Nbt.{NamedTag, members_of, text, int}
use Rattle.av_tags.specs.ByName.{with_tag}
use Rattle.av_nbt.specs.Writing.{written_document}
use Rattle.av_region.specs.Layout.{region_bytes}
use Rattle.av_state.specs.BlockState.{BlockState}
use Rattle.av_rules.specs.Rows.{BlockTable}
use Rattle.av_document.specs.Chunk.{RestOfChunk}
use Rattle.av_document.specs.Law.{IsSameChunk}
use Rattle.av_document.specs.Layout.{chunk_layout, section_at, section_layout, section_numbers, all_of, compounds, entry_layout, fluid_name, block_at}
use Rattle.av_land.specs.Land.{Land, has_chunk}
use Rattle.av_land.specs.Resumed.{sooner, shifted, early, late}
use Rattle.av_region_files.specs.Regions.{same_region}
use Rattle.av_files.specs.Denotes.{Rest}
use Rattle.av_files.specs.Layout.{Lights, sources_of, chunk_bytes, payload_of, file_layout, layout}
use Rattle.av_files.specs.Light.{IsLit}
use Rattle.av_files.specs.Laws.{SameRest}
use Rattle.av_files.specs.Run.{IsRun, kinds_in}
use Rattle.av_files.specs.Resumption.{FilesResume}
use Rattle.av_files.proofs.Composed.{run_stays}
use Rattle.av_files.proofs.Continued.{run_continues}
use Rattle.av_files.proofs.SameLight.{same_light}
use Rattle.av_files.proofs.Unique.{denote_one}

-- ---- a chunk

same_due : (z : ℤ) (n m : ℕ) → (z -ℤ pos n) -ℤ pos m ≡ z -ℤ pos (m + n)
same_due z n m = omega (arith, ints)

abbrev with_due : List ℕ → Entry → ℤ → List NamedTag
with_due fluid e due =
    record { name = codes "i"; tag = text fluid } ∷
    record { name = codes "x"; tag = int e.pos.x } ∷ record { name = codes "y"; tag = int e.pos.y } ∷ record { name = codes "z"; tag = int e.pos.z } ∷
    record { name = codes "t"; tag = int due } ∷ record { name = codes "p"; tag = int e.priority } ∷ []

entries_same : (sources : Pos → Bool) (n m : ℕ) (es : List Entry) → map (λ e. entry_layout (sources e.pos) m e) (map (sooner n) es) ≡ map (λ e. entry_layout (sources e.pos) (m + n) e) es
entries_same sources n m [] = refl
entries_same sources n m (e ∷ es) =
    let d = same_due e.due n m in
    λ i. with_due (fluid_name (sources e.pos)) e (d i) ∷ entries_same sources n m es i

-- ---- sections

section_same : (c : ChunkPos) (h : Height) (cells : Pos → BlockState) (r s : RestOfChunk) (l m : ℤ → List ℕ) (y : ℤ) → ((z : ℤ) → r.outside z ≡ s.outside z) → ((z : ℤ) → is_section_of h z ≡ true → r.section z ≡ s.section z)
    → ((z : ℤ) → is_section_of h z ≡ true → l z ≡ m z) → section_at c h cells r l y ≡ section_at c h cells s m y
section_same c h cells r s l m y o a b = by (is_section_of h y) refl where
  by : (t : Bool) → is_section_of h y ≡ t → cond t (Some (section_layout (r.section y) (λ i. cells (block_at c y i)) (l y))) (r.outside y) ≡ cond t (Some (section_layout (s.section y) (λ i. cells (block_at c y i)) (m y))) (s.outside y)
  by true e = let x = a y e in let z = b y e in λ j. Some (section_layout (x j) (λ i. cells (block_at c y i)) (z j))
  by false e = o y

chunk_same : (c : ChunkPos) (h : Height) (cells : Pos → BlockState) (es : List Entry) (sources : Pos → Bool) (r s : RestOfChunk) (l m : ℤ → List ℕ) (n k : ℕ) (then now : Pos → BlockState) (a b : List Entry)
    → IsSameChunk c h then now a b s r → ((z : ℤ) → is_section_of h z ≡ true → l z ≡ m z)
    → chunk_layout c h cells (map (sooner n) es) sources s l k ≡ chunk_layout c h cells es sources r m (k + n)
chunk_same c h cells es sources r s l m n k then now a b same lit =
    let sections : (y : ℤ) → section_at c h cells s l y ≡ section_at c h cells r m y = λ y. section_same c h cells s r l m y same.same_outside same.same_section lit in
    let entries = entries_same sources n k es in
    λ i. record {
      name = same.same_name i;
      members = members_of (with_tag (codes "fluid_ticks") (compounds (same.same_foreign i ++ entries i))
          (with_tag (codes "sections") (compounds (all_of (λ y. sections y i) section_numbers)) (same.same_tags i)));
    }

-- ---- files

map_all : {X Y : Type 0} (f g : X → Y) (xs : List X) → AllByRecursion (λ x. f x ≡ g x) xs → map f xs ≡ map g xs
map_all f g [] h = refl
map_all f g (x ∷ xs) h = λ i. h.0 i ∷ map_all f g xs h.1 i

members : (P : RegionPos → Type 0) (rs : List RegionPos) → ((x : RegionPos) → list_any (same_region x) rs ≡ true → P x) → AllByRecursion P rs
members P [] h = tt
members P (r ∷ rs) h =
    (h r (ap (λ b. b || list_any (same_region r) rs) (same_region-refl r)), members P rs (λ x e. h x (ap (λ b. same_region x r || b) e ∙ or-true (same_region x r))))

pub payload_if : (b : Bool) (x y : List ℕ) (k l : Option (List ℕ)) → (b ≡ true → x ≡ y) → k ≡ l → cond b (Some x) k ≡ cond b (Some y) l
payload_if true x y k l h e = ap (λ z. Some z) (h refl)
payload_if false x y k l h e = e

-- the world of n + m ticks, sooner by n and written after m, is written as that world after n + m
pub layout_same : (t : BlockTable) (w u : Land BlockState) (r s : Rest) (l m : Lights) (n k : ℕ) → SameRest u.height w s r → w.chunks ≡ u.chunks
    → ((c : ChunkPos) → has_chunk u.chunks c ≡ true → (y : ℤ) → is_section_of u.height y ≡ true → l c y ≡ m c y)
    → layout t (shifted n u) s l k ≡ layout t u r m (k + n)
layout_same t w u r s l m n k same chunks lit =
    let payload : (region : RegionPos) → list_any (same_region region) s.regions ≡ true → (i : ℕ) → i < 0 + 1024 → payload_of (sources_of t (shifted n u)) (shifted n u) s l k (chunk_at region i) ≡ payload_of (sources_of t u) u r m (k + n) (chunk_at region i) =
    λ region found i less. let c = chunk_at region i in
    payload_if (has_chunk u.chunks c) (chunk_bytes (sources_of t (shifted n u)) (shifted n u) s l k c) (chunk_bytes (sources_of t u) u r m (k + n) c) (s.kept c) (r.kept c)
    (λ is. ap written_document (chunk_same c u.height u.at (u.lists c) (sources_of t u) (r.chunk c) (s.chunk c) (l c) (m c) n k w.at w.at (w.lists c) (w.lists c) (same.chunks c (ap (λ cs. has_chunk cs c) chunks ∙ is)) (lit c is)))
    (same.kept c (ap (λ x. list_any (same_region x) s.regions) (region_back region i (omega arith)) ∙ found)) in
    let one : (region : RegionPos) → list_any (same_region region) s.regions ≡ true → file_layout (sources_of t (shifted n u)) (shifted n u) s l k region ≡ file_layout (sources_of t u) u r m (k + n) region = λ region found.
    let p = map_range_agree (λ i. payload_of (sources_of t (shifted n u)) (shifted n u) s l k (chunk_at region i)) (λ i. payload_of (sources_of t u) u r m (k + n) (chunk_at region i)) 0 1024 (payload region found) in
    let q = map_range_agree (s.stamp region) (r.stamp region) 0 1024 (λ i less. same.stamps region found i (omega arith)) in
    λ j. record { pos = region; bytes = region_bytes (p j) (q j) } in
    map_all (file_layout (sources_of t (shifted n u)) (shifted n u) s l k) (file_layout (sources_of t u) u r m (k + n)) s.regions (members (λ x. file_layout (sources_of t (shifted n u)) (shifted n u) s l k x ≡ file_layout (sources_of t u) u r m (k + n) x) s.regions one)
    ∙ ap (map (file_layout (sources_of t u) u r m (k + n))) same.regions

-- light does not look at entries
lit_down : (t : BlockTable) (n : ℕ) (u : Land BlockState) (l : Lights) → IsLit t (shifted n u) l → IsLit t u l
lit_down t n u l h = record { bytes = h.bytes; blocks = h.blocks }

-- ---- all together

record Stands (v w : Land BlockState) : Type 0 where
  height : v.height ≡ w.height
  chunks : v.chunks ≡ w.chunks

stands : (t : BlockTable) (w : Land BlockState) (es : List (Set BlockState)) (n : ℕ) (v : Land BlockState) (c : ℕ) → IsRun t w es n v c → Stands v w
stands t w es n v c a =
    let s = run_stays (kinds_in t a.states) 0 a.sets n a.numbers in
    record {
      height = ap (λ x. x.height) a.to ∙ s.same_height ∙ sym (ap (λ x. x.height) a.from);
      chunks = ap (λ x. x.chunks) a.to ∙ s.same_chunks ∙ sym (ap (λ x. x.chunks) a.from);
    }

pub files_resume : FilesResume
files_resume t h files mid es n m r s x u light other c d e a =
    let read = denote_one h mid a.again (shifted n a.reached) s r a.read_again a.written in
    let second : IsRun t (shifted n a.reached) (late n es) m x d = subst (λ y. IsRun t y (late n es) m x d) read.0 a.second in
    let all = run_continues t a.world a.reached x u es n m c d e a.first second a.whole in
    let first = stands t a.world (early n es) n a.reached c a.first in
    let whole = stands t a.world es (m + n) u e a.whole in
    let tall : h ≡ u.height = sym (whole.height ∙ a.read.height) in
    let chunks : a.again.chunks ≡ u.chunks = ap (λ y. y.chunks) read.0 ∙ first.chunks ∙ sym whole.chunks in
    let rest : SameRest u.height a.again s r = subst (λ y. SameRest y a.again s r) tall read.1 in
    let lit : IsLit t u light = lit_down t n u light (subst (λ y. IsLit t y light) all.world a.lit) in
    record {
      files = ap (λ y. layout t y s light m) all.world ∙ layout_same t a.again u r s light other n m rest chunks (same_light t u light other lit a.lit_whole);
      turns = all.count;
    }
