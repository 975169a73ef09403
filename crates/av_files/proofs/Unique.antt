-- Files denote one world at most.
use Rattle.std.proofs.Common.{◌≡◌, ◌∙◌, ℕ, ◌≤◌, ◌/◌, List, [], ◌∷◌, ◌++◌, Bool, true, false, ◌&&◌, ◌||◌, Some, refl, ap, sym, subst, arith}
use Rattle.std.specs.Prelude.{map}
use Rattle.std.specs.List.{AllByRecursion, list_any}
use Rattle.std.proofs.lemmas.Bool.{and_parts, and_from, true≢false, false≢true}
use Rattle.std.proofs.lemmas.Bool.Decides.{Decides-int_eq}
use Rattle.av_types.specs.Division.{divided}
use Rattle.av_types.specs.Positions.{chunk_of, region_of, index_of, chunk_at, is_block_of}
use Rattle.av_types.specs.declared.position.Pos.{Pos}
use Rattle.av_types.specs.declared.position.ChunkPos.{ChunkPos}
use Rattle.av_types.specs.declared.position.RegionPos.{RegionPos}
use Rattle.av_types.specs.declared.position.Height.{Height}
use Rattle.av_types.proofs.Coordinates.{index_less, chunk_back}
use Rattle.av_tags.specs.Nbt.{Document}
use Rattle.av_nbt.specs.Spelling.{SpellsDocument}
use Rattle.av_nbt.proofs.LawProofs.{one_document}
use Rattle.av_region.specs.Region.{IsAbsent, Holds, location_of}
use Rattle.av_state.specs.BlockState.{BlockState}
use Rattle.av_document.specs.Ticks.{lies_in}
use Rattle.av_document.specs.Chunk.{DenotesChunk, root_tags, is_full}
use Rattle.av_document.specs.Law.{IsSameChunk}
use Rattle.av_land.specs.Land.{Land, has_chunk, is_loaded}
use Rattle.av_files.specs.Files.{File, in_order}
use Rattle.av_region_files.specs.Regions.{region_order, same_region}
use Rattle.av_files.specs.Denotes.{Rest, IsSlot, absent, kept, full, DenotesFile, Denotes}
use Rattle.av_files.specs.Laws.{DenoteOne}
use Rattle.av_files.proofs.Sorted.{all_ordered}
use Rattle.av_files.proofs.Coordinates.{same_region_is}
use Rattle.av_files.proofs.Rising.{rising_same}

pub some_location : (file : List ℕ) (i : ℕ) (payload : List ℕ) → Holds file i payload → IsAbsent file i → ⊥
some_location file i payload held none = far (location_of file i) held.measured.whole.located.offset none where
  far : (n : ℕ) → 2 ≤ n / 256 → n ≡ 0 → ⊥
  far n h e = omega arith

pub same_document : (file : List ℕ) (i : ℕ) (p q : List ℕ) (d e : Document) → Holds file i p → Holds file i q → SpellsDocument d p → SpellsDocument e q → (p ≡ q) × (d ≡ e)
same_document file i p q d e hp hq sp sq =
    let same : p ≡ q = hp.bytes ∙ sym hq.bytes in
    (same, (one_document d e p q [] [] sp sq (ap (λ x. x ++ []) same)).0)

-- what two worlds and rests have alike at a chunk
record Alike (h : Height) (w v : Land BlockState) (r s : Rest) (c : ChunkPos) : Type 0 where
  loaded : has_chunk w.chunks c ≡ has_chunk v.chunks c
  kept_same : r.kept c ≡ s.kept c
  same : has_chunk w.chunks c ≡ true → IsSameChunk c h w.at v.at (w.lists c) (v.lists c) (r.chunk c) (s.chunk c)

slots_alike : (h : Height) (w v : Land BlockState) (r s : Rest) (file : List ℕ) (c : ChunkPos) (i : ℕ) → IsSlot h w r file c i → IsSlot h v s file c i → Alike h w v r s c
slots_alike h w v r s file c i (absent a b k) (absent a' b' k') = record { loaded = b ∙ sym b'; kept_same = k ∙ sym k'; same = λ l. absurd (true≢false (sym l ∙ b)) }
slots_alike h w v r s file c i (absent a b k) (kept p d held sp nf part b' k') = absurd (some_location file i p held a)
slots_alike h w v r s file c i (absent a b k) (full p d held sp den b' k') = absurd (some_location file i p held a)
slots_alike h w v r s file c i (kept p d held sp nf part b k) (absent a' b' k') = absurd (some_location file i p held a')
slots_alike h w v r s file c i (kept p d held sp nf part b k) (kept p' d' held' sp' nf' part' b' k') =
    let one = same_document file i p p' d d' held held' sp sp' in
    record { loaded = b ∙ sym b'; kept_same = k ∙ ap (λ x. Some x) one.0 ∙ sym k'; same = λ l. absurd (true≢false (sym l ∙ b)) }
slots_alike h w v r s file c i (kept p d held sp nf part b k) (full p' d' held' sp' den' b' k') =
    let one = same_document file i p p' d d' held held' sp sp' in
    absurd (true≢false (sym den'.full ∙ ap (λ x. is_full (root_tags x)) (sym one.1) ∙ part))
slots_alike h w v r s file c i (full p d held sp den b k) (absent a' b' k') = absurd (some_location file i p held a')
slots_alike h w v r s file c i (full p d held sp den b k) (kept p' d' held' sp' nf' part' b' k') =
    let one = same_document file i p p' d d' held held' sp sp' in
    absurd (true≢false (sym den.full ∙ ap (λ x. is_full (root_tags x)) one.1 ∙ part'))
slots_alike h w v r s file c i (full p d held sp den b k) (full p' d' held' sp' den' b' k') =
    let one = same_document file i p p' d d' held held' sp sp' in
    let other : DenotesChunk c h d v.at (v.lists c) (s.chunk c) = subst (λ x. DenotesChunk c h x v.at (v.lists c) (s.chunk c)) (sym one.1) den' in
    record {
      loaded = b ∙ sym b';
      kept_same = k ∙ sym k';
      same = λ l. record {
        same_cells = λ x inside. den.cells_are x inside ∙ sym (other.cells_are x inside);
        same_water = den.water_is ∙ sym other.water_is;
        same_name = den.name_is ∙ sym other.name_is;
        same_tags = den.tags_are ∙ sym other.tags_are;
        same_foreign = den.foreign_are ∙ sym other.foreign_are;
        same_outside = λ y. den.outside_is y ∙ sym (other.outside_is y);
        same_section = λ y inside. den.section_is y inside ∙ sym (other.section_is y inside);
      };
    }

-- ---- the file of a region

record HasBoth (h : Height) (w v : Land BlockState) (r s : Rest) (region : RegionPos) : Type 0 where
  file : File
  is : file.pos ≡ region
  left : DenotesFile h w r file
  right : DenotesFile h v s file

both_of : (h : Height) (w v : Land BlockState) (r s : Rest) (region : RegionPos) (fs : List File) → AllByRecursion (DenotesFile h w r) fs → AllByRecursion (DenotesFile h v s) fs
    → list_any (same_region region) (map (λ f. f.pos) fs) ≡ true → HasBoth h w v r s region
both_of h w v r s region [] a b found = absurd (false≢true found)
both_of h w v r s region (f ∷ fs) a b found = by (same_region region f.pos) refl found (both_of h w v r s region fs a.1 b.1) where
  by : (t : Bool) → same_region region f.pos ≡ t → (t || list_any (same_region region) (map (λ g. g.pos) fs)) ≡ true → (list_any (same_region region) (map (λ g. g.pos) fs) ≡ true → HasBoth h w v r s region) → HasBoth h w v r s region
  by true e k more = record { file = f; is = sym (same_region_is region f.pos e); left = a.0; right = b.0 }
  by false e k more = more k

at_region : (h : Height) (files : List File) (w v : Land BlockState) (r s : Rest) → Denotes h files w r → Denotes h files v s → (region : RegionPos) → list_any (same_region region) r.regions ≡ true → HasBoth h w v r s region
at_region h files w v r s a b region found =
    both_of h w v r s region (in_order files) (all_ordered (DenotesFile h w r) (λ a b. region_order a.pos b.pos) files a.each) (all_ordered (DenotesFile h v s) (λ a b. region_order a.pos b.pos) files b.each)
    (subst (λ rs. list_any (same_region region) rs ≡ true) a.regions found)

at_chunk : (h : Height) (files : List File) (w v : Land BlockState) (r s : Rest) → Denotes h files w r → Denotes h files v s → (c : ChunkPos) → list_any (same_region (region_of c)) r.regions ≡ true → Alike h w v r s c
at_chunk h files w v r s a b c found =
    let x = at_region h files w v r s a b (region_of c) found in
    let here : chunk_at x.file.pos (index_of c) ≡ c = ap (λ region. chunk_at region (index_of c)) x.is ∙ chunk_back c in
    slots_alike h w v r s x.file.bytes c (index_of c)
    (subst (λ d. IsSlot h w r x.file.bytes d (index_of c)) here (x.left.slots (index_of c) (index_less c)))
    (subst (λ d. IsSlot h v s x.file.bytes d (index_of c)) here (x.right.slots (index_of c) (index_less c)))

same_loaded : (h : Height) (files : List File) (w v : Land BlockState) (r s : Rest) → Denotes h files w r → Denotes h files v s → (c : ChunkPos) → has_chunk w.chunks c ≡ has_chunk v.chunks c
same_loaded h files w v r s a b c = by (has_chunk w.chunks c) (has_chunk v.chunks c) refl refl where
  by : (x y : Bool) → has_chunk w.chunks c ≡ x → has_chunk v.chunks c ≡ y → has_chunk w.chunks c ≡ has_chunk v.chunks c
  by true y e f = (at_chunk h files w v r s a b c (a.others c e)).loaded
  by false true e f = sym (at_chunk h files v w s r b a c (b.others c f)).loaded
  by false false e f = e ∙ sym f

in_chunk : (w : Land BlockState) (p : Pos) → is_loaded w p ≡ true → (has_chunk w.chunks (chunk_of p) ≡ true) × (lies_in (chunk_of p) w.height p ≡ true)
in_chunk w p l =
    let parts = and_parts (has_chunk w.chunks (chunk_of p)) (is_block_of w.height p.y) l in
    (parts.0, and_from _ _ (and_from _ _ ((Decides-int_eq (divided p.x 16) (divided p.x 16)).1 refl) ((Decides-int_eq (divided p.z 16) (divided p.z 16)).1 refl)) parts.1)

pub denote_one : DenoteOne
denote_one h files w v r s a b =
    let chunks = rising_same w.chunks v.chunks a.rise b.rise (same_loaded h files w v r s a b) in
    let tall : w.height ≡ v.height = a.height ∙ sym b.height in
    let still : (p : Pos) → is_loaded w p ≡ is_loaded v p = λ p i. has_chunk (chunks i) (chunk_of p) && is_block_of (tall i) p.y in
    let same_at : (p : Pos) (l : Bool) → is_loaded w p ≡ l → w.at p ≡ v.at p = λ p. elim [
      | true ↦ λ e. let x = in_chunk w p e in ((at_chunk h files w v r s a b (chunk_of p) (a.others (chunk_of p) x.0)).same x.0).same_cells p (subst (λ y. lies_in (chunk_of p) y p ≡ true) a.height x.1)
      | false ↦ λ e. a.air_elsewhere p e ∙ sym (b.air_elsewhere p (sym (still p) ∙ e))
    ] in
    let same_lists : (c : ChunkPos) (l : Bool) → has_chunk w.chunks c ≡ l → w.lists c ≡ v.lists c = λ c. elim [
      | true ↦ λ e. ((at_chunk h files w v r s a b c (a.others c e)).same e).same_water
      | false ↦ λ e. a.none_elsewhere c e ∙ sym (b.none_elsewhere c (sym (same_loaded h files w v r s a b c) ∙ e))
    ] in
    let world : w ≡ v = λ i. record { height = tall i; chunks = chunks i; at = λ p. same_at p (is_loaded w p) refl i; lists = λ c. same_lists c (has_chunk w.chunks c) refl i } in (
      world,
      record {
        regions = a.regions ∙ sym b.regions;
        stamps = λ region found i less. let x = at_region h files w v r s a b region found in
            ap (λ z. r.stamp z i) (sym x.is) ∙ x.left.stamps i less ∙ sym (x.right.stamps i less) ∙ ap (λ z. s.stamp z i) x.is;
        kept = λ c found. (at_chunk h files w v r s a b c found).kept_same;
        chunks = λ c e. let x = (at_chunk h files w v r s a b c (a.others c e)).same e in
            record { same_cells = λ p inside. refl; same_water = refl; same_name = x.same_name; same_tags = x.same_tags; same_foreign = x.same_foreign; same_outside = x.same_outside; same_section = x.same_section };
      },
    )
