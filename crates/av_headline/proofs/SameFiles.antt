-- The same files are written of two rests and lights that are the same as far as they are written.
use Rattle.std.proofs.Common.{◌≡◌, ◌∙◌, ℕ, ◌<◌, ℤ, List, [], ◌∷◌, ◌++◌, Bool, true, false, ◌||◌, cond, Some, refl, ap, arith}
use Rattle.std.specs.Prelude.{map, codes, option_map}
use Rattle.std.specs.List.{AllByRecursion, list_any}
use Rattle.std.proofs.Math.Bool.{or-true}
use Rattle.av_document.proofs.Inside.{map_range_agree}
use Rattle.av_types.specs.Positions.{chunk_at, is_section_of}
use Rattle.av_types.specs.declared.position.Pos.{Pos}
use Rattle.av_types.specs.declared.position.ChunkPos.{ChunkPos}
use Rattle.av_types.specs.declared.position.RegionPos.{RegionPos}
use Rattle.av_types.specs.declared.position.Height.{Height}
use Rattle.av_types.specs.declared.tick.Entry.{Entry}
use Rattle.av_types.proofs.Coordinates.{region_back}
use Rattle.av_files.proofs.Coordinates.{same_region-refl}
use Rattle.av_files.proofs.SameLayout.{payload_if}
use Rattle.av_tags.specs.Nbt.{members_of}
use Rattle.av_tags.specs.ByName.{with_tag}
use Rattle.av_nbt.specs.Writing.{written_document}
use Rattle.av_region.specs.Layout.{region_bytes, first_too_large}
use Rattle.av_state.specs.BlockState.{BlockState}
use Rattle.av_rules.specs.Rows.{BlockTable}
use Rattle.av_document.specs.Chunk.{RestOfChunk}
use Rattle.av_document.specs.Law.{IsSameChunk}
use Rattle.av_document.specs.Layout.{chunk_layout, section_at, section_layout, section_numbers, all_of, compounds, entry_layout, block_at}
use Rattle.av_land.specs.Land.{Land, has_chunk}
use Rattle.av_region_files.specs.Regions.{same_region}
use Rattle.av_files.specs.Denotes.{Rest}
use Rattle.av_files.specs.Layout.{Lights, sources_of, chunk_bytes, payload_of, payloads, file_layout, layout, first_or, too_large_in, too_large}
use Rattle.av_files.specs.Laws.{SameRest}

-- ---- a chunk

section_same : (c : ChunkPos) (h : Height) (cells : Pos → BlockState) (r s : RestOfChunk) (l m : ℤ → List ℕ) (y : ℤ) → ((z : ℤ) → r.outside z ≡ s.outside z) → ((z : ℤ) → is_section_of h z ≡ true → r.section z ≡ s.section z)
    → ((z : ℤ) → is_section_of h z ≡ true → l z ≡ m z) → section_at c h cells r l y ≡ section_at c h cells s m y
section_same c h cells r s l m y o a b = by (is_section_of h y) refl where
  by : (t : Bool) → is_section_of h y ≡ t → cond t (Some (section_layout (r.section y) (λ i. cells (block_at c y i)) (l y))) (r.outside y) ≡ cond t (Some (section_layout (s.section y) (λ i. cells (block_at c y i)) (m y))) (s.outside y)
  by true e = let x = a y e in let z = b y e in λ j. Some (section_layout (x j) (λ i. cells (block_at c y i)) (z j))
  by false e = o y

chunk_same : (c : ChunkPos) (h : Height) (cells : Pos → BlockState) (es : List Entry) (sources : Pos → Bool) (r s : RestOfChunk) (l m : ℤ → List ℕ) (n : ℕ) (then now : Pos → BlockState) (a b : List Entry)
    → IsSameChunk c h then now a b r s → ((z : ℤ) → is_section_of h z ≡ true → l z ≡ m z)
    → chunk_layout c h cells es sources r l n ≡ chunk_layout c h cells es sources s m n
chunk_same c h cells es sources r s l m n then now a b same lit =
    let sections : (y : ℤ) → section_at c h cells r l y ≡ section_at c h cells s m y = λ y. section_same c h cells r s l m y same.same_outside same.same_section lit in
    λ i. record {
      name = same.same_name i;
      members = members_of (with_tag (codes "fluid_ticks") (compounds (same.same_foreign i ++ map (λ e. entry_layout (sources e.pos) n e) es))
          (with_tag (codes "sections") (compounds (all_of (λ y. sections y i) section_numbers)) (same.same_tags i)));
    }

-- ---- the places of a region

module _ (t : BlockTable) (w v : Land BlockState) (r s : Rest) (l m : Lights) (n : ℕ) (same : SameRest v.height w r s) (chunks : w.chunks ≡ v.chunks)
    (lit : (c : ChunkPos) → has_chunk v.chunks c ≡ true → (y : ℤ) → is_section_of v.height y ≡ true → l c y ≡ m c y) where
  abbrev sources : Pos → Bool
  sources = sources_of t v

  payload_same : (region : RegionPos) → list_any (same_region region) r.regions ≡ true → (i : ℕ) → i < 1024 → payload_of sources v r l n (chunk_at region i) ≡ payload_of sources v s m n (chunk_at region i)
  payload_same region found i less =
      let c = chunk_at region i in
      payload_if (has_chunk v.chunks c) (chunk_bytes sources v r l n c) (chunk_bytes sources v s m n c) (r.kept c) (s.kept c)
      (λ is. ap written_document (chunk_same c v.height v.at (v.lists c) sources (r.chunk c) (s.chunk c) (l c) (m c) n w.at w.at (w.lists c) (w.lists c) (same.chunks c (ap (λ cs. has_chunk cs c) chunks ∙ is)) (lit c is)))
      (same.kept c (ap (λ x. list_any (same_region x) r.regions) (region_back region i less) ∙ found))

  payloads_same : (region : RegionPos) → list_any (same_region region) r.regions ≡ true → payloads sources v r l n region ≡ payloads sources v s m n region
  payloads_same region found =
      map_range_agree (λ i. payload_of sources v r l n (chunk_at region i)) (λ i. payload_of sources v s m n (chunk_at region i)) 0 1024 (λ i less. payload_same region found i (omega arith))

  file_same : (region : RegionPos) → list_any (same_region region) r.regions ≡ true → file_layout sources v r l n region ≡ file_layout sources v s m n region
  file_same region found =
      let p = payloads_same region found in
      let q = map_range_agree (r.stamp region) (s.stamp region) 0 1024 (λ i less. same.stamps region found i (omega arith)) in
      λ j. record { pos = region; bytes = region_bytes (p j) (q j) }

  large_same : (region : RegionPos) → list_any (same_region region) r.regions ≡ true
      → option_map (chunk_at region) (first_too_large (payloads sources v r l n region)) ≡ option_map (chunk_at region) (first_too_large (payloads sources v s m n region))
  large_same region found = ap (λ ps. option_map (chunk_at region) (first_too_large ps)) (payloads_same region found)

  -- ---- all regions

  -- each region of a list is found there
  members : (rs : List RegionPos) → ((x : RegionPos) → list_any (same_region x) rs ≡ true → list_any (same_region x) r.regions ≡ true) → AllByRecursion (λ x. list_any (same_region x) r.regions ≡ true) rs
  members [] h = tt
  members (x ∷ xs) h =
      (h x (ap (λ b. b || list_any (same_region x) xs) (same_region-refl x)), members xs (λ y e. h y (ap (λ b. same_region y x || b) e ∙ or-true (same_region y x))))

  files_from : (rs : List RegionPos) → AllByRecursion (λ x. list_any (same_region x) r.regions ≡ true) rs → map (file_layout sources v r l n) rs ≡ map (file_layout sources v s m n) rs
  files_from [] h = refl
  files_from (x ∷ xs) h = let first = file_same x h.0 in let rest = files_from xs h.1 in λ i. first i ∷ rest i

  large_from : (rs : List RegionPos) → AllByRecursion (λ x. list_any (same_region x) r.regions ≡ true) rs → too_large_in sources v r l n rs ≡ too_large_in sources v s m n rs
  large_from [] h = refl
  large_from (x ∷ xs) h = let first = large_same x h.0 in let rest = large_from xs h.1 in λ i. first_or (first i) (rest i)

  found_all : AllByRecursion (λ x. list_any (same_region x) r.regions ≡ true) r.regions
  found_all = members r.regions (λ x e. e)

  pub same_layout : layout t v r l n ≡ layout t v s m n
  same_layout = files_from r.regions found_all ∙ ap (map (file_layout sources v s m n)) same.regions

  pub same_too_large : too_large t v r l n ≡ too_large t v s m n
  same_too_large = large_from r.regions found_all ∙ ap (too_large_in sources v s m n) same.regions
