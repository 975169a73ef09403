-- Blocks that give light, in lists of them.
use Rattle.std.proofs.Common.{◌≡◌, ℕ, ℤ, pos, negsuc, ◌<◌, ◌*◌, ◌+ℤ◌, ◌-ℤ◌, ◌*ℤ◌, ◌≤ℤ◌, ◌<ℤ◌, List, get_or, Some, refl, sym, ap, ◌∙◌, subst, arith}
use Rattle.std.specs.Prelude.{Contains}
use Rattle.av_pack.specs.Packing.{packed_at, unpacked}
use Rattle.av_pack.proofs.Laws.{get_or-unpacked}
use Rattle.std.proofs.lemmas.Int.{ints}
use Rattle.av_types.specs.Division.{divided}
use Rattle.av_types.specs.Positions.{chunk_of, section_of, place_of, block_at}
use Rattle.av_types.specs.declared.position.Pos.{Pos}
use Rattle.av_types.specs.declared.position.ChunkPos.{ChunkPos}
use Rattle.av_types.specs.declared.position.SectionPos.{SectionPos}
use Rattle.av_types.specs.declared.position.Height.{Height}
use Rattle.av_types.proofs.Coordinates.{block_back}
use Rattle.av_document.proofs.Positions.{place_of-lt}
use Rattle.av_section.specs.declared.section.Section.{Section}
use Rattle.av_section.specs.Section.{number_at}
use Rattle.av_rules.specs.declared.kinds.Kinds.{Kinds}
use Rattle.av_rules.specs.Kinds.{row_at}
use Rattle.av_cells.specs.Grid.{Grid, cells_of}
use Rattle.av_flood.specs.Blocks.{IsNear, MayBeLoaded}
use Rattle.av_section_light.specs.Light.{terrain_of}
use Rattle.av_section_light.specs.Sections.{filling_of}
use Rattle.av_section_light.specs.Lamps.{IsNearSection, section_at}
use Rattle.av_section_light.proofs.Reading.{number_here}

-- a section of the height in a chunk near the origin
pub near_section : (c : ChunkPos) (h : Height) (n : ℕ) → n < h.sections → MayBeLoaded c → (s : SectionPos) → s ≡ section_at c h n → IsNearSection s
near_section c h n less near s e =
    let i = h.lowest in let j = h.highest in
    subst IsNearSection (sym e) (record { west = near.west; east = near.east; low = omega (arith, ints); high = omega (arith, ints); north = near.north; south = near.south })

-- what a section's list has, said of blocks
pub lit_here : (k : Kinds) (g : Grid) (s : SectionPos) (found : Section) (lamps : List Pos) → Some (filling_of found) ≡ g s
    → ((i : ℕ) → i < 4096 → 0 < (row_at k (number_at found i)).emission → Contains lamps (block_at s i))
    → (p : Pos) → section_of p ≡ s → 0 < (terrain_of k (cells_of g)).emission p → Contains lamps p
lit_here k g s found lamps here all p at shines =
    subst (Contains lamps) (ap (λ t. block_at t (place_of p)) (sym at) ∙ block_back p)
    (all (place_of p) (place_of-lt p) (subst (λ n. 0 < (row_at k n).emission) (number_here k g p s found (sym at) here) shines))

-- the sections of a height
record IsQuotient (x q : ℤ) : Type 0 where
  low : (pos 16 *ℤ q) ≤ℤ x
  high : x <ℤ (pos 16 *ℤ q +ℤ pos 16)

quotient : (x : ℤ) → IsQuotient x (divided x 16)
quotient (pos n) = record { low = omega (arith, ints); high = omega (arith, ints) }
quotient (negsuc n) = record { low = omega (arith, ints); high = omega (arith, ints) }

record IsLayer (h : Height) (y : ℤ) : Type 0 where
  number : ℕ
  less : number < h.sections
  is : divided y 16 ≡ h.min_section +ℤ pos number

layer_of : (h : Height) (y : ℤ) → (pos 16 *ℤ h.min_section) ≤ℤ y → y <ℤ (pos 16 *ℤ h.min_section +ℤ pos (16 * h.sections)) → IsLayer h y
layer_of h y low high = on (divided y 16 -ℤ h.min_section) refl where
  on : (d : ℤ) → divided y 16 -ℤ h.min_section ≡ d → IsLayer h y
  on (pos n) e = let q = quotient y in let l = q.low in let u = q.high in record { number = n; less = omega (arith, ints); is = omega (arith, ints) }
  on (negsuc n) e = let q = quotient y in let l = q.low in let u = q.high in absurd (omega (arith, ints))

-- a loaded block of a chunk lies in one of its sections
pub in_layer : (c : ChunkPos) (h : Height) (p : Pos) (P : Type 0) → chunk_of p ≡ c → IsNear h p → ((n : ℕ) → n < h.sections → section_of p ≡ section_at c h n → P) → P
in_layer c h p P e near all =
    let layer = layer_of h p.y near.low near.high in
    all layer.number layer.less (λ i. record { x = (e i).x; y = layer.is i; z = (e i).z })

-- an index read from the unpacked ones
pub unpacked_index : (b : ℕ) (longs : List ℤ) (indices : List ℕ) (place from index i d : ℕ) → place < 4096 → indices ≡ unpacked b longs → from ≡ place → index ≡ get_or indices from d → i ≡ index → i ≡ packed_at b longs place
unpacked_index b longs indices place from index i d less all is read same =
    same ∙ read ∙ ap (λ xs. get_or xs from d) all ∙ ap (λ n. get_or (unpacked b longs) n d) is ∙ get_or-unpacked b longs place d less
