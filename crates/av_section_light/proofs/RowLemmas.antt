-- What the rows of states say of light.
use Rattle.std.proofs.Common.{◌≡◌, ℕ, ◌<◌, ◌≤◌, List, [], ◌∷◌, ◌++◌, Bool, false, length, get_or, sym, ap, ◌∙◌}
use Rattle.std.specs.Prelude.{ℤ}
use Rattle.std.proofs.Math.ListN.{get_or-eq_default}
use Rattle.std.proofs.lemmas.List.{get_or_append_left, get_or_push}
use Rattle.av_rules.specs.declared.kinds.Kinds.{Kinds}
use Rattle.av_rules.specs.Kinds.{kind_count, rows_in, row_at}
use Rattle.av_rules.specs.Rows.{shut_row}
use Rattle.av_pack.specs.Packing.{packed_at}
use Rattle.av_section.specs.declared.section.Section.{Section}
use Rattle.av_section.specs.Section.{number_at, AreParts}

-- a number that is none is shut
pub shut_emission : (k : Kinds) (n : ℕ) → kind_count k ≤ n → 0 ≡ (row_at k n).emission
shut_emission k n past = sym (ap (λ r. r.emission) (get_or-eq_default (rows_in k) shut_row past))

pub shut_opacity : (k : Kinds) (n : ℕ) → kind_count k ≤ n → 15 ≡ (row_at k n).opacity
shut_opacity k n past = sym (ap (λ r. r.opacity) (get_or-eq_default (rows_in k) shut_row past))

-- where no number of the palette gives light, no place does
pub palette_dark : (k : Kinds) (s : Section) (palette : List ℕ) (longs : List ℤ) (bits : ℕ) → AreParts s palette longs bits
    → ((j : ℕ) → j < length palette → (row_at k (get_or palette j 0)).emission ≡ 0) → (i : ℕ) → i < 4096 → (row_at k (number_at s i)).emission ≡ 0
palette_dark k s palette longs bits parts dark i less =
    ap (λ n. (row_at k n).emission) (parts.numbers i less) ∙ dark (packed_at bits longs i) (parts.packed.below i less)

-- a flag pushed behind others
pub flag_before : (flags new : List Bool) (b : Bool) (i : ℕ) → new ≡ flags ++ b ∷ [] → i < length flags → get_or new i false ≡ get_or flags i false
flag_before flags new b i e less = ap (λ xs. get_or xs i false) e ∙ get_or_append_left flags (b ∷ []) false i less

pub flag_pushed : (flags new : List Bool) (b : Bool) (i : ℕ) → new ≡ flags ++ b ∷ [] → length flags ≡ i → get_or new i false ≡ b
flag_pushed flags new b i e is = ap (λ xs. get_or xs i false) e ∙ get_or_push flags b false i is
