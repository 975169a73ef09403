-- The block table that a TOML document spells. What the TOML reader answers for a document decides.
use Rattle.std.specs.Prelude.{ℕ, ℤ, pos, negsuc, ◌+ℤ◌, int_le, List, [], ◌∷◌, ◌++◌, Bool, true, false, ◌&&◌, ◌||◌, ◌==◌, if◌then◌else◌, Option, Some, None, nat_lt, codes}
use Rattle.std.specs.List.{list_any}
use Rattle.std.specs.Str.{bytes_eq}
use Rattle.toml.specs.Data.{Data, Items, no_items, item, Members, no_members, member, get_member, as_str, as_integer, as_bool, as_array, as_table}
use Rattle.toml.specs.Parse.{parse_document}
use Rattle.av_types.specs.Options.{◌>>=◌}
use Rattle.av_state.specs.BlockState.{Property, air_name, water_name}
use Rattle.av_rules.specs.declared.document.Version.{Version}
use Rattle.av_rules.specs.declared.document.Version.TheVariants.{One, Two, Three}
use Rattle.av_rules.specs.declared.row.Row.{Row}
use Rattle.av_rules.specs.Rows.{TableRow, BlockTable}

-- ---- what stands at a key

abbrev pub text_at : List ℕ → Members → Option (List ℕ)
text_at key ms = get_member key ms >>= as_str

abbrev pub flag_at : List ℕ → Members → Option Bool
flag_at key ms = get_member key ms >>= as_bool

abbrev pub whole_at : List ℕ → Members → Option ℤ
whole_at key ms = get_member key ms >>= as_integer

-- 0 to 15
abbrev pub half_byte : ℤ → Option ℕ
half_byte (pos n) = if nat_lt n 16 then Some n else None
half_byte (negsuc n) = None

abbrev pub level_at : List ℕ → Members → Option ℕ
level_at key ms = whole_at key ms >>= half_byte

-- an absent one is false
abbrev pub flag_or_false : Option Data → Option Bool
flag_or_false None = Some false
flag_or_false (Some d) = as_bool d

-- a table of texts
abbrev pub texts_of : Members → Option (List Property)
texts_of no_members = Some []
texts_of (member k d ms) = as_str d >>= (λ text. texts_of ms >>= (λ more. Some (record { key = k; value = text } ∷ more)))

-- absent ones are none
abbrev pub properties_or_none : Option Data → Option (List Property)
properties_or_none None = Some []
properties_or_none (Some d) = as_table d >>= texts_of

abbrev pub is_among : List ℕ → List (List ℕ) → Bool
is_among k keys = list_any (λ known. bytes_eq known k) keys

-- each key is one of these
abbrev pub has_only : List (List ℕ) → Members → Bool
has_only keys no_members = true
has_only keys (member k d ms) = is_among k keys && has_only keys ms

-- ---- versions

abbrev pub version_of : ℤ → Option Version
version_of (pos n) = if n == 1 then Some One else if n == 2 then Some Two else if n == 3 then Some Three else None
version_of (negsuc n) = None

-- from version 2 on states may be soaked
abbrev pub soaks_in : Version → Bool
soaks_in One = false
soaks_in Two = true
soaks_in Three = true

abbrev pub document_keys : Version → List (List ℕ)
document_keys One = codes "version" ∷ codes "block" ∷ []
document_keys Two = codes "version" ∷ codes "block" ∷ []
document_keys Three = codes "version" ∷ codes "block" ∷ codes "min_section" ∷ codes "sections" ∷ []

abbrev pub plain_row_keys : List (List ℕ)
plain_row_keys = codes "name" ∷ codes "open" ∷ codes "floor" ∷ codes "opacity" ∷ codes "emission" ∷ codes "properties" ∷ []

abbrev pub row_keys : Version → List (List ℕ)
row_keys One = plain_row_keys
row_keys Two = plain_row_keys ++ codes "wet" ∷ []
row_keys Three = plain_row_keys ++ codes "wet" ∷ []

-- ---- rows

-- air and water have no row
abbrev pub is_built_in : List ℕ → Bool
is_built_in name = bytes_eq name air_name || bytes_eq name water_name

-- what a row says of its states
unfoldable pub row_in : Members → Option Row
row_in ms =
    flag_at (codes "open") ms >>= (λ opens.
    flag_at (codes "floor") ms >>= (λ floor.
    level_at (codes "opacity") ms >>= (λ opacity.
    level_at (codes "emission") ms >>= (λ emission.
    flag_or_false (get_member (codes "wet") ms) >>= (λ wet.
    Some (record { opens = opens; floor = floor; opacity = opacity; emission = emission; wet = wet }))))))

unfoldable pub name_in : Members → Option (List ℕ)
name_in ms = text_at (codes "name") ms >>= (λ name. if is_built_in name then None else Some name)

unfoldable pub table_row_in : Version → Members → Option TableRow
table_row_in version ms =
    if has_only (row_keys version) ms then
    name_in ms >>= (λ name.
    properties_or_none (get_member (codes "properties") ms) >>= (λ properties.
    row_in ms >>= (λ row.
    Some (record { name = name; properties = properties; row = row }))))
    else None

unfoldable pub table_rows_in : Version → Items → Option (List TableRow)
table_rows_in version no_items = Some []
table_rows_in version (item d ds) =
    as_table d >>= (λ ms. table_row_in version ms >>= (λ row. table_rows_in version ds >>= (λ more. Some (row ∷ more))))

abbrev pub blocks_or_none : Version → Option Data → Option (List TableRow)
blocks_or_none version None = Some []
blocks_or_none version (Some d) = as_array d >>= table_rows_in version

-- ---- the height

-- the lowest section, and how many there are
pub record Span : Type 0 where
  pub min_section : ℤ
  pub sections : ℕ

-- sections -64 to 63 at most
abbrev pub is_span : ℤ → ℤ → Bool
is_span low count = int_le (negsuc 63) low && int_le (pos 1) count && int_le count (pos 64) && int_le (low +ℤ count) (pos 64)

abbrev pub magnitude : ℤ → ℕ
magnitude (pos n) = n
magnitude (negsuc n) = 0

abbrev pub span_of : ℤ → ℤ → Option Span
span_of low count = if is_span low count then Some (record { min_section = low; sections = magnitude count }) else None

abbrev pub game_span : Span
game_span = record { min_section = negsuc 3; sections = 24 }

unfoldable pub span_in : Version → Members → Option Span
span_in One ms = Some game_span
span_in Two ms = Some game_span
span_in Three ms = whole_at (codes "min_section") ms >>= (λ low. whole_at (codes "sections") ms >>= (λ count. span_of low count))

-- ---- the document

unfoldable pub table_in_version : Members → Version → Option BlockTable
table_in_version ms version =
    if has_only (document_keys version) ms then
    span_in version ms >>= (λ span.
    blocks_or_none version (get_member (codes "block") ms) >>= (λ rows.
    Some (record { soaks = soaks_in version; rows = rows; min_section = span.min_section; sections = span.sections })))
    else None

unfoldable pub table_in : Members → Option BlockTable
table_in ms = whole_at (codes "version") ms >>= (λ number. version_of number >>= table_in_version ms)

-- the block table that a text spells
unfoldable pub table_spelled : List ℕ → Option BlockTable
table_spelled text = parse_document text >>= table_in
