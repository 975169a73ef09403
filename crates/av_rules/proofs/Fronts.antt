-- Reading a list from the front: what was read stands before what the rest gives.
use Rattle.std.proofs.Common.{◌≡◌, ℕ, ◌+◌, ◌<◌, List, [], ◌∷◌, ◌++◌, map, length, drop, get_or, Option, Some, None, option_map, String, Global, string_bytes, refl, ap, ◌∙◌, sym, append-nil}
use Rattle.std.proofs.lemmas.List.{append_assoc, map-append}
use Rattle.std.proofs.lemmas.Option.{none-some}
use Rattle.toml.specs.Data.{as_str, as_table}
use Rattle.toml.specs.View.{view, members_view, items_view}
use Rattle.toml.specs.declared.value.Value.{Value}
use Rattle.toml.proofs.Views.{items_view-drop}
use Rattle.av_state.specs.BlockState.{Property}
use Rattle.av_state.specs.Views.{property_of, properties_of}
use Rattle.av_state.specs.declared.state.Property.{Property as PropertyValue}
use Rattle.av_rules.specs.declared.document.Version.{Version}
use Rattle.av_rules.specs.declared.row.TableRow.{TableRow as TableRowValue}
use Rattle.av_types.specs.Options.{◌>>=◌}
use Rattle.av_rules.specs.Document.{texts_of, table_row_in, table_rows_in}
use Rattle.av_rules.specs.Rows.{TableRow}
use Rattle.av_rules.specs.Views.{table_row_of, table_rows_of}

abbrev pub with_front : {A : Type 0} → List A → Option (List A) → Option (List A)
with_front xs o = option_map (λ more. xs ++ more) o

-- one more in front of the rest
abbrev pub with_head : {A : Type 0} → A → Option (List A) → Option (List A)
with_head x o = o >>= (λ more. Some (x ∷ more))

with_front-head : {A : Type 0} (xs : List A) (x : A) (o : Option (List A)) → with_front (xs ++ x ∷ []) o ≡ with_front xs (with_head x o)
with_front-head xs x None = refl
with_front-head xs x (Some more) = ap Some (append_assoc xs (x ∷ []) more)

with_front-nil : {A : Type 0} (xs : List A) → with_front xs (Some []) ≡ Some xs
with_front-nil xs = ap Some (append-nil xs)

-- one more was read
front_more : {A B : Type 0} (v : A → B) (xs : List A) (x : A) (o rest all : Option (List B)) → o ≡ with_head (v x) rest → with_front (map v xs) o ≡ all → with_front (map v (xs ++ x ∷ [])) rest ≡ all
front_more v xs x o rest all e h =
    ap (λ l. with_front l rest) (map-append v xs (x ∷ [])) ∙ with_front-head (map v xs) (v x) rest ∙ ap (with_front (map v xs)) (sym e) ∙ h

-- a step of a chain that gave something, and one that gave nothing
bind_some : {A B C : Type 0} (o : Option A) (f : A → Option B) (g : B → Option C) (b : B) → (o >>= f) ≡ Some b → (o >>= (λ a. f a >>= g)) ≡ g b
bind_some None f g b h = absurd (none-some b h)
bind_some (Some a) f g b h = ap (λ p. p >>= g) h

bind_none : {A B C : Type 0} (o : Option A) (f : A → Option B) (g : B → Option C) → (o >>= f) ≡ None → (o >>= (λ a. f a >>= g)) ≡ None
bind_none None f g h = refl
bind_none (Some a) f g h = ap (λ p. p >>= g) h

-- ---- a table of texts

pub texts_more : (ps : List PropertyValue) (p : PropertyValue) (left more : List (String Global × Value)) (k : String Global) (v : Value) (key text : List ℕ) (all : Option (List Property)) → left ≡ (k, v) ∷ more
    → key ≡ string_bytes k → as_str (view v) ≡ Some text → property_of p ≡ record { key = key; value = text }
    → with_front (properties_of ps) (texts_of (members_view left)) ≡ all → with_front (properties_of (ps ++ p ∷ [])) (texts_of (members_view more)) ≡ all
texts_more ps p left more k v key text all e ek et ep h =
    let rest = texts_of (members_view more) in
    let here : property_of p ≡ record { key = string_bytes k; value = text } = ep ∙ (λ i. record { key = ek i; value = text }) in
    let step : texts_of (members_view left) ≡ with_head (property_of p) rest =
    ap (λ l. texts_of (members_view l)) e ∙ ap (λ o. o >>= (λ t. rest >>= (λ r. Some (record { key = string_bytes k; value = t } ∷ r)))) et ∙ ap (λ q. with_head q rest) (sym here) in
    front_more property_of ps p (texts_of (members_view left)) rest all step h

-- ---- rows

pub rows_more : (version : Version) (rows : List TableRowValue) (row : TableRowValue) (vs : List Value) (i : ℕ) (v : Value) (all : Option (List TableRow)) → i < length vs → v ≡ get_or vs i v
    → (as_table (view v) >>= table_row_in version) ≡ Some (table_row_of row)
    → with_front (table_rows_of rows) (table_rows_in version (items_view (drop i vs))) ≡ all → with_front (table_rows_of (rows ++ row ∷ [])) (table_rows_in version (items_view (drop (i + 1) vs))) ≡ all
unfolding table_rows_in
rows_more version rows row vs i v all lt e er h =
    let rest = table_rows_in version (items_view (drop (i + 1) vs)) in
    let step : table_rows_in version (items_view (drop i vs)) ≡ with_head (table_row_of row) rest =
    ap (table_rows_in version) (items_view-drop vs i v lt) ∙ ap (λ w. as_table (view w) >>= (λ ms. table_row_in version ms >>= (λ r. with_head r rest))) (sym e)
    ∙ bind_some (as_table (view v)) (table_row_in version) (λ r. with_head r rest) (table_row_of row) er in
    front_more table_row_of rows row (table_rows_in version (items_view (drop i vs))) rest all step h

pub rows_stop : (version : Version) (rows : List TableRowValue) (vs : List Value) (i : ℕ) (v : Value) (all : Option (List TableRow)) → i < length vs → v ≡ get_or vs i v
    → (as_table (view v) >>= table_row_in version) ≡ None
    → with_front (table_rows_of rows) (table_rows_in version (items_view (drop i vs))) ≡ all → all ≡ None
unfolding table_rows_in
rows_stop version rows vs i v all lt e er h =
    let rest = table_rows_in version (items_view (drop (i + 1) vs)) in
    let step : table_rows_in version (items_view (drop i vs)) ≡ None =
    ap (table_rows_in version) (items_view-drop vs i v lt) ∙ ap (λ w. as_table (view w) >>= (λ ms. table_row_in version ms >>= (λ r. with_head r rest))) (sym e)
    ∙ bind_none (as_table (view v)) (table_row_in version) (λ r. with_head r rest) er in
    sym h ∙ ap (with_front (table_rows_of rows)) step

pub rows_end : (version : Version) (rows : List TableRowValue) (vs : List Value) (i : ℕ) (all : Option (List TableRow)) → drop i vs ≡ []
    → with_front (table_rows_of rows) (table_rows_in version (items_view (drop i vs))) ≡ all → all ≡ Some (table_rows_of rows)
unfolding table_rows_in
rows_end version rows vs i all e h =
    sym h ∙ ap (λ l. with_front (table_rows_of rows) (table_rows_in version (items_view l))) e ∙ with_front-nil (table_rows_of rows)
