-- What a state is hashed as: its texts, one after the other.
use Rattle.std.specs.Prelude.{◌≡◌, ℕ, List, [], ◌∷◌, ◌++◌, Bool, true, ◌&&◌}
use Rattle.std.specs.Cmp.Lexicographic.{pointwise}
use Rattle.std.specs.Str.{bytes_eq}
use Rattle.std.proofs.Common.{ap, ◌∙◌, refl}
use Rattle.std.proofs.lemmas.Bool.{and_parts, false≢true}
use Rattle.std.proofs.lemmas.Slice.Eq.{bytes_eq-Decides}
use Rattle.av_state.specs.declared.state.Property.{Property}
use Rattle.av_state.specs.declared.text.PropertyText.{PropertyText}

abbrev pub property_texts : Property → List (List ℕ)
property_texts p = p.key.items ∷ p.value.items ∷ []

abbrev pub properties_texts : List Property → List (List ℕ)
properties_texts [] = []
properties_texts (p ∷ ps) = property_texts p ++ properties_texts ps

abbrev pub equal_properties : Property → Property → Bool
equal_properties p q = bytes_eq p.key.items q.key.items && bytes_eq p.value.items q.value.items

-- equal properties are hashed alike
pub property_texts-equal : (p q : Property) → equal_properties p q ≡ true → property_texts p ≡ property_texts q
property_texts-equal p q h =
    let (k, v) = and_parts (bytes_eq p.key.items q.key.items) (bytes_eq p.value.items q.value.items) h in
    ap (λ t. t ∷ p.value.items ∷ []) ((bytes_eq-Decides p.key.items q.key.items).0 k) ∙ ap (λ t. q.key.items ∷ t ∷ []) ((bytes_eq-Decides p.value.items q.value.items).0 v)

pub properties_texts-equal : (ps qs : List Property) → pointwise equal_properties ps qs ≡ true → properties_texts ps ≡ properties_texts qs
properties_texts-equal [] [] h = refl
properties_texts-equal [] (q ∷ qs) h = absurd (false≢true h)
properties_texts-equal (p ∷ ps) [] h = absurd (false≢true h)
properties_texts-equal (p ∷ ps) (q ∷ qs) h =
    let (here, more) = and_parts (equal_properties p q) (pointwise equal_properties ps qs) h in
    ap (λ t. t ++ properties_texts ps) (property_texts-equal p q here) ∙ ap (λ t. property_texts q ++ t) (properties_texts-equal ps qs more)

-- so are equal states
pub state_texts-equal : (n m : List ℕ) (ps qs : List Property) → (bytes_eq n m && pointwise equal_properties ps qs) ≡ true → n ∷ properties_texts ps ≡ m ∷ properties_texts qs
state_texts-equal n m ps qs h =
    let (here, more) = and_parts (bytes_eq n m) (pointwise equal_properties ps qs) h in
    ap (λ t. t ∷ properties_texts ps) ((bytes_eq-Decides n m).0 here) ∙ ap (λ t. m ∷ t) (properties_texts-equal ps qs more)

-- ---- texts that stand elsewhere

-- two texts that are equal each
both-equal : (k v l w : List ℕ) → (bytes_eq k l && bytes_eq v w) ≡ true → k ∷ v ∷ [] ≡ l ∷ w ∷ []
both-equal k v l w h =
    let (first, second) = and_parts (bytes_eq k l) (bytes_eq v w) h in
    ap (λ t. t ∷ v ∷ []) ((bytes_eq-Decides k l).0 first) ∙ ap (λ t. l ∷ t ∷ []) ((bytes_eq-Decides v w).0 second)

abbrev pub told_texts : PropertyText → List (List ℕ)
told_texts p = p.key.now ∷ p.value.now ∷ []

abbrev pub all_told_texts : List PropertyText → List (List ℕ)
all_told_texts [] = []
all_told_texts (p ∷ ps) = told_texts p ++ all_told_texts ps

abbrev pub same_told : PropertyText → PropertyText → Bool
same_told p q = bytes_eq p.key.now q.key.now && bytes_eq p.value.now q.value.now

pub told_texts-equal : (p q : PropertyText) → same_told p q ≡ true → told_texts p ≡ told_texts q
told_texts-equal p q h = both-equal p.key.now p.value.now q.key.now q.value.now h

all_told_texts-equal : (ps qs : List PropertyText) → pointwise same_told ps qs ≡ true → all_told_texts ps ≡ all_told_texts qs
all_told_texts-equal [] [] h = refl
all_told_texts-equal [] (q ∷ qs) h = absurd (false≢true h)
all_told_texts-equal (p ∷ ps) [] h = absurd (false≢true h)
all_told_texts-equal (p ∷ ps) (q ∷ qs) h =
    let (here, more) = and_parts (same_told p q) (pointwise same_told ps qs) h in
    ap (λ t. t ++ all_told_texts ps) (told_texts-equal p q here) ∙ ap (λ t. told_texts q ++ t) (all_told_texts-equal ps qs more)

pub told_state-equal : (n m : List ℕ) (ps qs : List PropertyText) → (bytes_eq n m && pointwise same_told ps qs) ≡ true → n ∷ all_told_texts ps ≡ m ∷ all_told_texts qs
told_state-equal n m ps qs h =
    let (here, more) = and_parts (bytes_eq n m) (pointwise same_told ps qs) h in
    ap (λ t. t ∷ all_told_texts ps) ((bytes_eq-Decides n m).0 here) ∙ ap (λ t. m ∷ t) (all_told_texts-equal ps qs more)
