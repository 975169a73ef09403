-- The words of a line.
use Rattle.std.proofs.Common.{◌≡◌, ◌∙◌, ap, ap₂, sym, ℕ, Bool, true, false, List, [], ◌∷◌, ◌++◌, Bor, Option, Some, None, cond, option_map}
use Rattle.std.specs.List.{slice_get}
use Rattle.std.specs.Option.{option_copied}
use Rattle.std.specs.Slice.{IsItemAt}
use Rattle.std.proofs.lemmas.Option.{slice_get_past, slice_get-get_or, slice_get-map}
use Rattle.std.specs.Prelude.{filter}
use Rattle.std.proofs.lemmas.List.{append-nil, map-append}
use Rattle.std.proofs.lemmas.List.Elements.{filter-append}
use Rattle.av_folders.specs.Locks.{is_filled, texts}

text : Bor (List ℕ) → List ℕ
text w = w.now

-- the words of parts and of one more
words_more : (before : List (Bor (List ℕ))) (part : Bor (List ℕ))
    → filter is_filled (texts (before ++ part ∷ [])) ≡ filter is_filled (texts before) ++ filter is_filled (part.now ∷ [])
unfolding text
words_more before part = ap (filter is_filled) (map-append text before (part ∷ [])) ∙ filter-append is_filled (texts before) (part.now ∷ [])

-- a part that is a word, and one that is empty
pub word_more : (words before : List (Bor (List ℕ))) (part : Bor (List ℕ)) → is_filled part.now ≡ true
    → texts words ≡ filter is_filled (texts before) → texts (words ++ part ∷ []) ≡ filter is_filled (texts (before ++ part ∷ []))
unfolding text
word_more words before part is so_far =
    map-append text words (part ∷ [])
    ∙ (ap₂ (λ (a b : List (List ℕ)). a ++ b) so_far (sym (ap (λ (b : Bool). cond b (part.now ∷ []) []) is)) ∙ sym (words_more before part))

pub none_more : (words : List (List ℕ)) (before : List (Bor (List ℕ))) (part : Bor (List ℕ)) → is_filled part.now ≡ false
    → words ≡ filter is_filled (texts before) → words ≡ filter is_filled (texts (before ++ part ∷ []))
none_more words before part is so_far =
    so_far ∙ sym (words_more before part ∙ (ap (λ (b : Bool). filter is_filled (texts before) ++ cond b (part.now ∷ []) []) is ∙ append-nil (filter is_filled (texts before))))

-- an item that is got
item : (xs : List (Bor (List ℕ))) (i : ℕ) (r : Option (Bor (Bor (List ℕ)))) → IsItemAt xs i r → option_copied r ≡ slice_get xs i
item xs i None is = sym (slice_get_past xs i is.3)
item xs i (Some x) is = ap Some is.1 ∙ sym (slice_get-get_or xs i x.now is.3.0)

pub word_at : (xs : List (Bor (List ℕ))) (i : ℕ) (r : Option (Bor (Bor (List ℕ)))) (o : Option (Bor (List ℕ))) → IsItemAt xs i r → o ≡ option_copied r
    → option_map (λ x. x.now) o ≡ slice_get (texts xs) i
word_at xs i r o is copied = ap (option_map (λ (x : Bor (List ℕ)). x.now)) (copied ∙ item xs i r is) ∙ sym (slice_get-map (λ (x : Bor (List ℕ)). x.now) xs i)
