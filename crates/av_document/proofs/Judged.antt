-- Sections judged one after the other, and all at once.
use Rattle.std.proofs.Common.{◌≡◌, List, [], ◌∷◌, ℤ, Bool, true, false, ◌||◌, if◌then◌else◌, Option, Some, None, refl, ap, sym, ◌∙◌, Decides}
use Rattle.std.specs.Prelude.{is_some}
use Rattle.std.specs.List.{list_any}
use Rattle.std.specs.Ordering.{int_eq}
use Rattle.std.proofs.lemmas.Bool.Decides.{Decides-int_eq}
use Rattle.av_types.specs.declared.position.Height.{Height}
use Rattle.av_tags.specs.Nbt.{NamedTag}
use Rattle.av_document.specs.Chunk.{section_number, numbered, is_number, is_bad_numbered, is_bad_section, is_numbered_in, share_a_number, is_bad_list}
use Rattle.av_document.specs.Working.{is_bad_at, with_number, are_bad_sections}

-- a number is among those of before
abbrev was_before : List ℤ → Option ℤ → Bool
was_before before None = false
was_before before (Some y) = list_any (int_eq y) before

abbrev were_before : List ℤ → List (List NamedTag) → Bool
were_before before [] = false
were_before before (ms ∷ rows) = was_before before (section_number ms) || were_before before rows

same_test : (a b : Bool) (y z : ℤ) → Decides a (y ≡ z) → Decides b (z ≡ y) → a ≡ b
same_test true b y z p q = sym (q.1 (sym (p.0 refl)))
same_test false true y z p q = p.1 (sym (q.0 refl))
same_test false false y z p q = refl

int_eq-sym : (y z : ℤ) → int_eq y z ≡ int_eq z y
int_eq-sym y z = same_test (int_eq y z) (int_eq z y) y z (Decides-int_eq y z) (Decides-int_eq z y)

some_if : (b : Bool) (ms : List NamedTag) (o : Option (List NamedTag)) → is_some (if b then Some ms else o) ≡ (b || is_some o)
some_if true ms o = refl
some_if false ms o = refl

split_in_two : (b m n k : Bool) → ((b || m) || (n || k)) ≡ ((b || n) || (m || k))
split_in_two true m n k = refl
split_in_two false true true k = refl
split_in_two false true false k = refl
split_in_two false false n k = refl

-- one more number before, which the rows may have
one_more_before : (z : ℤ) (before : List ℤ) (rows : List (List NamedTag)) → were_before (z ∷ before) rows ≡ (is_some (numbered z rows) || were_before before rows)
one_more_before z before [] = refl
one_more_before z before (ms ∷ rows) = by (section_number ms) (one_more_before z before rows) where
  by : (n : Option ℤ) → were_before (z ∷ before) rows ≡ (is_some (numbered z rows) || were_before before rows)
      → (was_before (z ∷ before) n || were_before (z ∷ before) rows) ≡ (is_some (if is_number z n then Some ms else numbered z rows) || (was_before before n || were_before before rows))
  by None e = e
  by (Some y) e =
      ap (λ b. (int_eq y z || list_any (int_eq y) before) || b) e
      ∙ split_in_two (int_eq y z) (list_any (int_eq y) before) (is_some (numbered z rows)) (were_before before rows)
      ∙ ap (λ b. (b || is_some (numbered z rows)) || (list_any (int_eq y) before || were_before before rows)) (int_eq-sym y z)
      ∙ ap (λ b. b || (list_any (int_eq y) before || were_before before rows)) (sym (some_if (int_eq z y) ms (numbered z rows)))

none_before : (rows : List (List NamedTag)) → were_before [] rows ≡ false
none_before [] = refl
none_before (ms ∷ rows) = by (section_number ms) (none_before rows) where
  by : (n : Option ℤ) → were_before [] rows ≡ false → (was_before [] n || were_before [] rows) ≡ false
  by None e = e
  by (Some y) e = e

regrouped : (m o l n k s : Bool) → ((m || o) || (l || ((n || k) || s))) ≡ ((o || l) || ((m || k) || (n || s)))
regrouped true true l n k s = refl
regrouped true false true n k s = refl
regrouped true false false n k s = refl
regrouped false true l n k s = refl
regrouped false false true n k s = refl
regrouped false false false true true s = refl
regrouped false false false true false s = refl
regrouped false false false false k s = refl

judged_after : (h : Height) (before : List ℤ) (rows : List (List NamedTag)) → are_bad_sections h before rows ≡ (list_any (is_bad_section h) rows || (were_before before rows || share_a_number rows))
judged_after h before [] = refl
judged_after h before (ms ∷ rows) = by (section_number ms) (judged_after h (with_number before (section_number ms)) rows) where
  by : (n : Option ℤ) → are_bad_sections h (with_number before n) rows ≡ (list_any (is_bad_section h) rows || (were_before (with_number before n) rows || share_a_number rows))
      → (is_bad_at h before ms n || are_bad_sections h (with_number before n) rows)
      ≡ ((is_bad_numbered h ms n || list_any (is_bad_section h) rows) || ((was_before before n || were_before before rows) || (is_numbered_in rows n || share_a_number rows)))
  by None e = refl
  by (Some y) e =
      let more = e ∙ ap (λ b. list_any (is_bad_section h) rows || (b || share_a_number rows)) (one_more_before y before rows) in
      ap (λ b. is_bad_at h before ms (Some y) || b) more
      ∙ regrouped (list_any (int_eq y) before) (is_bad_numbered h ms (Some y)) (list_any (is_bad_section h) rows) (is_some (numbered y rows)) (were_before before rows) (share_a_number rows)

-- some section is bad by itself, or two have the same number, exactly where one is refused in its turn
pub judged : (h : Height) (rows : List (List NamedTag)) → is_bad_list h (Some rows) ≡ are_bad_sections h [] rows
judged h rows = sym (judged_after h [] rows ∙ ap (λ b. list_any (is_bad_section h) rows || (b || share_a_number rows)) (none_before rows))
