-- Tags placed and taken out keep their spelling and their names apart.
use Rattle.std.proofs.Common.{◌≡◌, ◌≢◌, ℕ, ◌<◌, ◌^◌, List, [], ◌∷◌, Bool, true, false, Some, cond, length, refl, sym, ◌∙◌, subst}
use Rattle.std.specs.List.{AllByRecursion}
use Rattle.std.specs.Str.{bytes_eq}
use Rattle.std.proofs.lemmas.Slice.Eq.{bytes_eq-Decides}
use Rattle.std.proofs.lemmas.Bool.{false≢true, true≢false}
use Rattle.std.proofs.lemmas.Option.{none-some, same_Some}
use Rattle.av_tags.specs.Nbt.{Nbt, NamedTag, members_of, LacksMember, HaveDistinctNames}
use Rattle.av_tags.specs.ByName.{tag_of, with_tag, without}
use Rattle.av_nbt.specs.Reading.{has_name, are_distinct}
use Rattle.av_document.proofs.Good.{IsGood, IsGoodNamed, AreGood}

pub differs : (a b : List ℕ) → bytes_eq a b ≡ false → a ≢ b
differs a b e same = true≢false (sym ((bytes_eq-Decides a b).1 same) ∙ e)

-- ---- names

absent_from : (n : List ℕ) (ms : List NamedTag) → has_name n ms ≡ false → LacksMember n (members_of ms)
absent_from n [] e = tt
absent_from n (m ∷ ms) e = by (bytes_eq n m.name) refl e (absent_from n ms) where
  by : (b : Bool) → bytes_eq n m.name ≡ b → cond b true (has_name n ms) ≡ false → (has_name n ms ≡ false → LacksMember n (members_of ms)) → LacksMember n (members_of (m ∷ ms))
  by true f k more = absurd (true≢false k)
  by false f k more = (differs n m.name f, more k)

pub distinct_from : (ms : List NamedTag) → are_distinct ms ≡ true → HaveDistinctNames (members_of ms)
distinct_from [] e = tt
distinct_from (m ∷ ms) e = by (has_name m.name ms) refl e (distinct_from ms) where
  by : (b : Bool) → has_name m.name ms ≡ b → cond b false (are_distinct ms) ≡ true → (are_distinct ms ≡ true → HaveDistinctNames (members_of ms)) → HaveDistinctNames (members_of (m ∷ ms))
  by true f k more = absurd (false≢true k)
  by false f k more = (absent_from m.name ms f, more k)

absent_place : (k n : List ℕ) (t : Nbt) (ms : List NamedTag) → k ≢ n → LacksMember k (members_of ms) → LacksMember k (members_of (with_tag n t ms))
absent_place k n t [] ne h = (ne, tt)
absent_place k n t (m ∷ ms) ne h = by (bytes_eq n m.name) (absent_place k n t ms ne h.1) where
  by : (b : Bool) → LacksMember k (members_of (with_tag n t ms)) → LacksMember k (members_of (cond b (record { name = n; tag = t } ∷ ms) (m ∷ with_tag n t ms)))
  by true more = (ne, h.1)
  by false more = (h.0, more)

distinct_place : (n : List ℕ) (t : Nbt) (ms : List NamedTag) → HaveDistinctNames (members_of ms) → HaveDistinctNames (members_of (with_tag n t ms))
distinct_place n t [] h = (tt, tt)
distinct_place n t (m ∷ ms) h = by (bytes_eq n m.name) refl (distinct_place n t ms h.1) where
  by : (b : Bool) → bytes_eq n m.name ≡ b → HaveDistinctNames (members_of (with_tag n t ms)) → HaveDistinctNames (members_of (cond b (record { name = n; tag = t } ∷ ms) (m ∷ with_tag n t ms)))
  by true e more = let same : m.name ≡ n = sym ((bytes_eq-Decides n m.name).0 e) in (subst (λ k. LacksMember k (members_of ms)) same h.0, h.1)
  by false e more = (absent_place m.name n t ms (λ same. differs n m.name e (sym same)) h.0, more)

pub absent_without : (n : List ℕ) (ms : List NamedTag) → LacksMember n (members_of (without n ms))
absent_without n [] = tt
absent_without n (m ∷ ms) = by (bytes_eq n m.name) refl (absent_without n ms) where
  by : (b : Bool) → bytes_eq n m.name ≡ b → LacksMember n (members_of (without n ms)) → LacksMember n (members_of (cond b (without n ms) (m ∷ without n ms)))
  by true e more = more
  by false e more = (differs n m.name e, more)

pub absent_kept : (k n : List ℕ) (ms : List NamedTag) → LacksMember k (members_of ms) → LacksMember k (members_of (without n ms))
absent_kept k n [] h = tt
absent_kept k n (m ∷ ms) h = by (bytes_eq n m.name) (absent_kept k n ms h.1) where
  by : (b : Bool) → LacksMember k (members_of (without n ms)) → LacksMember k (members_of (cond b (without n ms) (m ∷ without n ms)))
  by true more = more
  by false more = (h.0, more)

distinct_without : (n : List ℕ) (ms : List NamedTag) → HaveDistinctNames (members_of ms) → HaveDistinctNames (members_of (without n ms))
distinct_without n [] h = tt
distinct_without n (m ∷ ms) h = by (bytes_eq n m.name) (distinct_without n ms h.1) where
  by : (b : Bool) → HaveDistinctNames (members_of (without n ms)) → HaveDistinctNames (members_of (cond b (without n ms) (m ∷ without n ms)))
  by true more = more
  by false more = (absent_kept m.name n ms h.0, more)

-- ---- tags

each_place : (k : ℕ) (n : List ℕ) (t : Nbt) (ms : List NamedTag) → length n < 2 ^ 16 → IsGood k t → AllByRecursion (IsGoodNamed k) ms → AllByRecursion (IsGoodNamed k) (with_tag n t ms)
each_place k n t [] short good h = (record { short = short; good = good }, tt)
each_place k n t (m ∷ ms) short good h = by (bytes_eq n m.name) (each_place k n t ms short good h.1) where
  by : (b : Bool) → AllByRecursion (IsGoodNamed k) (with_tag n t ms) → AllByRecursion (IsGoodNamed k) (cond b (record { name = n; tag = t } ∷ ms) (m ∷ with_tag n t ms))
  by true more = (record { short = short; good = good }, h.1)
  by false more = (h.0, more)

pub place_good : (k : ℕ) (n : List ℕ) (t : Nbt) (ms : List NamedTag) → length n < 2 ^ 16 → IsGood k t → AreGood k ms → AreGood k (with_tag n t ms)
place_good k n t ms short good h = record { each_good = each_place k n t ms short good h.each_good; distinct = distinct_place n t ms h.distinct }

each_without : (k : ℕ) (n : List ℕ) (ms : List NamedTag) → AllByRecursion (IsGoodNamed k) ms → AllByRecursion (IsGoodNamed k) (without n ms)
each_without k n [] h = tt
each_without k n (m ∷ ms) h = by (bytes_eq n m.name) (each_without k n ms h.1) where
  by : (b : Bool) → AllByRecursion (IsGoodNamed k) (without n ms) → AllByRecursion (IsGoodNamed k) (cond b (without n ms) (m ∷ without n ms))
  by true more = more
  by false more = (h.0, more)

pub without_good : (k : ℕ) (n : List ℕ) (ms : List NamedTag) → AreGood k ms → AreGood k (without n ms)
without_good k n ms h = record { each_good = each_without k n ms h.each_good; distinct = distinct_without n ms h.distinct }

-- a tag that is found
pub found_good : (k : ℕ) (n : List ℕ) (t : Nbt) (ms : List NamedTag) → AllByRecursion (IsGoodNamed k) ms → tag_of n ms ≡ Some t → IsGood k t
found_good k n t [] h e = absurd (none-some t e)
found_good k n t (m ∷ ms) h e = by (bytes_eq n m.name) e (found_good k n t ms h.1) where
  by : (b : Bool) → cond b (Some m.tag) (tag_of n ms) ≡ Some t → (tag_of n ms ≡ Some t → IsGood k t) → IsGood k t
  by true l more = subst (IsGood k) (same_Some m.tag t l) h.0.good
  by false l more = more l
