-- What is read from the front of bytes is spelled by the bytes that it takes: tags.
use Rattle.std.proofs.Common.{◌≡◌, ℕ, zero, suc, ◌≤◌, List, [], ◌∷◌, ◌++◌, length, Option, Some, None, Bool, true, false, refl, sym, ap, ◌∙◌, subst, arith, append_assoc, append-nil, ◌⊎◌, inl, inr}
use Rattle.std.specs.Prelude.{if◌then◌else◌, ◌==◌}
use Rattle.std.specs.Str.{bytes_eq}
use Rattle.std.specs.Int.{w8, w16, w32, w64}
use Rattle.std.proofs.lemmas.Slice.Eq.{bytes_eq-Decides}
use Rattle.std.proofs.lemmas.Bool.Decides.{Decides-eqb}
use Rattle.std.proofs.lemmas.List.{nil_from_length}
use Rattle.av_tags.specs.declared.tag.TagType.{TagType}
use Rattle.av_tags.specs.declared.tag.TagType.TheVariants as tag_type
use Rattle.av_tags.specs.TagTypes.{type_number, is_end, is_compound}
use Rattle.av_tags.specs.Nbt.{Nbt, byte, int16, int, int64, bits32, bits64, byte_array, text, list, compound, int_array, long_array, NamedTag, Document, tag_type_of, items_of, members_of, item_count, LacksMember, AreOf, HaveDistinctNames, depth, items_depth, members_depth}
use Rattle.av_types.specs.Options.{◌>>=◌}
use Rattle.av_nbt.specs.Spelling.{Spells, SpellsItems, SpellsMembers, SpellsNumber, SpellsBits, SpellsText, SpellsDocument}
use Rattle.av_nbt.specs.Reading.{Field, Reader, as_field, number_at, signed_at, type_at, text_at, list_length_at, bytes_at, numbers_at, leaf_at, repeat_at, list_at, named_at, until_end, has_name, are_distinct, members_at, compound_at, payload_at, document_at}
use Rattle.av_nbt.proofs.Bytes.{AreBytes, codes_8, codes_16, codes_32, codes_64, bytes_right}
use Rattle.av_nbt.proofs.Taken.{Took, Takes, chained, same_value, same_rest, took_bytes, number_taken, signed_taken, type_taken, text_taken, list_length_taken, SpellsByteArray, SpellsArray, bytes_taken, numbers_taken}

-- A tag that was read: it is spelled, of the type, and no deeper than allowed.
pub record IsRead (limit : ℕ) (k : TagType) (t : Nbt) (front : List ℕ) : Type 0 where
  pub spelled : Spells t front
  pub tag_type : tag_type_of t ≡ k
  pub shallow : depth t ≤ limit

field_taken : {X Y : Type 0} (f : X → Y) (read : List ℕ → Field X) (P : X → List ℕ → Type 0) (Q : Y → List ℕ → Type 0) → Takes read P → ((x : X) (front : List ℕ) → P x front → Q (f x) front)
    → Takes (λ bytes. as_field f (read bytes)) Q
field_taken f read P Q takes turns bytes rest y h e =
    let step = chained (read bytes) (λ x. Some (f x.0, x.1)) (y, rest) e in
    let taken = takes bytes step.value.1 step.value.0 h step.first in
    record {
      front = taken.front;
      parts = taken.parts ∙ ap (λ r. taken.front ++ r) (same_rest (f step.value.0, step.value.1) y rest step.then_rest);
      holds = subst (λ z. Q z taken.front) (same_value (f step.value.0, step.value.1) y rest step.then_rest) (turns step.value.0 taken.front taken.holds);
    }

leaf_taken : (limit : ℕ) (k : TagType) → Takes (leaf_at k) (IsRead limit k)
unfolding leaf_at
leaf_taken d tag_type.End bytes rest t h e = cc
leaf_taken d tag_type.Byte bytes rest t h e = field_taken byte (signed_at w8) (SpellsNumber w8) (IsRead d tag_type.Byte) (signed_taken w8 codes_8) (λ x front h. record { spelled = h; tag_type = refl; shallow = omega arith }) bytes rest t h e
leaf_taken d tag_type.Short bytes rest t h e = field_taken int16 (signed_at w16) (SpellsNumber w16) (IsRead d tag_type.Short) (signed_taken w16 codes_16) (λ x front h. record { spelled = h; tag_type = refl; shallow = omega arith }) bytes rest t h e
leaf_taken d tag_type.Int bytes rest t h e = field_taken int (signed_at w32) (SpellsNumber w32) (IsRead d tag_type.Int) (signed_taken w32 codes_32) (λ x front h. record { spelled = h; tag_type = refl; shallow = omega arith }) bytes rest t h e
leaf_taken d tag_type.Long bytes rest t h e = field_taken int64 (signed_at w64) (SpellsNumber w64) (IsRead d tag_type.Long) (signed_taken w64 codes_64) (λ x front h. record { spelled = h; tag_type = refl; shallow = omega arith }) bytes rest t h e
leaf_taken d tag_type.Float bytes rest t h e = field_taken bits32 (number_at w32) (SpellsBits w32) (IsRead d tag_type.Float) (number_taken w32 codes_32) (λ x front h. record { spelled = h; tag_type = refl; shallow = omega arith }) bytes rest t h e
leaf_taken d tag_type.Double bytes rest t h e = field_taken bits64 (number_at w64) (SpellsBits w64) (IsRead d tag_type.Double) (number_taken w64 codes_64) (λ x front h. record { spelled = h; tag_type = refl; shallow = omega arith }) bytes rest t h e
leaf_taken d tag_type.ByteArray bytes rest t h e = field_taken byte_array bytes_at SpellsByteArray (IsRead d tag_type.ByteArray) bytes_taken (λ x front h. record { spelled = h; tag_type = refl; shallow = omega arith }) bytes rest t h e
leaf_taken d tag_type.Text bytes rest t h e = field_taken text text_at SpellsText (IsRead d tag_type.Text) text_taken (λ x front h. record { spelled = h; tag_type = refl; shallow = omega arith }) bytes rest t h e
leaf_taken d tag_type.List bytes rest t h e = cc
leaf_taken d tag_type.Compound bytes rest t h e = cc
leaf_taken d tag_type.IntArray bytes rest t h e = field_taken int_array (numbers_at w32) (SpellsArray w32) (IsRead d tag_type.IntArray) (numbers_taken w32 codes_32 (omega arith)) (λ x front h. record { spelled = h; tag_type = refl; shallow = omega arith }) bytes rest t h e
leaf_taken d tag_type.LongArray bytes rest t h e = field_taken long_array (numbers_at w64) (SpellsArray w64) (IsRead d tag_type.LongArray) (numbers_taken w64 codes_64 (omega arith)) (λ x front h. record { spelled = h; tag_type = refl; shallow = omega arith }) bytes rest t h e

-- values that stand one after the other
abbrev pub Each : {X : Type 0} → (X → List ℕ → Type 0) → List X → List ℕ → Type 0
Each P [] bytes = bytes ≡ []
Each P (x ∷ xs) bytes = (front rest : List ℕ) × (bytes ≡ front ++ rest) × P x front × Each P xs rest

repeat_taken : {X : Type 0} (read : List ℕ → Field X) (P : X → List ℕ → Type 0) → Takes read P → (n : ℕ) → Takes (repeat_at read n) (λ xs front. Each P xs front × (length xs ≡ n))
repeat_taken read P takes zero bytes rest xs h e =
    let none = same_value ([], bytes) xs rest e in
    record { front = []; parts = same_rest ([], bytes) xs rest e; holds = subst (λ ys. Each P ys [] × (length ys ≡ 0)) none (refl, refl) }
repeat_taken read P takes (suc n) bytes rest xs h e =
    let step = chained (read bytes) (λ x. repeat_at read n x.1 >>= λ ys. Some (x.0 ∷ ys.0, ys.1)) (xs, rest) e in
    let x = step.value.0 in
    let first = takes bytes step.value.1 x h step.first in
    let last = chained (repeat_at read n step.value.1) (λ ys. Some (x ∷ ys.0, ys.1)) (xs, rest) step.then_rest in
    let others = repeat_taken read P takes n step.value.1 last.value.1 last.value.0 (took_bytes bytes first.front step.value.1 h first.parts).1 last.first in
    let value = same_value (x ∷ last.value.0, last.value.1) xs rest last.then_rest in
    record {
      front = first.front ++ others.front;
      parts = first.parts ∙ ap (λ r. first.front ++ r) (others.parts ∙ ap (λ r. others.front ++ r) (same_rest (x ∷ last.value.0, last.value.1) xs rest last.then_rest)) ∙ sym (append_assoc first.front others.front rest);
      holds = subst (λ ys. Each P ys (first.front ++ others.front) × (length ys ≡ suc n)) value ((first.front, others.front, refl, first.holds, others.holds.0), ap suc others.holds.1);
    }

-- the tags of a List
items_spelled : (limit : ℕ) (e : TagType) (ts : List Nbt) (front : List ℕ) → Each (IsRead limit e) ts front
    → SpellsItems (items_of ts) front × AreOf e (items_of ts) × (items_depth (items_of ts) ≤ limit) × (item_count (items_of ts) ≡ length ts)
items_spelled d e [] front h = (h, tt, omega arith, refl)
items_spelled d e (t ∷ ts) front (a, b, parts, first, each) =
    let others = items_spelled d e ts b each in
    let shallow : depth t ≤ d = first.shallow in
    let others_shallow : items_depth (items_of ts) ≤ d = others.2 in
    ((a, b, parts, first.spelled, others.0), (first.tag_type, others.1), omega arith, ap suc others.3)

-- Readers of tags of each type.
abbrev pub ReadsTags : ℕ → Reader → Type 0
ReadsTags limit read = (k : TagType) → Takes (read k) (IsRead limit k)

list_taken : (limit : ℕ) (read : Reader) → ReadsTags limit read → Takes (list_at read) (IsRead (suc limit) tag_type.List)
unfolding list_at
list_taken d read reads bytes rest t h e =
    let type_step = chained (type_at bytes) (λ k. list_length_at k.1 >>= λ n. repeat_at (read k.0) n.0 n.1 >>= λ ts. Some (list k.0 (items_of ts.0), ts.1)) (t, rest) e in
    let k = type_step.value.0 in
    let b = type_step.value.1 in
    let type_parts = type_taken bytes b k type_step.first in
    let b_are = bytes_right (type_number k ∷ []) b (subst AreBytes type_parts h) in
    let size_step = chained (list_length_at b) (λ n. repeat_at (read k) n.0 n.1 >>= λ ts. Some (list k (items_of ts.0), ts.1)) (t, rest) type_step.then_rest in
    let n = size_step.value.0 in
    let size = list_length_taken b size_step.value.1 n b_are size_step.first in
    let step = chained (repeat_at (read k) n size_step.value.1) (λ ts. Some (list k (items_of ts.0), ts.1)) (t, rest) size_step.then_rest in
    let ts = step.value.0 in
    let taken = repeat_taken (read k) (IsRead d k) (reads k) n size_step.value.1 step.value.1 ts (took_bytes b size.front size_step.value.1 b_are size.parts).1 step.first in
    let items = items_spelled d k ts taken.front taken.holds.0 in
    let value = same_value (list k (items_of ts), step.value.1) t rest step.then_rest in
    let body = size.front ++ taken.front in
    let count = size.holds.2 ∙ sym taken.holds.1 ∙ sym items.3 in
    let shallow : items_depth (items_of ts) ≤ d = items.2 in
    record {
      front = type_number k ∷ body;
      parts = type_parts ∙ ap (λ r. type_number k ∷ r) (size.parts ∙ ap (λ r. size.front ++ r) (taken.parts ∙ ap (λ r. taken.front ++ r) (same_rest (list k (items_of ts), step.value.1) t rest step.then_rest)) ∙ sym (append_assoc size.front taken.front rest));
      holds = subst (λ u. IsRead (suc d) tag_type.List u (type_number k ∷ body)) value (record { spelled = (size.holds.0, size.front, taken.front, refl, size.holds.1, count, items.1, items.0); tag_type = refl; shallow = omega arith });
    }

-- a named tag of a type
pub record IsNamed (limit : ℕ) (k : TagType) (m : NamedTag) (front : List ℕ) : Type 0 where
  pub head : List ℕ
  pub body : List ℕ
  pub parts : front ≡ head ++ body
  pub named : SpellsText m.name head
  pub tag : IsRead limit k m.tag body

named_taken : (limit : ℕ) (read : Reader) → ReadsTags limit read → (k : TagType) → Takes (named_at read k) (IsNamed limit k)
unfolding named_at
named_taken d read reads k bytes rest m h e =
    let name_step = chained (text_at bytes) (λ n. read k n.1 >>= λ t. Some (record { name = n.0; tag = t.0 }, t.1)) (m, rest) e in
    let n = name_step.value.0 in
    let b = name_step.value.1 in
    let name = text_taken bytes b n h name_step.first in
    let step = chained (read k b) (λ t. Some (record { name = n; tag = t.0 }, t.1)) (m, rest) name_step.then_rest in
    let t = step.value.0 in
    let tag = reads k b step.value.1 t (took_bytes bytes name.front b h name.parts).1 step.first in
    let value = same_value (record { name = n; tag = t }, step.value.1) m rest step.then_rest in
    record {
      front = name.front ++ tag.front;
      parts = name.parts ∙ ap (λ r. name.front ++ r) (tag.parts ∙ ap (λ r. tag.front ++ r) (same_rest (record { name = n; tag = t }, step.value.1) m rest step.then_rest)) ∙ sym (append_assoc name.front tag.front rest);
      holds = subst (λ x. IsNamed d k x (name.front ++ tag.front)) value (record { head = name.front; body = tag.front; parts = refl; named = name.holds; tag = tag.holds });
    }

-- the tags of a Compound up to its end
pub record AreNamed (limit : ℕ) (ms : List NamedTag) (front : List ℕ) : Type 0 where
  pub spelled : SpellsMembers (members_of ms) front
  pub shallow : members_depth (members_of ms) ≤ limit

either : {A : Type 0} (b : Bool) (o p : Option A) (y : A) → (if b then o else p) ≡ Some y → ((b ≡ true) × (o ≡ Some y)) ⊎ ((b ≡ false) × (p ≡ Some y))
either true o p y e = inl (refl, e)
either false o p y e = inr (refl, e)

end_type : (k : TagType) → is_end k ≡ true → type_number k ≡ 0
end_type tag_type.End e = refl
end_type tag_type.Byte e = cc
end_type tag_type.Short e = cc
end_type tag_type.Int e = cc
end_type tag_type.Long e = cc
end_type tag_type.Float e = cc
end_type tag_type.Double e = cc
end_type tag_type.ByteArray e = cc
end_type tag_type.Text e = cc
end_type tag_type.List e = cc
end_type tag_type.Compound e = cc
end_type tag_type.IntArray e = cc
end_type tag_type.LongArray e = cc

-- one named tag, and those after it
abbrev named_then : Reader → ℕ → TagType → List ℕ → Field (List NamedTag)
named_then read n k b = named_at read k b >>= λ first. until_end read n first.1 >>= λ others. Some (first.0 ∷ others.0, others.1)

-- the end of a Compound, and one tag more
ended : (limit : ℕ) (k : TagType) (bytes b rest : List ℕ) (ms : List NamedTag) → bytes ≡ type_number k ∷ b → is_end k ≡ true → ◌≡◌ {A = Field (List NamedTag)} (Some ([], b)) (Some (ms, rest)) → Took (AreNamed limit ms) bytes rest
ended d k bytes b rest ms parts ends e =
    let none : AreNamed d [] (type_number k ∷ []) = record { spelled = ap (λ n. n ∷ []) (end_type k ends); shallow = omega arith } in
    record {
      front = type_number k ∷ [];
      parts = parts ∙ ap (λ r. type_number k ∷ r) (same_rest ([], b) ms rest e);
      holds = subst (λ xs. AreNamed d xs (type_number k ∷ [])) (same_value ([], b) ms rest e) none;
    }

one_more : (limit : ℕ) (read : Reader) → ReadsTags limit read → (n : ℕ) → Takes (until_end read n) (AreNamed limit) → (k : TagType) (bytes b rest : List ℕ) (ms : List NamedTag) → AreBytes b → bytes ≡ type_number k ∷ b
    → named_then read n k b ≡ Some (ms, rest) → Took (AreNamed limit ms) bytes rest
one_more d read reads n takes k bytes b rest ms h parts e =
    let first_step = chained (named_at read k b) (λ first. until_end read n first.1 >>= λ others. Some (first.0 ∷ others.0, others.1)) (ms, rest) e in
    let m = first_step.value.0 in
    let first = named_taken d read reads k b first_step.value.1 m h first_step.first in
    let step = chained (until_end read n first_step.value.1) (λ others. Some (m ∷ others.0, others.1)) (ms, rest) first_step.then_rest in
    let others = takes first_step.value.1 step.value.1 step.value.0 (took_bytes b first.front first_step.value.1 h first.parts).1 step.first in
    let value = same_value (m ∷ step.value.0, step.value.1) ms rest step.then_rest in
    let body = first.front ++ others.front in
    let shallow : depth m.tag ≤ d = first.holds.tag.shallow in
    let others_shallow : members_depth (members_of step.value.0) ≤ d = others.holds.shallow in
    let split : type_number k ∷ body ≡ type_number (tag_type_of m.tag) ∷ (first.holds.head ++ (first.holds.body ++ others.front)) =
    ap (λ j. type_number j ∷ body) (sym first.holds.tag.tag_type) ∙ ap (λ r. type_number (tag_type_of m.tag) ∷ r) (ap (λ f. f ++ others.front) first.holds.parts ∙ append_assoc first.holds.head first.holds.body others.front) in
    record {
      front = type_number k ∷ body;
      parts = parts ∙ ap (λ r. type_number k ∷ r) (first.parts ∙ ap (λ r. first.front ++ r) (others.parts ∙ ap (λ r. others.front ++ r) (same_rest (m ∷ step.value.0, step.value.1) ms rest step.then_rest)) ∙ sym (append_assoc first.front others.front rest));
      holds = subst (λ xs. AreNamed d xs (type_number k ∷ body)) value
          (record { spelled = (first.holds.head, first.holds.body, others.front, split, first.holds.named, first.holds.tag.spelled, others.holds.spelled); shallow = omega arith });
    }

until_taken : (limit : ℕ) (read : Reader) → ReadsTags limit read → (n : ℕ) → Takes (until_end read n) (AreNamed limit)
until_taken d read reads zero bytes rest ms h e = cc
until_taken d read reads (suc n) bytes rest ms h e =
    let step = chained (type_at bytes) (λ k. if is_end k.0 then Some ([], k.1) else named_then read n k.0 k.1) (ms, rest) e in
    let k = step.value.0 in
    let b = step.value.1 in
    let parts = type_taken bytes b k step.first in
    let are = bytes_right (type_number k ∷ []) b (subst AreBytes parts h) in
    elim (either (is_end k) (Some ([], b)) (named_then read n k b) (ms, rest) step.then_rest) [
      | inl end ↦ ended d k bytes b rest ms parts end.0 end.1
      | inr more ↦ one_more d read reads n (until_taken d read reads n) k bytes b rest ms are parts more.1
    ]

-- tests of names
pub name_is_absent : (n : List ℕ) (ms : List NamedTag) → has_name n ms ≡ false → LacksMember n (members_of ms)
name_is_absent n [] e = tt
name_is_absent n (m ∷ ms) e =
    elim (bytes_eq n m.name) as (λ b. bytes_eq n m.name ≡ b → (if b then true else has_name n ms) ≡ false → LacksMember n (members_of (m ∷ ms))) [
      | true ↦ λ _ taken. cc
      | false ↦ λ other absent. ((λ same. let found : bytes_eq n m.name ≡ true = (bytes_eq-Decides n m.name).1 same in cc), name_is_absent n ms absent)
    ] refl e

pub names_are_distinct : (ms : List NamedTag) → are_distinct ms ≡ true → HaveDistinctNames (members_of ms)
names_are_distinct [] e = tt
names_are_distinct (m ∷ ms) e =
    elim (has_name m.name ms) as (λ b. has_name m.name ms ≡ b → (if b then false else are_distinct ms) ≡ true → HaveDistinctNames (members_of (m ∷ ms))) [
      | true ↦ λ _ taken. cc
      | false ↦ λ absent others. (name_is_absent m.name ms absent, names_are_distinct ms others)
    ] refl e

-- the tags of a Compound
pub record AreMembers (limit : ℕ) (ms : List NamedTag) (front : List ℕ) : Type 0 where
  pub spelled : Spells (compound (members_of ms)) front
  pub shallow : members_depth (members_of ms) ≤ limit

passed_test : {A : Type 0} (b : Bool) (o : Option A) (y : A) → (if b then o else None) ≡ Some y → (b ≡ true) × (o ≡ Some y)
passed_test true o y e = (refl, e)
passed_test false o y e = cc

members_taken : (limit : ℕ) (read : Reader) → ReadsTags limit read → Takes (members_at read) (AreMembers limit)
unfolding members_at
members_taken d read reads bytes rest ms h e =
    let step = chained (until_end read (length bytes) bytes) (λ xs. if are_distinct xs.0 then Some xs else None) (ms, rest) e in
    let xs = step.value.0 in
    let taken = until_taken d read reads (length bytes) bytes step.value.1 xs h step.first in
    let test = passed_test (are_distinct xs) (Some step.value) (ms, rest) step.then_rest in
    record {
      front = taken.front;
      parts = taken.parts ∙ ap (λ r. taken.front ++ r) (same_rest step.value ms rest test.1);
      holds = subst (λ ys. AreMembers d ys taken.front) (same_value step.value ms rest test.1) (record { spelled = (names_are_distinct xs test.0, taken.holds.spelled); shallow = taken.holds.shallow });
    }

compound_taken : (limit : ℕ) (read : Reader) → ReadsTags limit read → Takes (compound_at read) (IsRead (suc limit) tag_type.Compound)
unfolding compound_at
compound_taken d read reads bytes rest t h e =
    field_taken (λ ms. compound (members_of ms)) (members_at read) (AreMembers d) (IsRead (suc d) tag_type.Compound) (members_taken d read reads)
    (λ ms front are. let shallow : members_depth (members_of ms) ≤ d = are.shallow in record { spelled = are.spelled; tag_type = refl; shallow = omega arith }) bytes rest t h e

pub payload_taken : (limit : ℕ) → ReadsTags limit (payload_at limit)
payload_taken zero k = leaf_taken zero k
payload_taken (suc d) tag_type.End = leaf_taken (suc d) tag_type.End
payload_taken (suc d) tag_type.Byte = leaf_taken (suc d) tag_type.Byte
payload_taken (suc d) tag_type.Short = leaf_taken (suc d) tag_type.Short
payload_taken (suc d) tag_type.Int = leaf_taken (suc d) tag_type.Int
payload_taken (suc d) tag_type.Long = leaf_taken (suc d) tag_type.Long
payload_taken (suc d) tag_type.Float = leaf_taken (suc d) tag_type.Float
payload_taken (suc d) tag_type.Double = leaf_taken (suc d) tag_type.Double
payload_taken (suc d) tag_type.ByteArray = leaf_taken (suc d) tag_type.ByteArray
payload_taken (suc d) tag_type.Text = leaf_taken (suc d) tag_type.Text
payload_taken (suc d) tag_type.List = list_taken d (payload_at d) (payload_taken d)
payload_taken (suc d) tag_type.Compound = compound_taken d (payload_at d) (payload_taken d)
payload_taken (suc d) tag_type.IntArray = leaf_taken (suc d) tag_type.IntArray
payload_taken (suc d) tag_type.LongArray = leaf_taken (suc d) tag_type.LongArray

compound_type : (k : TagType) → is_compound k ≡ true → k ≡ tag_type.Compound
compound_type tag_type.End e = cc
compound_type tag_type.Byte e = cc
compound_type tag_type.Short e = cc
compound_type tag_type.Int e = cc
compound_type tag_type.Long e = cc
compound_type tag_type.Float e = cc
compound_type tag_type.Double e = cc
compound_type tag_type.ByteArray e = cc
compound_type tag_type.Text e = cc
compound_type tag_type.List e = cc
compound_type tag_type.Compound e = refl
compound_type tag_type.IntArray e = cc
compound_type tag_type.LongArray e = cc

-- the parts of a document after its type, and after its tags
abbrev whole : List ℕ → List NamedTag × List ℕ → Option Document
whole name ms = if length ms.1 == 0 then Some (record { name = name; members = members_of ms.0 }) else None

abbrev after_type : List ℕ → Option Document
after_type b = text_at b >>= λ name. members_at (payload_at 511) name.1 >>= λ ms. whole name.0 ms

same_document : (x y : Document) → Some x ≡ Some y → x ≡ y
same_document x y e = cc

-- What is read as a document is spelled by all of the bytes.
pub document_taken : (bytes : List ℕ) (d : Document) → AreBytes bytes → document_at bytes ≡ Some d → SpellsDocument d bytes
unfolding document_at
document_taken bytes d h e =
    let type_step = chained (type_at bytes) (λ k. if is_compound k.0 then after_type k.1 else None) d e in
    let k = type_step.value.0 in
    let b = type_step.value.1 in
    let type_test = passed_test (is_compound k) (after_type b) d type_step.then_rest in
    let is = compound_type k type_test.0 in
    let type_parts = type_taken bytes b k type_step.first in
    let b_are = bytes_right (type_number k ∷ []) b (subst AreBytes type_parts h) in
    let name_step = chained (text_at b) (λ name. members_at (payload_at 511) name.1 >>= λ ms. whole name.0 ms) d type_test.1 in
    let n = name_step.value.0 in
    let name = text_taken b name_step.value.1 n b_are name_step.first in
    let step = chained (members_at (payload_at 511) name_step.value.1) (λ ms. whole n ms) d name_step.then_rest in
    let ms = step.value.0 in
    let tags = members_taken 511 (payload_at 511) (payload_taken 511) name_step.value.1 step.value.1 ms (took_bytes b name.front name_step.value.1 b_are name.parts).1 step.first in
    let end = passed_test (length step.value.1 == 0) (Some (record { name = n; members = members_of ms })) d step.then_rest in
    let nothing = nil_from_length step.value.1 ((Decides-eqb (length step.value.1) 0).0 end.0) in
    let shallow : members_depth (members_of ms) ≤ 511 = tags.holds.shallow in
    let body_parts = tags.parts ∙ ap (λ r. tags.front ++ r) nothing ∙ append-nil tags.front in
    subst (λ x. SpellsDocument x bytes) (same_document (record { name = n; members = members_of ms }) d end.1) (record {
      name = name.front;
      body = tags.front;
      parts = type_parts ∙ ap (λ j. type_number j ∷ b) is ∙ ap (λ r. type_number tag_type.Compound ∷ r) (name.parts ∙ ap (λ r. name.front ++ r) body_parts);
      named = name.holds;
      tags = tags.holds.spelled;
      shallow = omega arith;
    })
