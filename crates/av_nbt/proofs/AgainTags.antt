-- What is spelled at the front of bytes is read from them, whatever follows: tags.
use Rattle.std.proofs.Common.{◌≡◌, ℕ, zero, suc, ◌≤◌, List, [], ◌∷◌, ◌++◌, length, Some, true, false, refl, sym, ap, ◌∙◌, arith, append_assoc}
use Rattle.std.specs.Prelude.{if◌then◌else◌}
use Rattle.std.specs.Str.{bytes_eq}
use Rattle.std.specs.Int.{w8, w16, w32, w64}
use Rattle.std.proofs.lemmas.Slice.Eq.{bytes_eq-Decides}
use Rattle.std.proofs.lemmas.List.{length-append}
use Rattle.av_tags.specs.declared.tag.TagType.{TagType}
use Rattle.av_tags.specs.declared.tag.TagType.TheVariants as tag_type
use Rattle.av_tags.specs.TagTypes.{type_number, is_end}
use Rattle.av_tags.specs.Nbt.{Nbt, byte, int16, int, int64, bits32, bits64, byte_array, text, list, compound, int_array, long_array, Items, no_items, item, Members, no_members, member, NamedTag, tag_type_of, items_of, members_of, item_count, LacksMember, AreOf, HaveDistinctNames, depth, items_depth, members_depth}
use Rattle.av_tags.specs.Shape.{items_in, members_in}
use Rattle.av_nbt.specs.Spelling.{Spells, SpellsItems, SpellsMembers, count_of}
use Rattle.av_nbt.specs.Reading.{Reader, type_at, text_at, list_length_at, leaf_at, repeat_at, list_at, named_at, until_end, has_name, are_distinct, members_at, compound_at, payload_at}
use Rattle.av_nbt.proofs.Bytes.{codes_8, codes_16, codes_32, codes_64}
use Rattle.av_nbt.proofs.Again.{number_again, signed_again, type_again, text_again, list_length_again, bytes_again, numbers_again}

-- lists and trees of tags are the same
items_of_in : (ts : Items) → items_of (items_in ts) ≡ ts
items_of_in no_items = refl
items_of_in (item t ts) = ap (λ us. item t us) (items_of_in ts)

pub members_of_in : (ms : Members) → members_of (members_in ms) ≡ ms
members_of_in no_members = refl
members_of_in (member n t ms) = ap (λ ns. member n t ns) (members_of_in ms)

-- names that differ
name_is_new : (n : List ℕ) (ms : Members) → LacksMember n ms → has_name n (members_in ms) ≡ false
name_is_new n no_members h = refl
name_is_new n (member m t ms) (other, h) =
    elim (bytes_eq n m) as (λ b. bytes_eq n m ≡ b → (if b then true else has_name n (members_in ms)) ≡ false) [
      | true ↦ λ same. absurd (other ((bytes_eq-Decides n m).0 same))
      | false ↦ λ _. name_is_new n ms h
    ] refl

pub names_differ : (ms : Members) → HaveDistinctNames ms → are_distinct (members_in ms) ≡ true
names_differ no_members h = refl
names_differ (member n t ms) (new, h) = rw (name_is_new n ms new) (names_differ ms h)

not_end : (t : Nbt) → is_end (tag_type_of t) ≡ false
not_end (byte z) = refl
not_end (int16 z) = refl
not_end (int z) = refl
not_end (int64 z) = refl
not_end (bits32 n) = refl
not_end (bits64 n) = refl
not_end (byte_array s) = refl
not_end (text s) = refl
not_end (list e ts) = refl
not_end (compound ms) = refl
not_end (int_array zs) = refl
not_end (long_array zs) = refl

-- the steps of a List, of a named tag and of a Compound
list_step : (read : Reader) (bytes b c rest : List ℕ) (e : TagType) (n : ℕ) (ts : List Nbt) → type_at bytes ≡ Some (e, b) → list_length_at b ≡ Some (n, c) → repeat_at (read e) n c ≡ Some (ts, rest)
    → list_at read bytes ≡ Some (list e (items_of ts), rest)
unfolding list_at
list_step read bytes b c rest e n ts tag_type size tags = rw (tag_type, size, tags) refl

named_step : (read : Reader) (k : TagType) (bytes b rest n : List ℕ) (t : Nbt) → text_at bytes ≡ Some (n, b) → read k b ≡ Some (t, rest) → named_at read k bytes ≡ Some (record { name = n; tag = t }, rest)
unfolding named_at
named_step read k bytes b rest n t name tag = rw (name, tag) refl

until_step : (read : Reader) (fuel : ℕ) (k : TagType) (bytes b c rest : List ℕ) (m : NamedTag) (ms : List NamedTag) → type_at bytes ≡ Some (k, b) → is_end k ≡ false → named_at read k b ≡ Some (m, c)
    → until_end read fuel c ≡ Some (ms, rest) → until_end read (suc fuel) bytes ≡ Some (m ∷ ms, rest)
until_step read fuel k bytes b c rest m ms tag_type more tag others = rw (tag_type, more, tag, others) refl

until_last : (read : Reader) (fuel : ℕ) (rest : List ℕ) → until_end read (suc fuel) (0 ∷ rest) ≡ Some ([], rest)
until_last read fuel rest = rw (type_again tag_type.End rest) refl

pub members_step : (read : Reader) (bytes rest : List ℕ) (ms : List NamedTag) → until_end read (length bytes) bytes ≡ Some (ms, rest) → are_distinct ms ≡ true → members_at read bytes ≡ Some (ms, rest)
unfolding members_at
members_step read bytes rest ms tags distinct = rw (tags, distinct) refl

compound_step : (read : Reader) (bytes rest : List ℕ) (ms : List NamedTag) → members_at read bytes ≡ Some (ms, rest) → compound_at read bytes ≡ Some (compound (members_of ms), rest)
unfolding compound_at
compound_step read bytes rest ms tags = rw tags refl

-- a tag that holds no tag
leaf_again : (t : Nbt) (front rest : List ℕ) → depth t ≡ 0 → Spells t front → leaf_at (tag_type_of t) (front ++ rest) ≡ Some (t, rest)
unfolding leaf_at
leaf_again (byte z) front rest flat h = rw (signed_again w8 codes_8 z front rest h) refl
leaf_again (int16 z) front rest flat h = rw (signed_again w16 codes_16 z front rest h) refl
leaf_again (int z) front rest flat h = rw (signed_again w32 codes_32 z front rest h) refl
leaf_again (int64 z) front rest flat h = rw (signed_again w64 codes_64 z front rest h) refl
leaf_again (bits32 n) front rest flat h = rw (number_again w32 codes_32 n front rest h) refl
leaf_again (bits64 n) front rest flat h = rw (number_again w64 codes_64 n front rest h) refl
leaf_again (byte_array s) front rest flat h = rw (bytes_again s front rest h) refl
leaf_again (text s) front rest flat h = rw (text_again s front rest h) refl
leaf_again (list e ts) front rest flat h = absurd (omega (arith, flat))
leaf_again (compound ms) front rest flat h = absurd (omega (arith, flat))
leaf_again (int_array zs) front rest flat h = rw (numbers_again w32 codes_32 (omega arith) zs front rest h) refl
leaf_again (long_array zs) front rest flat h = rw (numbers_again w64 codes_64 (omega arith) zs front rest h) refl

flat_payload : (limit : ℕ) (t : Nbt) (bytes : List ℕ) → depth t ≡ 0 → payload_at limit (tag_type_of t) bytes ≡ leaf_at (tag_type_of t) bytes
flat_payload zero t bytes flat = refl
flat_payload (suc d) (byte z) bytes flat = refl
flat_payload (suc d) (int16 z) bytes flat = refl
flat_payload (suc d) (int z) bytes flat = refl
flat_payload (suc d) (int64 z) bytes flat = refl
flat_payload (suc d) (bits32 n) bytes flat = refl
flat_payload (suc d) (bits64 n) bytes flat = refl
flat_payload (suc d) (byte_array s) bytes flat = refl
flat_payload (suc d) (text s) bytes flat = refl
flat_payload (suc d) (list e ts) bytes flat = absurd (omega (arith, flat))
flat_payload (suc d) (compound ms) bytes flat = absurd (omega (arith, flat))
flat_payload (suc d) (int_array zs) bytes flat = refl
flat_payload (suc d) (long_array zs) bytes flat = refl

mutual
  pub tag_again : (t : Nbt) (limit : ℕ) (front rest : List ℕ) → Spells t front → depth t ≤ limit → payload_at limit (tag_type_of t) (front ++ rest) ≡ Some (t, rest)
  tag_again (byte z) d front rest h shallow = flat_payload d (byte z) (front ++ rest) refl ∙ leaf_again (byte z) front rest refl h
  tag_again (int16 z) d front rest h shallow = flat_payload d (int16 z) (front ++ rest) refl ∙ leaf_again (int16 z) front rest refl h
  tag_again (int z) d front rest h shallow = flat_payload d (int z) (front ++ rest) refl ∙ leaf_again (int z) front rest refl h
  tag_again (int64 z) d front rest h shallow = flat_payload d (int64 z) (front ++ rest) refl ∙ leaf_again (int64 z) front rest refl h
  tag_again (bits32 n) d front rest h shallow = flat_payload d (bits32 n) (front ++ rest) refl ∙ leaf_again (bits32 n) front rest refl h
  tag_again (bits64 n) d front rest h shallow = flat_payload d (bits64 n) (front ++ rest) refl ∙ leaf_again (bits64 n) front rest refl h
  tag_again (byte_array s) d front rest h shallow = flat_payload d (byte_array s) (front ++ rest) refl ∙ leaf_again (byte_array s) front rest refl h
  tag_again (text s) d front rest h shallow = flat_payload d (text s) (front ++ rest) refl ∙ leaf_again (text s) front rest refl h
  tag_again (list e ts) zero front rest h shallow = absurd (omega (arith, shallow))
  tag_again (list e ts) (suc d) front rest (size, len, body, parts, number, count, tag_types, tags) shallow =
      let split : front ++ rest ≡ type_number e ∷ (len ++ (body ++ rest)) = ap (λ f. f ++ rest) parts ∙ ap (λ r. type_number e ∷ r) (append_assoc len body rest) in
      let inner : items_depth ts ≤ d = omega (arith, shallow) in
      let others = ap (λ n. repeat_at (payload_at d e) n (body ++ rest)) count ∙ items_again ts e d body rest tags tag_types inner in
      ap (λ b. list_at (payload_at d) b) split
      ∙ list_step (payload_at d) (type_number e ∷ (len ++ (body ++ rest))) (len ++ (body ++ rest)) (body ++ rest) rest e (count_of size) (items_in ts) (type_again e (len ++ (body ++ rest))) (list_length_again size len (body ++ rest) number) others
      ∙ ap (λ us. Some (list e us, rest)) (items_of_in ts)
  tag_again (compound ms) zero front rest h shallow = absurd (omega (arith, shallow))
  tag_again (compound ms) (suc d) front rest (distinct, tags) shallow =
      let inner : members_depth ms ≤ d = omega (arith, shallow) in
      let fuel : length front ≤ length (front ++ rest) = omega (arith, length-append front rest) in
      compound_step (payload_at d) (front ++ rest) rest (members_in ms) (members_step (payload_at d) (front ++ rest) rest (members_in ms) (members_again ms d (length (front ++ rest)) front rest tags inner fuel) (names_differ ms distinct))
      ∙ ap (λ ns. Some (compound ns, rest)) (members_of_in ms)
  tag_again (int_array zs) d front rest h shallow = flat_payload d (int_array zs) (front ++ rest) refl ∙ leaf_again (int_array zs) front rest refl h
  tag_again (long_array zs) d front rest h shallow = flat_payload d (long_array zs) (front ++ rest) refl ∙ leaf_again (long_array zs) front rest refl h

  items_again : (ts : Items) (e : TagType) (limit : ℕ) (front rest : List ℕ) → SpellsItems ts front → AreOf e ts → items_depth ts ≤ limit → repeat_at (payload_at limit e) (item_count ts) (front ++ rest) ≡ Some (items_in ts, rest)
  items_again no_items e d front rest h tag_types shallow = ap (λ f. Some ([], f ++ rest)) h
  items_again (item t ts) e d front rest (a, b, parts, first, h) (tag_type, tag_types) shallow =
      let split : front ++ rest ≡ a ++ (b ++ rest) = ap (λ f. f ++ rest) parts ∙ append_assoc a b rest in
      let inner : depth t ≤ d = omega (arith, shallow) in
      let others : items_depth ts ≤ d = omega (arith, shallow) in
      let read = ap (λ k. payload_at d k (a ++ (b ++ rest))) (sym tag_type) ∙ tag_again t d a (b ++ rest) first inner in
      rw (split, read, items_again ts e d b rest h tag_types others) refl

  pub members_again : (ms : Members) (limit fuel : ℕ) (front rest : List ℕ) → SpellsMembers ms front → members_depth ms ≤ limit → length front ≤ fuel → until_end (payload_at limit) fuel (front ++ rest) ≡ Some (members_in ms, rest)
  members_again no_members d zero front rest h shallow enough = absurd (omega (arith, enough, ap length h))
  members_again no_members d (suc fuel) front rest h shallow enough = ap (λ f. until_end (payload_at d) (suc fuel) (f ++ rest)) h ∙ until_last (payload_at d) fuel rest
  members_again (member n t ms) d zero front rest (name, a, b, parts, named, first, h) shallow enough = absurd (omega (arith, enough, ap length parts))
  members_again (member n t ms) d (suc fuel) front rest (name, a, b, parts, named, first, h) shallow enough =
      let k = tag_type_of t in
      let split : front ++ rest ≡ type_number k ∷ (name ++ (a ++ (b ++ rest))) =
      ap (λ f. f ++ rest) parts ∙ ap (λ r. type_number k ∷ r) (append_assoc name (a ++ b) rest ∙ ap (λ r. name ++ r) (append_assoc a b rest)) in
      let inner : depth t ≤ d = omega (arith, shallow) in
      let others : members_depth ms ≤ d = omega (arith, shallow) in
      let left : length b ≤ fuel = omega (arith, enough, ap length parts, length-append name (a ++ b), length-append a b) in
      ap (λ f. until_end (payload_at d) (suc fuel) f) split
      ∙ until_step (payload_at d) fuel k (type_number k ∷ (name ++ (a ++ (b ++ rest)))) (name ++ (a ++ (b ++ rest))) (b ++ rest) rest (record { name = n; tag = t }) (members_in ms) (type_again k (name ++ (a ++ (b ++ rest)))) (not_end t)
      (named_step (payload_at d) k (name ++ (a ++ (b ++ rest))) (a ++ (b ++ rest)) (b ++ rest) n t (text_again n name (a ++ (b ++ rest)) named) (tag_again t d a (b ++ rest) first inner))
      (members_again ms d fuel b rest h others left)
