-- Entries that bytes spell: their texts are short, and no key is there twice.
use Rattle.std.proofs.Common.{◌≡◌, ◌≢◌, ℕ, List, Bool, true, false, not, cond, length, Option, Some, None, option_map, refl, sym, ap, ◌∙◌, subst}
use Rattle.std.specs.List.{list_all}
use Rattle.std.specs.Str.{bytes_eq}
use Rattle.std.specs.Cmp.Derive.{both_true}
use Rattle.std.proofs.lemmas.Bool.{lt-ltb}
use Rattle.std.proofs.lemmas.Option.{none-some, same_Some, cond_some}
use Rattle.std.proofs.lemmas.Slice.Eq.{bytes_eq-Decides}
use Rattle.av_tags.specs.Nbt.{Nbt, byte, int16, int, int64, bits32, bits64, byte_array, text, list, compound, int_array, long_array, Members, no_members, member, NamedTag, LacksMember, HaveDistinctNames}
use Rattle.av_types.specs.Options.{◌>>=◌}
use Rattle.av_tags.specs.Shape.{members_in, text_of, each}
use Rattle.av_tags.specs.ByName.{tag_of}
use Rattle.av_nbt.specs.Spelling.{Spells, SpellsMembers}
use Rattle.av_state.specs.BlockState.{BlockState, Property, in_order, is_short, is_short_property, keys_rise, is_storable, storable}
use Rattle.av_section.specs.Palette.{name_key, properties_key, property_in, properties_in, is_of_entry, described_state}
use Rattle.av_document.specs.Entries.{StoredEntriesAreStates}
use Rattle.av_document.proofs.InOrder.{has_other_key, AreApart, all_in_order, rise_in_order}
use Rattle.av_tags.proofs.Each.{each_parts}

-- ---- texts

text_short : (t : Nbt) (s bytes : List ℕ) → text_of t ≡ Some s → Spells t bytes → is_short s ≡ true
text_short (byte z) s bytes e h = absurd (none-some s e)
text_short (int16 z) s bytes e h = absurd (none-some s e)
text_short (int z) s bytes e h = absurd (none-some s e)
text_short (int64 z) s bytes e h = absurd (none-some s e)
text_short (bits32 n) s bytes e h = absurd (none-some s e)
text_short (bits64 n) s bytes e h = absurd (none-some s e)
text_short (byte_array a) s bytes e h = absurd (none-some s e)
text_short (text a) s bytes e h = subst (λ r. is_short r ≡ true) (same_Some _ _ e) (lt-ltb (length a) 65536 h.short)
text_short (list k ts) s bytes e h = absurd (none-some s e)
text_short (compound ms) s bytes e h = absurd (none-some s e)
text_short (int_array zs) s bytes e h = absurd (none-some s e)
text_short (long_array zs) s bytes e h = absurd (none-some s e)

-- ---- properties

-- the name of a property's tag is its key, and the tag is its text
pub record IsProperty (m : NamedTag) (p : Property) : Type 0 where
  pub key : p.key ≡ m.name
  pub value : text_of m.tag ≡ Some p.value

property_parts : (o : Option (List ℕ)) (m : NamedTag) (p : Property) → text_of m.tag ≡ o → option_map (λ v. record { key = m.name; value = v }) o ≡ Some p → IsProperty m p
property_parts None m p e h = absurd (none-some p h)
property_parts (Some v) m p e h =
    let is : record { key = m.name; value = v } ≡ p = same_Some _ _ h in
    record { key = ap (λ (q : Property). q.key) (sym is); value = e ∙ ap (λ (q : Property). Some q.value) is }

is_property : (m : NamedTag) (p : Property) → property_in m ≡ Some p → IsProperty m p
is_property m p h = property_parts (text_of m.tag) m p refl h

short_properties : (ms : Members) (bytes : List ℕ) (ps : List Property) → SpellsMembers ms bytes → each property_in (members_in ms) ≡ Some ps → list_all is_short_property ps ≡ true
short_properties no_members bytes ps h e = subst (λ l. list_all is_short_property l ≡ true) (same_Some _ _ e) refl
short_properties (member n t ms) bytes ps (name, front, rest, parts, named, tag, more) e =
    let m : NamedTag = record { name = n; tag = t } in
    let p = each_parts (property_in m) (each property_in (members_in ms)) ps e in
    let q = is_property m p.first p.first_is in
    let key : is_short p.first.key ≡ true = subst (λ s. is_short s ≡ true) (sym q.key) (lt-ltb (length n) 65536 named.short) in
    let value = text_short t p.first.value front q.value tag in
    subst (λ l. list_all is_short_property l ≡ true) (sym p.all_are) (both_true (both_true key value) (short_properties ms rest p.others more p.others_are))

differs : (b : Bool) (n k : List ℕ) → n ≢ k → bytes_eq k n ≡ b → not b ≡ true
differs true n k h e = absurd (h (sym ((bytes_eq-Decides k n).0 e)))
differs false n k h e = refl

other_keys : (n : List ℕ) (ms : Members) (ps : List Property) → LacksMember n ms → each property_in (members_in ms) ≡ Some ps → list_all (has_other_key n) ps ≡ true
other_keys n no_members ps h e = subst (λ l. list_all (has_other_key n) l ≡ true) (same_Some _ _ e) refl
other_keys n (member k t ms) ps h e =
    let m : NamedTag = record { name = k; tag = t } in
    let p = each_parts (property_in m) (each property_in (members_in ms)) ps e in
    let q = is_property m p.first p.first_is in
    let other : has_other_key n p.first ≡ true = subst (λ s. not (bytes_eq s n) ≡ true) (sym q.key) (differs (bytes_eq k n) n k h.0 refl) in
    subst (λ l. list_all (has_other_key n) l ≡ true) (sym p.all_are) (both_true other (other_keys n ms p.others h.1 p.others_are))

keys_apart : (ms : Members) (ps : List Property) → HaveDistinctNames ms → each property_in (members_in ms) ≡ Some ps → AreApart ps
keys_apart no_members ps h e = subst AreApart (same_Some _ _ e) tt
keys_apart (member n t ms) ps h e =
    let m : NamedTag = record { name = n; tag = t } in
    let p = each_parts (property_in m) (each property_in (members_in ms)) ps e in
    let q = is_property m p.first p.first_is in
    let others = other_keys n ms p.others h.0 p.others_are in
    subst AreApart (sym p.all_are) (subst (λ s. list_all (has_other_key s) p.others ≡ true) (sym q.key) others, keys_apart ms p.others h.1 p.others_are)

-- ---- the entry

pub record HasSpelling (t : Nbt) : Type 0 where
  pub bytes : List ℕ
  pub spelled : Spells t bytes

member_spelled : (n : List ℕ) (ms : Members) (bytes : List ℕ) (t : Nbt) → SpellsMembers ms bytes → tag_of n (members_in ms) ≡ Some t → HasSpelling t
member_spelled n no_members bytes t h e = absurd (none-some t e)
member_spelled n (member k u ms) bytes t (name, front, rest, parts, named, tag, more) e = by (bytes_eq n k) e (member_spelled n ms rest t more) where
  by : (b : Bool) → cond b (Some u) (tag_of n (members_in ms)) ≡ Some t → (tag_of n (members_in ms) ≡ Some t → HasSpelling t) → HasSpelling t
  by true same others = subst HasSpelling (same_Some _ _ same) (record { bytes = front; spelled = tag })
  by false same others = others same

-- properties that are short, and whose keys rise
pub record AreStorable (ps : List Property) : Type 0 where
  pub short : list_all is_short_property ps ≡ true
  pub rise : keys_rise ps ≡ true

ordered : (o : Option (List Property)) (ps : List Property) → (o >>= λ qs. Some (in_order qs)) ≡ Some ps → ((qs : List Property) → o ≡ Some qs → AreStorable (in_order qs)) → AreStorable ps
ordered None ps e h = absurd (none-some ps e)
ordered (Some qs) ps e h = subst AreStorable (same_Some _ _ e) (h qs refl)

properties_storable : (t : Nbt) (bytes : List ℕ) (ps : List Property) → Spells t bytes → properties_in (Some t) ≡ Some ps → AreStorable ps
properties_storable (byte z) bytes ps h e = absurd (none-some ps e)
properties_storable (int16 z) bytes ps h e = absurd (none-some ps e)
properties_storable (int z) bytes ps h e = absurd (none-some ps e)
properties_storable (int64 z) bytes ps h e = absurd (none-some ps e)
properties_storable (bits32 n) bytes ps h e = absurd (none-some ps e)
properties_storable (bits64 n) bytes ps h e = absurd (none-some ps e)
properties_storable (byte_array a) bytes ps h e = absurd (none-some ps e)
properties_storable (text a) bytes ps h e = absurd (none-some ps e)
properties_storable (list k ts) bytes ps h e = absurd (none-some ps e)
properties_storable (compound ms) bytes ps h e = ordered (each property_in (members_in ms)) ps e (λ qs are. record {
  short = all_in_order is_short_property qs (short_properties ms bytes qs h.1 are);
  rise = rise_in_order qs (keys_apart ms qs h.0 are);
})
properties_storable (int_array zs) bytes ps h e = absurd (none-some ps e)
properties_storable (long_array zs) bytes ps h e = absurd (none-some ps e)

-- the parts of an entry that describes a state
described : (s : BlockState) (t : Nbt) (name : List ℕ) (ps : List Property) (b : Bool) → text_of t ≡ Some name → HasSpelling t → AreStorable ps
    → cond b (Some (record { name = name; properties = ps })) None ≡ Some s → is_storable s ≡ true
described s t name ps b e h k q =
    let short = text_short t name h.bytes e h.spelled in
    subst (λ r. is_storable r ≡ true) (cond_some b (record { name = name; properties = ps }) s q).1 (both_true (both_true short k.short) k.rise)

module _ (ms : Members) (bytes : List ℕ) (h : Spells (compound ms) bytes) where
  abbrev tags : List NamedTag
  tags = members_in ms

  entry_properties : (o : Option Nbt) (ps : List Property) → tag_of properties_key tags ≡ o → properties_in o ≡ Some ps → AreStorable ps
  entry_properties None ps e q = subst AreStorable (same_Some _ _ q) (record { short = refl; rise = refl })
  entry_properties (Some t) ps e q =
      let there = member_spelled properties_key ms bytes t h.1 e in
      properties_storable t there.bytes ps there.spelled q

  by_properties : (s : BlockState) (t : Nbt) (name : List ℕ) (o : Option (List Property)) → text_of t ≡ Some name → HasSpelling t → properties_in (tag_of properties_key tags) ≡ o
      → (o >>= λ ps. cond (list_all is_of_entry tags) (Some (record { name = name; properties = ps })) None) ≡ Some s → is_storable s ≡ true
  by_properties s t name None e k f q = absurd (none-some s q)
  by_properties s t name (Some ps) e k f q = described s t name ps (list_all is_of_entry tags) e k (entry_properties (tag_of properties_key tags) ps refl f) q

  by_name : (s : BlockState) (t : Nbt) (o : Option (List ℕ)) → text_of t ≡ o → HasSpelling t
      → (o >>= λ name. properties_in (tag_of properties_key tags) >>= λ ps. cond (list_all is_of_entry tags) (Some (record { name = name; properties = ps })) None) ≡ Some s → is_storable s ≡ true
  by_name s t None e k q = absurd (none-some s q)
  by_name s t (Some name) e k q = by_properties s t name (properties_in (tag_of properties_key tags)) e k refl q

  by_tag : (s : BlockState) (o : Option Nbt) → tag_of name_key tags ≡ o
      → (o >>= λ t. text_of t >>= λ name. properties_in (tag_of properties_key tags) >>= λ ps. cond (list_all is_of_entry tags) (Some (record { name = name; properties = ps })) None) ≡ Some s
      → is_storable s ≡ true
  by_tag s None e q = absurd (none-some s q)
  by_tag s (Some t) e q = by_name s t (text_of t) refl (member_spelled name_key ms bytes t h.1 e) q

  stored : (o : Option BlockState) → described_state tags ≡ o → (o >>= storable) ≡ o
  stored None e = refl
  stored (Some s) e = ap (λ b. cond b (Some s) None) (by_tag s (tag_of name_key tags) refl e)

pub stored_entries : StoredEntriesAreStates
stored_entries ms bytes h = stored ms bytes h (described_state (members_in ms)) refl
