-- The cells and water entries that are read are such as a loaded chunk can have.
use Rattle.std.proofs.Common.{◌≡◌, ℕ, zero, suc, ◌<◌, List, [], ◌∷◌, ◌++◌, Bool, true, false, ◌&&◌, length, Some, None, Option, cond, get_or, nat_lt, refl, sym, ap, ◌∙◌, subst, arith}
use Rattle.std.specs.Prelude.{option_map, slice_index}
use Rattle.std.specs.List.{AllByRecursion, list_any}
use Rattle.std.specs.Str.{bytes_eq}
use Rattle.std.proofs.lemmas.Bool.{not-false, or_parts, ltb-true}
use Rattle.std.proofs.lemmas.Option.{none-some, same_Some}
use Rattle.av_ticks.proofs.Lookup.{are_apart-push}
use Rattle.av_types.specs.Division.{divided}
use Rattle.av_types.specs.Positions.{place_of}
use Rattle.av_types.specs.declared.position.Pos.{Pos}
use Rattle.av_types.specs.declared.position.ChunkPos.{ChunkPos}
use Rattle.av_types.specs.declared.position.Height.{Height}
use Rattle.av_types.specs.declared.tick.Entry.{Entry}
use Rattle.av_tags.specs.Nbt.{Nbt, NamedTag, Document}
use Rattle.av_types.specs.Options.{◌>>=◌}
use Rattle.av_tags.specs.Shape.{compound_of, items_of_list, each, lacks, or_else}
use Rattle.av_state.specs.BlockState.{BlockState, air, air_name, water, water_name, level_texts, index_in, capped_level, water_level, level_key, value_of, level_of, meant, is_storable, storable}
use Rattle.av_section.specs.Palette.{described_state, written_state, state_in, states_if, palette_of}
use Rattle.av_section.specs.BlockStates.{read_states, read_indices}
use Rattle.av_ticks.specs.Entries.{is_pending, are_apart}
use Rattle.av_document.specs.Ticks.{lies_in, fluid_of, water_entry, is_outside, is_bad_tick, with_entry, with_water}
use Rattle.av_document.specs.Chunk.{root_tags, ticks, tags_at, block_states_of, palette_tag_of, data_tag_of, block_cell, RestOfChunk, DenotesChunk}
use Rattle.av_document.specs.Law.{IsMeant, IsLawful}
use Rattle.av_document.proofs.Written.{good_from}

-- ---- one state

air_meant : IsMeant air
air_meant = record { same = refl; storable = refl }

water_meant : (n : ℕ) → n < 9 → IsMeant (water n)
water_meant zero h = record { same = refl; storable = refl }
water_meant (suc zero) h = record { same = refl; storable = refl }
water_meant (suc (suc zero)) h = record { same = refl; storable = refl }
water_meant (suc (suc (suc zero))) h = record { same = refl; storable = refl }
water_meant (suc (suc (suc (suc zero)))) h = record { same = refl; storable = refl }
water_meant (suc (suc (suc (suc (suc zero))))) h = record { same = refl; storable = refl }
water_meant (suc (suc (suc (suc (suc (suc zero)))))) h = record { same = refl; storable = refl }
water_meant (suc (suc (suc (suc (suc (suc (suc zero))))))) h = record { same = refl; storable = refl }
water_meant (suc (suc (suc (suc (suc (suc (suc (suc zero)))))))) h = record { same = refl; storable = refl }
water_meant (suc (suc (suc (suc (suc (suc (suc (suc (suc n))))))))) h = absurd (omega arith)

capped : (n : ℕ) → capped_level n < 9
capped n = by (nat_lt n 8) refl where
  by : (b : Bool) → nat_lt n 8 ≡ b → cond b n 8 < 9
  by true e = omega (arith, ltb-true n 8 e)
  by false e = omega arith

level_low : (o : Option (List ℕ)) (n : ℕ) → water_level o ≡ Some n → n < 9
level_low None n e = subst (λ k. k < 9) (same_Some 0 n e) (omega arith)
level_low (Some s) n e = by (index_in s level_texts) e where
  by : (o : Option ℕ) → option_map capped_level o ≡ Some n → n < 9
  by None k = absurd (none-some n k)
  by (Some m) k = subst (λ j. j < 9) (same_Some (capped_level m) n k) (capped m)

water_from : (o : Option ℕ) (t : BlockState) → ((n : ℕ) → o ≡ Some n → n < 9) → option_map water o ≡ Some t → IsMeant t
water_from None t low k = absurd (none-some t k)
water_from (Some n) t low k = subst IsMeant (same_Some (water n) t k) (water_meant n (low n refl))

-- the form of a state stays when it is read again
form_meant : (s t : BlockState) → is_storable s ≡ true → meant s ≡ Some t → IsMeant t
form_meant s t h e = by (bytes_eq s.name air_name) refl (bytes_eq s.name water_name) refl e where
  by : (a : Bool) → bytes_eq s.name air_name ≡ a → (w : Bool) → bytes_eq s.name water_name ≡ w → cond a (Some air) (cond w (option_map water (level_of s)) (Some s)) ≡ Some t → IsMeant t
  by true f w g k = subst IsMeant (same_Some air t k) air_meant
  by false f true g k = water_from (level_of s) t (level_low (value_of level_key s.properties)) k
  by false f false g k = subst IsMeant (same_Some s t k) (record {
    same = ap (λ b. cond b (Some air) (cond (bytes_eq s.name water_name) (option_map water (level_of s)) (Some s))) f ∙ ap (λ b. cond b (option_map water (level_of s)) (Some s)) g;
    storable = h;
  })

-- ---- a palette

storable_from : (s e : BlockState) → storable s ≡ Some e → is_storable e ≡ true
storable_from s e k = by (is_storable s) refl k where
  by : (b : Bool) → is_storable s ≡ b → cond b (Some s) None ≡ Some e → is_storable e ≡ true
  by true f l = subst (λ t. is_storable t ≡ true) (same_Some s e l) f
  by false f l = absurd (none-some e l)

written_storable : (tags : List NamedTag) (e : BlockState) → written_state tags ≡ Some e → is_storable e ≡ true
written_storable tags e k = by (described_state tags) k where
  by : (o : Option BlockState) → (o >>= storable) ≡ Some e → is_storable e ≡ true
  by None l = absurd (none-some e l)
  by (Some s) l = storable_from s e l

entry_storable : (t : Nbt) (e : BlockState) → state_in t ≡ Some e → is_storable e ≡ true
entry_storable t e k = by (compound_of t) k where
  by : (o : Option (List NamedTag)) → (o >>= λ tags. written_state tags) ≡ Some e → is_storable e ≡ true
  by None l = absurd (none-some e l)
  by (Some tags) l = written_storable tags e l

entries_storable : (ts : List Nbt) (es : List BlockState) → each state_in ts ≡ Some es → AllByRecursion (λ e. is_storable e ≡ true) es
entries_storable [] es k = subst (AllByRecursion (λ e. is_storable e ≡ true)) (same_Some [] es k) tt
entries_storable (t ∷ ts) es k = by (state_in t) refl (each state_in ts) refl k (entries_storable ts) where
  by : (o : Option BlockState) → state_in t ≡ o → (os : Option (List BlockState)) → each state_in ts ≡ os → (o >>= λ y. (os >>= λ ys. Some (y ∷ ys))) ≡ Some es
      → ((later : List BlockState) → each state_in ts ≡ Some later → AllByRecursion (λ e. is_storable e ≡ true) later) → AllByRecursion (λ e. is_storable e ≡ true) es
  by None f os g l more = absurd (none-some es l)
  by (Some e) f None g l more = absurd (none-some es l)
  by (Some e) f (Some later) g l more = subst (AllByRecursion (λ e. is_storable e ≡ true)) (same_Some (e ∷ later) es l) (entry_storable t e f, more later g)

palette_storable : (o : Option Nbt) (es : List BlockState) → palette_of o ≡ Some es → AllByRecursion (λ e. is_storable e ≡ true) es
palette_storable None es k = absurd (none-some es k)
palette_storable (Some t) es k = by (items_of_list t) k where
  counted : (b : Bool) (ts : List Nbt) → states_if b ts ≡ Some es → AllByRecursion (λ e. is_storable e ≡ true) es
  counted true ts l = entries_storable ts es l
  counted false ts l = absurd (none-some es l)

  by : (o : Option (List Nbt)) → (o >>= λ entries. states_if (nat_lt 0 (length entries) && nat_lt (length entries) 4097) entries) ≡ Some es → AllByRecursion (λ e. is_storable e ≡ true) es
  by None l = absurd (none-some es l)
  by (Some ts) l = counted (nat_lt 0 (length ts) && nat_lt (length ts) 4097) ts l

forms_meant : (es fs : List BlockState) → AllByRecursion (λ e. is_storable e ≡ true) es → each meant es ≡ Some fs → AllByRecursion IsMeant fs
forms_meant [] fs h k = subst (AllByRecursion IsMeant) (same_Some [] fs k) tt
forms_meant (e ∷ es) fs h k = by (meant e) refl (each meant es) refl k (λ later. forms_meant es later h.1) where
  by : (o : Option BlockState) → meant e ≡ o → (os : Option (List BlockState)) → each meant es ≡ os → (o >>= λ y. (os >>= λ ys. Some (y ∷ ys))) ≡ Some fs
      → ((later : List BlockState) → each meant es ≡ Some later → AllByRecursion IsMeant later) → AllByRecursion IsMeant fs
  by None f os g l more = absurd (none-some fs l)
  by (Some t) f None g l more = absurd (none-some fs l)
  by (Some t) f (Some later) g l more = subst (AllByRecursion IsMeant) (same_Some (t ∷ later) fs l) (form_meant e t h.0 f, more later g)

states_meant : (o : Option Nbt) → AllByRecursion IsMeant (read_states o)
states_meant o = by (palette_of o) refl where
  by : (p : Option (List BlockState)) → palette_of o ≡ p → AllByRecursion IsMeant (or_else [] (each meant (or_else [] p)))
  by None e = tt
  by (Some es) e = forms (each meant es) refl where
    forms : (q : Option (List BlockState)) → each meant es ≡ q → AllByRecursion IsMeant (or_else [] q)
    forms None f = tt
    forms (Some fs) f = forms_meant es fs (palette_storable o es e) f

at_meant : (fs : List BlockState) (k : ℕ) → AllByRecursion IsMeant fs → IsMeant (get_or fs k air)
at_meant [] k h = air_meant
at_meant (f ∷ fs) zero h = h.0
at_meant (f ∷ fs) (suc k) h = at_meant fs k h.1

cell_meant : (b : Option (List NamedTag)) (place : ℕ) → IsMeant (block_cell b place)
cell_meant None place = air_meant
cell_meant (Some states) place = at_meant (read_states (palette_tag_of states)) (slice_index (read_indices (palette_tag_of states) (data_tag_of states)) place) (states_meant (palette_tag_of states))

-- ---- water entries

push_inside : (c : ChunkPos) (h : Height) (found : List Entry) (e : Entry) → AllByRecursion (λ e. lies_in c h e.pos ≡ true) found → lies_in c h e.pos ≡ true → AllByRecursion (λ e. lies_in c h e.pos ≡ true) (found ++ e ∷ [])
push_inside c h [] e all new = (new, tt)
push_inside c h (x ∷ found) e all new = (all.0, push_inside c h found e all.1 new)

entry_inside : (c : ChunkPos) (h : Height) (found : List Entry) (o : Option Entry) → AllByRecursion (λ e. lies_in c h e.pos ≡ true) found → is_outside c h o ≡ false → AllByRecursion (λ e. lies_in c h e.pos ≡ true) (with_entry found o)
entry_inside c h found None all out = all
entry_inside c h found (Some e) all out = by (is_pending e.pos found) where
  by : (b : Bool) → AllByRecursion (λ e. lies_in c h e.pos ≡ true) (cond b found (found ++ e ∷ []))
  by true = all
  by false = push_inside c h found e all (not-false (lies_in c h e.pos) out)

water_inside : (c : ChunkPos) (h : Height) (found : List Entry) (ts : List (List NamedTag)) → AllByRecursion (λ e. lies_in c h e.pos ≡ true) found → list_any (is_bad_tick c h) ts ≡ false
    → AllByRecursion (λ e. lies_in c h e.pos ≡ true) (with_water found ts)
water_inside c h found [] all good = all
water_inside c h found (ms ∷ ts) all good =
    let (first, more) = or_parts (is_bad_tick c h ms) (list_any (is_bad_tick c h) ts) good in
    let (named, inside) = or_parts (lacks (fluid_of ms)) (is_outside c h (water_entry ms)) first in
    water_inside c h (with_entry found (water_entry ms)) ts (entry_inside c h found (water_entry ms) all inside) more

entry_apart : (found : List Entry) (o : Option Entry) → are_apart found ≡ true → are_apart (with_entry found o) ≡ true
entry_apart found None h = h
entry_apart found (Some e) h = by (is_pending e.pos found) refl where
  by : (b : Bool) → is_pending e.pos found ≡ b → are_apart (cond b found (found ++ e ∷ [])) ≡ true
  by true f = h
  by false f = are_apart-push found e h f

water_apart : (found : List Entry) (ts : List (List NamedTag)) → are_apart found ≡ true → are_apart (with_water found ts) ≡ true
water_apart found [] h = h
water_apart found (ms ∷ ts) h = water_apart (with_entry found (water_entry ms)) ts (entry_apart found (water_entry ms) h)

-- ---- the chunk

pub read_is_lawful : (c : ChunkPos) (h : Height) (d : Document) (cells : Pos → BlockState) (water : List Entry) (rest : RestOfChunk) → DenotesChunk c h d cells water rest → IsLawful c h cells water
read_is_lawful c h d cells water rest denotes = record {
  meant_states = λ p inside. subst IsMeant (sym (denotes.cells_are p inside)) (cell_meant (block_states_of (tags_at (divided p.y 16) (root_tags d))) (place_of p));
  within = subst (AllByRecursion (λ e. lies_in c h e.pos ≡ true)) (sym denotes.water_is) (water_inside c h [] (ticks (root_tags d)) tt (good_from h c (root_tags d) denotes.full denotes.no_fault).tick_states);
  apart = ap are_apart denotes.water_is ∙ water_apart [] (ticks (root_tags d)) refl;
}
