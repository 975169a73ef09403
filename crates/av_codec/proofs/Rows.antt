-- Compounds of a List, opened one after the other.
use Rattle.std.proofs.Common.{◌≡◌, Bool, true, false, not, ◌||◌, if◌then◌else◌, Option, Some, None, Vec, Global, List, [], ◌∷◌, ◌++◌, refl, sym, ap, ◌∙◌, append_assoc}
use Rattle.std.proofs.lemmas.List.{append-nil, map-append}
use Rattle.std.specs.List.{list_any}
use Rattle.av_types.specs.declared.position.ChunkPos.{ChunkPos}
use Rattle.av_types.specs.declared.position.Height.{Height}
use Rattle.av_types.specs.declared.tick.Entry.{Entry}
use Rattle.av_tags.specs.declared.tag.Tag.{Tag}
use Rattle.av_tags.specs.Nbt.{Nbt, NamedTag}
use Rattle.av_types.specs.Options.{◌>>=◌}
use Rattle.av_tags.specs.Shape.{compound_of, compounds_of, items_of_list, each, lacks, or_else}
use Rattle.std.proofs.Common.{ℤ, true≢false}
use Rattle.std.proofs.Math.Bool.{or-true}
use Rattle.std.specs.Ordering.{int_eq}
use Rattle.std.proofs.lemmas.Bool.{or_parts}
use Rattle.av_document.specs.Chunk.{is_bad_list}
use Rattle.av_document.specs.Working.{with_number}
use Rattle.av_codec.proofs.Numbers.{lacks-each, is_bad_list-each}
use Rattle.av_tags.specs.View.{view, views}
use Rattle.av_document.specs.Ticks.{is_bad_tick, water_entry, foreign}
use Rattle.av_ticks.specs.Entries.{is_pending}
use Rattle.av_ticks.specs.Ticks.{entries}
use Rattle.av_codec.specs.declared.reading.water.Ticks.{Ticks}
use Rattle.av_codec.specs.TicksRead.{IsTickAdded}
use Rattle.av_codec.specs.Working.{has_other, tags_in, has_bad_number, checked_number, is_refused, are_bad_items, list_items}
use Rattle.av_chunk.specs.Rest.{opened}

pub views-push : (xs : List Tag) (x : Tag) → views (xs ++ x ∷ []) ≡ views xs ++ view x ∷ []
views-push xs x = map-append view xs (x ∷ [])

pub opened-push : (ts : List Nbt) (t : Nbt) → opened (ts ++ t ∷ []) ≡ opened ts ++ or_else [] (compound_of t) ∷ []
opened-push ts t = map-append (λ t. or_else [] (compound_of t)) ts (t ∷ [])

has_other-push : (ts : List Nbt) (t : Nbt) → lacks (compound_of t) ≡ false → has_other ts ≡ false → has_other (ts ++ t ∷ []) ≡ false
has_other-push [] t e h = rw e refl
has_other-push (u ∷ ts) t e h = or_of (lacks (compound_of u)) (has_other ts) (has_other (ts ++ t ∷ [])) h (has_other-push ts t e)
  where
    or_of : (a b d : Bool) → a || b ≡ false → (b ≡ false → d ≡ false) → a || d ≡ false
    or_of true b d h f = h
    or_of false b d h f = f h

-- ---- one more tick

entry_added : (b added : Bool) (found new : List Entry) (e : Entry) → added ≡ not b → new ≡ (if added then found ++ e ∷ [] else found) → new ≡ (if b then found else found ++ e ∷ [])
entry_added true added found new e a n = rw a at n
entry_added false added found new e a n = rw a at n

pub water_added : (c : ChunkPos) (h : Height) (t : Nbt) (ms : List NamedTag) (old new : Ticks) (e : Entry) (added : Bool) → compound_of t ≡ Some ms → is_bad_tick c h ms ≡ false
    → water_entry ms ≡ Some e → added ≡ not (is_pending e.pos (entries old.water)) → entries new.water ≡ (if added then entries old.water ++ e ∷ [] else entries old.water)
    → new.foreign ≡ old.foreign → IsTickAdded c h t old new
water_added c h t ms old new e added is good some a n same = record {
  good = rw is good;
  water = rw (is, some) (entry_added (is_pending e.pos (entries old.water)) added (entries old.water) (entries new.water) e a n);
  foreign_are = rw (is, some) (ap (λ (f : Vec Tag Global). views f.items) same ∙ sym (append-nil (views old.foreign.items)));
}

pub foreign_added : (c : ChunkPos) (h : Height) (t : Tag) (ms : List NamedTag) (old new : Ticks) → compound_of (view t) ≡ Some ms → is_bad_tick c h ms ≡ false
    → water_entry ms ≡ None → new.water ≡ old.water → new.foreign.items ≡ old.foreign.items ++ t ∷ [] → IsTickAdded c h (view t) old new
foreign_added c h t ms old new is good none same pushed = record {
  good = rw is good;
  water = rw (is, none) (ap entries same);
  foreign_are = rw (is, none) (ap views pushed ∙ views-push old.foreign.items t);
}

others_more : (b : Bool) (kept : List Nbt) (t : Nbt) (rest : List Nbt)
    → opened (kept ++ (if b then t ∷ [] else [])) ++ foreign (opened rest) ≡ opened kept ++ (if b then tags_in t ∷ foreign (opened rest) else foreign (opened rest))
others_more true kept t rest = rw (opened-push kept t, append_assoc) refl
others_more false kept t rest = rw (append-nil kept) refl

pub foreign_step : (c : ChunkPos) (h : Height) (t : Nbt) (rest : List Nbt) (old new : Ticks) → IsTickAdded c h t old new
    → opened (views new.foreign.items) ++ foreign (opened rest) ≡ opened (views old.foreign.items) ++ foreign (opened (t ∷ rest))
foreign_step c h t rest old new added =
    ap (λ ts. opened ts ++ foreign (opened rest)) added.foreign_are ∙ others_more (lacks (water_entry (tags_in t))) (views old.foreign.items) t rest

kept_more : (b : Bool) (kept : List Nbt) (t : Nbt) → lacks (compound_of t) ≡ false → has_other kept ≡ false → has_other (kept ++ (if b then t ∷ [] else [])) ≡ false
kept_more true kept t e h = has_other-push kept t e h
kept_more false kept t e h = rw (append-nil kept) h

pub kept_step : (c : ChunkPos) (h : Height) (t : Nbt) (old new : Ticks) → IsTickAdded c h t old new → lacks (compound_of t) ≡ false → has_other (views old.foreign.items) ≡ false
    → has_other (views new.foreign.items) ≡ false
kept_step c h t old new added e kept = rw added.foreign_are (kept_more (lacks (water_entry (tags_in t))) (views old.foreign.items) t e kept)

pub good_step : (c : ChunkPos) (h : Height) (t : Nbt) (rest : List Nbt) → is_bad_tick c h (tags_in t) ≡ false
    → list_any (is_bad_tick c h) (opened rest) ≡ list_any (is_bad_tick c h) (opened (t ∷ rest))
good_step c h t rest f = rw f refl

pub bad_step : (c : ChunkPos) (h : Height) (t : Nbt) (rest : List Nbt) → list_any (is_bad_tick c h) (tags_in t ∷ []) ≡ true → list_any (is_bad_tick c h) (opened (t ∷ rest)) ≡ true
bad_step c h t rest bad = or_first (is_bad_tick c h (tags_in t)) (list_any (is_bad_tick c h) (opened rest)) bad
  where
    or_first : (a b : Bool) → a || false ≡ true → a || b ≡ true
    or_first true b e = refl
    or_first false b e = cc

pub first_compound : (t : Nbt) (rest : List Nbt) → has_other (t ∷ rest) ≡ false → lacks (compound_of t) ≡ false
first_compound t rest h = (or_parts (lacks (compound_of t)) (has_other rest) h).0

pub others_after : (t : Nbt) (rest : List Nbt) → has_other (t ∷ rest) ≡ false → has_other rest ≡ false
others_after t rest h = (or_parts (lacks (compound_of t)) (has_other rest) h).1

pub rows-append : (xs ys : List Tag) → opened (views (xs ++ ys)) ≡ opened (views xs) ++ opened (views ys)
rows-append xs ys = ap opened (map-append view xs ys) ∙ map-append tags_in (views xs) (views ys)

pub rows-push : (xs : List Tag) (x : Tag) → opened (views (xs ++ x ∷ [])) ≡ opened (views xs) ++ tags_in (view x) ∷ []
rows-push xs x = rows-append xs (x ∷ [])

pub good_after : (h : Height) (t : Nbt) (rest : List Nbt) → has_bad_number h (t ∷ rest) ≡ false → has_bad_number h rest ≡ false
good_after h t rest e = (or_parts (lacks (checked_number h (compound_of t))) (has_bad_number h rest) e).1

-- ---- Lists of Compounds

each_step : (o : Option (List NamedTag)) (b : Bool) (r : Option (List (List NamedTag))) (xs : List (List NamedTag)) → lacks o || b ≡ false → (b ≡ false → r ≡ Some xs)
    → (o >>= λ y. r >>= λ ys. Some (y ∷ ys)) ≡ Some (or_else [] o ∷ xs)
each_step None b r xs e f = cc
each_step (Some ms) b r xs e f = rw (f e) refl

pub each-opened : (ts : List Nbt) → has_other ts ≡ false → each compound_of ts ≡ Some (opened ts)
each-opened [] e = refl
each-opened (t ∷ ts) e = each_step (compound_of t) (has_other ts) (each compound_of ts) (opened ts) e (each-opened ts)

pub list_compounds : (t : Nbt) (ts : List Nbt) → items_of_list t ≡ Some ts → lacks (compounds_of t) ≡ false → has_other ts ≡ false
list_compounds t ts e f = sym (lacks-each ts) ∙ rw e at f

pub list_opened : (t : Nbt) (ts : List Nbt) → items_of_list t ≡ Some ts → lacks (compounds_of t) ≡ false → opened ts ≡ or_else [] (compounds_of t)
list_opened t ts e f = rw (e, each-opened ts (list_compounds t ts e f)) refl

refused_none : (before : List ℤ) (n : Option ℤ) (b d : Bool) → is_refused before n || b ≡ false → (b ≡ false → d ≡ false) → lacks n || d ≡ false
refused_none before None b d e f = cc
refused_none before (Some y) true d e f = absurd (true≢false (sym (or-true (list_any (int_eq y) before)) ∙ e))
refused_none before (Some y) false d e f = f refl

pub good_numbers : (h : Height) (before : List ℤ) (ts : List Nbt) → are_bad_items h before ts ≡ false → has_bad_number h ts ≡ false
good_numbers h before [] e = refl
good_numbers h before (t ∷ ts) e =
    refused_none before (checked_number h (compound_of t)) (are_bad_items h (with_number before (checked_number h (compound_of t))) ts) (has_bad_number h ts) e
    (good_numbers h (with_number before (checked_number h (compound_of t))) ts)

numbers_in : (h : Height) (o : Option (List Nbt)) → is_bad_list h (o >>= λ ts. each compound_of ts) ≡ false → has_bad_number h (or_else [] o) ≡ false
numbers_in h None e = refl
numbers_in h (Some ts) e = good_numbers h [] ts (sym (is_bad_list-each h ts) ∙ e)

pub items_good : (h : Height) (t : Option Nbt) → is_bad_list h (t >>= compounds_of) ≡ false → has_bad_number h (list_items t) ≡ false
items_good h None e = refl
items_good h (Some t) e = numbers_in h (items_of_list t) e
