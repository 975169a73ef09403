-- A vector's named tags, changed where a name stands.
use Rattle.std.proofs.Common.{◌≡◌, ℕ, List, [], ◌∷◌, ◌++◌, Some, None, ap, sym, refl, ◌∙◌, get_or, set, take, drop, suc}
use Rattle.std.specs.Prelude.{remove}
use Rattle.std.proofs.Math.ListN.{get_or-map}
use Rattle.std.proofs.lemmas.List.{map-set, map-append, take-map, drop-map}
use Rattle.av_tags.specs.ByName.{tag_of, IsWithTag, without, index_of_name}
use Rattle.av_tags.specs.View.{named_view, named_views}
use Rattle.av_tags.specs.declared.tag.Named.{Named}
use Rattle.av_tags.proofs.Names.{set_is_placed, tag_is_found, placed_last, without_found}

pub placed_at : (old : List Named) (i : ℕ) (new : Named) → Some i ≡ index_of_name (named_view new).name (named_views old) → IsWithTag (named_view new) (named_views old) (named_views (set old i new))
placed_at old i new e = map-set named_view old i new ∙ set_is_placed (named_view new).name (named_view new).tag (named_views old) i (sym e)

pub placed_after : (old : List Named) (new : Named) → None ≡ index_of_name (named_view new).name (named_views old) → IsWithTag (named_view new) (named_views old) (named_views (old ++ new ∷ []))
placed_after old new e = map-append named_view old (new ∷ []) ∙ placed_last (named_view new).name (named_view new).tag (named_views old) (sym e)

pub taken_at : (old : List Named) (i : ℕ) (x : Named) (n : List ℕ) → Some i ≡ index_of_name n (named_views old) → x ≡ get_or old i x → tag_of n (named_views old) ≡ Some (named_view x).tag
taken_at old i x n e h = tag_is_found n (named_views old) i (sym e) (named_view x) ∙ ap (λ m. Some m.tag) (get_or-map named_view old i x ∙ ap named_view (sym h))

-- a tag of the name taken out changes nothing of the tags without the name
pub removed_at : (old : List Named) (i : ℕ) (n : List ℕ) → Some i ≡ index_of_name n (named_views old) → without n (named_views (remove old i)) ≡ without n (named_views old)
removed_at old i n e = ap (λ ms. without n ms) (map-append named_view (take i old) (drop (suc i) old) ∙ rw (take-map, drop-map) refl) ∙ sym (without_found n (named_views old) i (sym e))
