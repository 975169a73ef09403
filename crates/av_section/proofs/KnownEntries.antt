-- Entries of a palette whose states a table knows.
use Rattle.std.proofs.Common.{◌≡◌, ℕ, ◌<◌, ◌+◌, List, [], ◌∷◌, ◌++◌, length, get_or, take, map, Option, Some, None, IfSome, option_and_then, true, refl, sym, ap, ◌∙◌, arith, length-append, inl, inr}
use Rattle.std.specs.List.{list_all, slice_get}
use Rattle.std.proofs.lemmas.Bool.{cases_lt}
use Rattle.std.proofs.lemmas.List.{get_or_append_left}
use Rattle.std.proofs.Math.Seq.{get_or-append_seam}
use Rattle.av_tags.specs.Nbt.{Nbt, NamedTag}
use Rattle.av_tags.specs.ByName.{tag_of}
use Rattle.av_types.specs.Options.{◌>>=◌}
use Rattle.av_tags.specs.Shape.{text_of, each}
use Rattle.av_tags.proofs.Each.{each_more, each_parts}
use Rattle.av_state.specs.BlockState.{Property, BlockState, air, in_order, meant, storable}
use Rattle.av_state.specs.StateList.{number_in, with_state, with_states}
use Rattle.av_state.proofs.Numbering.{number_in-there, number_in-any}
use Rattle.av_section.specs.Palette.{name_key, properties_key, properties_in, is_of_entry, written_state}
use Rattle.av_section.specs.Known.{IsKnown, AreKnown}

numbered : (st : List BlockState) (s form : BlockState) (n : Option ℕ) → meant s ≡ Some form → number_in st form ≡ n → IfSome n (IsKnown st (Some s))
numbered st s form None e h = tt
numbered st s form (Some k) e h = record { told = s; told_is = refl; form = form; form_is = e; number_is = h }

formed : (st : List BlockState) (s : BlockState) (m : Option BlockState) → meant s ≡ m → IfSome (option_and_then (number_in st) m) (IsKnown st (Some s))
formed st s None e = tt
formed st s (Some form) e = numbered st s form (number_in st form) e refl

-- the number of the form of a state, if there is one, is known
pub known_state : (st : List BlockState) (o : Option BlockState) (found : Option ℕ) → found ≡ option_and_then (number_in st) (option_and_then meant o) → IfSome found (IsKnown st o)
known_state st None found h = rw h tt
known_state st (Some s) found h = rw h (formed st s (meant s) refl)

-- what tags describe, where their parts are known
pub written : (tags : List NamedTag) (t : Nbt) (name : List ℕ) (ps : List Property) → tag_of name_key tags ≡ Some t → text_of t ≡ Some name
    → properties_in (tag_of properties_key tags) ≡ Some (in_order ps) → list_all is_of_entry tags ≡ true → written_state tags ≡ storable (record { name = name; properties = in_order ps })
written tags t name ps a b c d = rw (a, b, c, d) refl

with_states-more : (st forms : List BlockState) (f : BlockState) → with_states st (forms ++ f ∷ []) ≡ with_state (with_states st forms) f
with_states-more st [] f = refl
with_states-more st (g ∷ forms) f = with_states-more (with_state st g) forms f

joined : (o : Option BlockState) (next : Option (List BlockState)) (first : BlockState) (others forms : List BlockState) (f : BlockState) → o ≡ Some first → next ≡ Some (others ++ f ∷ []) → forms ≡ first ∷ others
    → (o >>= λ y. next >>= λ ys. Some (y ∷ ys)) ≡ Some (forms ++ f ∷ [])
joined o next first others forms f a b c = rw (a, b, c) refl

-- one more entry
pub known_more : {A : Type 0} (state : Nbt → Option BlockState) (v : A → Nbt) (entries : List A) (i : ℕ) (d : A) (st : List BlockState) (numbers : List ℕ) (n : ℕ) → i < length entries
    → AreKnown st (each state (map v (take i entries))) numbers → IsKnown st (state (v (get_or entries i d))) n → AreKnown st (each state (map v (take (i + 1) entries))) (numbers ++ n ∷ [])
known_more state v entries i d st numbers n low a k =
    let old = a.numbered in
    let there : with_state st k.form ≡ st = rw (number_in-any st k.form n k.number_is) refl in
    let same : st ≡ with_states st (old.forms ++ k.form ∷ []) = sym (with_states-more st old.forms k.form ∙ ap (λ l. with_state l k.form) (sym old.states) ∙ there) in
    record {
      told = a.told ++ k.told ∷ [];
      told_are = each_more state v entries i d a.told k.told low a.told_are k.told_is;
      numbered = record {
        forms = old.forms ++ k.form ∷ [];
        forms_are = all_meant a.told old.forms k.told k.form old.forms_are k.form_is;
        states = same;
        count = length-append numbers (n ∷ []) ∙ ap (λ c. c + 1) old.count ∙ sym (length-append old.forms (k.form ∷ []));
        each_is = λ j within. at_each j within;
      };
    }
  where
    all_meant : (told forms : List BlockState) (s f : BlockState) → each meant told ≡ Some forms → meant s ≡ Some f → each meant (told ++ s ∷ []) ≡ Some (forms ++ f ∷ [])
    all_meant [] forms s f h e = let none : forms ≡ [] = cc in rw (none, e) refl
    all_meant (t ∷ told) forms s f h e =
        let p = each_parts (meant t) (each meant told) forms h in
        joined (meant t) (each meant (told ++ s ∷ [])) p.first p.others forms f p.first_is (all_meant told p.others s f p.others_are e) p.all_are

    at_each : (j : ℕ) → j < length (numbers ++ n ∷ []) → slice_get st (get_or (numbers ++ n ∷ []) j 0) ≡ Some (get_or (a.numbered.forms ++ k.form ∷ []) j air)
    at_each j within = elim (cases_lt j (length numbers)) [
      | inl before ↦ rw (get_or_append_left numbers (n ∷ []) 0 j before, get_or_append_left a.numbered.forms (k.form ∷ []) air j (omega (arith, before, a.numbered.count))) (a.numbered.each_is j before)
      | inr past ↦ (
          let last : j ≡ length numbers = omega (arith, past, within, length-append numbers (n ∷ [])) in
          let of_forms : j ≡ length a.numbered.forms = last ∙ a.numbered.count in
          ap (λ q. slice_get st (get_or (numbers ++ n ∷ []) q 0)) last ∙ ap (slice_get st) (get_or-append_seam numbers n [] 0) ∙ number_in-there st k.form n k.number_is
          ∙ ap Some (sym (ap (λ q. get_or (a.numbered.forms ++ k.form ∷ []) q air) of_forms ∙ get_or-append_seam a.numbered.forms k.form [] air)))
    ]
