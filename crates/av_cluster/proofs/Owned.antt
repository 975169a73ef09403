-- The sections of a part are those of its entries' territories.
use Rattle.std.proofs.Common.{◌≡◌, ◌↔◌, ℕ, ℤ, zero, ◌<◌, nat_eq, Bool, true, false, cond, List, [], ◌∷◌, length, get_or, filter, Some, ◌⊎◌, inl, inr, refl, sym, ap, ◌∙◌, subst, arith}
use Rattle.std.specs.List.{Contains}
use Rattle.std.specs.Map.{keys_of}
use Rattle.std.proofs.lemmas.List.Elements.{Contains-append_right, Contains-append_cases, Contains-push_cases}
use Rattle.std.proofs.lemmas.Option.{slice_get_within, get_or_from_slice_get}
use Rattle.std.proofs.lemmas.Bool.{eqb-true, eq-eqb}
use Rattle.av_types.specs.declared.position.SectionPos.{SectionPos}
use Rattle.av_types.specs.declared.tick.Entry.{Entry}
use Rattle.av_cells.specs.World.{World}
use Rattle.av_play.specs.declared.event.DueEntry.{DueEntry}
use Rattle.av_play.specs.Parts.{numbered, part_at}
use Rattle.av_play.specs.Laws.{IsOfPart}
use Rattle.av_play.specs.Groups.{rank}
use Rattle.av_play.proofs.Lists.{kept, none_contained}
use Rattle.av_cluster.specs.Forest.{first}
use Rattle.av_cluster.specs.Joining.{same_key, key_of, owner_in, IsNoted, IsBefore}
use Rattle.av_cluster.specs.Clusters.{AreShared}
use Rattle.av_cluster.specs.Gathering.{part_by, IsGathered}
use Rattle.av_cluster.proofs.Joinings.{numbered_there, where_is, same_keyed}
use Rattle.av_cluster.proofs.Gathers.{are_first, parts_each}

-- what is chosen by a test passes it, and was there
chosen : (p : DueEntry → Bool) (xs : List DueEntry) (x : DueEntry) → Contains (filter p xs) x → (p x ≡ true) × Contains xs x
chosen p [] x c = absurd (none_contained x c)
chosen p (y ∷ ys) x c = by (p y) refl (chosen p ys x) c where
  by : (b : Bool) → p y ≡ b → (Contains (filter p ys) x → (p x ≡ true) × Contains ys x) → Contains (cond b (y ∷ filter p ys) (filter p ys)) x → (p x ≡ true) × Contains (y ∷ ys) x
  by false e more d = let r = more d in (r.0, Contains-append_right (y ∷ []) ys x r.1)
  by true e more d = cases (Contains-append_cases (y ∷ []) (filter p ys) x d) where
    last : Contains [] x ⊎ (y ≡ x) → (p x ≡ true) × Contains (y ∷ ys) x
    last (inl n) = absurd (none_contained x n)
    last (inr g) = (ap p (sym g) ∙ e, subst (Contains (y ∷ ys)) g (zero, omega arith, refl))

    cases : Contains (y ∷ []) x ⊎ Contains (filter p ys) x → (p x ≡ true) × Contains (y ∷ ys) x
    cases (inl n) = last (Contains-push_cases [] y x n)
    cases (inr n) = let r = more n in (r.0, Contains-append_right (y ∷ []) ys x r.1)

module _ (w : World) (es : List Entry) (ps : List ℕ) (entries : List ((ℤ × ℤ × ℤ) × ℕ)) (h : IsNoted w es ps (owner_in entries) (IsBefore w es (length es))) (numbers : List ℕ) (are : (k : ℕ) → k < length es → get_or numbers k 0 ≡ part_by (first ps) k) where
  abbrev part : ℕ → List DueEntry
  part n = filter (λ x. nat_eq (part_by (first ps) x.index) n) (numbered 0 es)

  -- a section of a part's entry has an owner in the part
  pub owner_of_part : (n : ℕ) (s : SectionPos) → IsOfPart w (part n) s → (o : ℕ) × (owner_in entries s ≡ Some o) × (get_or numbers o 0 ≡ n)
  owner_of_part n s g =
      let c = chosen (λ x. nat_eq (part_by (first ps) x.index) n) (numbered 0 es) g.owner g.there in
      let a = where_is w es ps (owner_in entries) h g.owner c.1 in
      let j = h.joined g.owner.index s (slice_get_within es g.owner.index g.owner.entry a.1, record { entry = g.owner.entry; is_at = a.1; territory = g.territory }) in
      let t = h.done j.0 s (h.owned s j.0 j.1) in
      (j.0, j.1, are j.0 (slice_get_within es j.0 t.entry t.is_at) ∙ ap (rank (first ps)) j.2 ∙ eqb-true (part_by (first ps) g.owner.index) n c.0)

  -- and a section whose owner is in a part is of the part
  pub part_of_owner : (n : ℕ) (s : SectionPos) (o : ℕ) → owner_in entries s ≡ Some o → get_or numbers o 0 ≡ n → IsOfPart w (part n) s
  part_of_owner n s o e f =
      let t = h.done o s (h.owned s o e) in
      let x : DueEntry = record { index = o; entry = t.entry } in
      let l = slice_get_within es o t.entry t.is_at in
      let a = numbered_there es o t.entry t.is_at in
      record {
        owner = x;
        there = kept (λ (y : DueEntry). nat_eq (part_by (first ps) y.index) n) (numbered 0 es) x (ap (λ m. nat_eq m n) (sym (are o l) ∙ f) ∙ eq-eqb n n refl) (o, slice_get_within (numbered 0 es) o x a, get_or_from_slice_get (numbered 0 es) o x x a);
        territory = t.territory;
      }

same_is : (s : SectionPos) (k : ℤ × ℤ × ℤ) → same_key (key_of s) k ≡ true → k ≡ key_of s
same_is s k e = sym (ap key_of (same_keyed s (record { x = k.0; y = k.1; z = k.2 }) e))

-- a key that is looked up is there
key_there : (entries : List ((ℤ × ℤ × ℤ) × ℕ)) (s : SectionPos) (o : ℕ) → owner_in entries s ≡ Some o → Contains (keys_of entries) (key_of s)
key_there [] s o e = cc
key_there (x ∷ xs) s o e = by (same_key (key_of s) x.0) refl e (key_there xs s o) where
  by : (b : Bool) → same_key (key_of s) x.0 ≡ b → cond b (Some x.1) (owner_in xs s) ≡ Some o → (owner_in xs s ≡ Some o → Contains (keys_of xs) (key_of s)) → Contains (x.0 ∷ keys_of xs) (key_of s)
  by true f g more = subst (Contains (x.0 ∷ keys_of xs)) (same_is s x.0 f) (zero, omega arith, refl)
  by false f g more = Contains-append_right (x.0 ∷ []) (keys_of xs) (key_of s) (more g)

pub sections_exact : (w : World) (es : List Entry) (ps : List ℕ) (entries : List ((ℤ × ℤ × ℤ) × ℕ)) → IsNoted w es ps (owner_in entries) (IsBefore w es (length es)) → (numbers : List ℕ) (parts : List (List DueEntry)) → IsGathered es (first ps) (length es) numbers parts
    → (secs : List (List SectionPos)) → AreShared (owner_in entries) numbers (keys_of entries) secs → (n : ℕ) (s : SectionPos) → Contains (get_or secs n []) s ↔ IsOfPart w (part_at parts n) s
sections_exact w es ps entries h numbers parts g secs shared n s =
    let each = parts_each es (first ps) (are_first ps h.falling (length es)) numbers parts g n in (
      λ c. let t = (shared n s).0 c in subst (λ l. IsOfPart w l s) (sym each) (part_of_owner w es ps entries h numbers g.numbers_are n s t.owner t.owns t.of_part),
      λ o. let t = owner_of_part w es ps entries h numbers g.numbers_are n s (subst (λ l. IsOfPart w l s) each o) in (shared n s).1 (record { key = key_there entries s t.0 t.1; owner = t.0; owns = t.1; of_part = t.2 }),
    )
