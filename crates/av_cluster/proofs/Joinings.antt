-- Entries joined by the sections of their territories.
use Rattle.std.proofs.Common.{◌≡◌, ℕ, zero, suc, ◌+◌, ◌<◌, ◌↔◌, Bool, true, false, cond, ◌&&◌, List, get_or, take, [], ◌∷◌, ◌++◌, length, None, Some, slice_get, ◌⊎◌, inl, inr, refl, sym, ap, ◌∙◌, subst, arith, IsTrue}
use Rattle.std.specs.Ordering.{int_eq}
use Rattle.std.proofs.lemmas.Int.{ints}
use Rattle.std.specs.List.{Contains}
use Rattle.std.proofs.lemmas.Bool.{cases_eq, and_parts}
use Rattle.std.proofs.lemmas.Option.{slice_get-get_or, slice_get_within, get_or_from_slice_get, same_Some}
use Rattle.av_types.specs.declared.position.SectionPos.{SectionPos}
use Rattle.av_types.specs.declared.tick.Entry.{Entry}
use Rattle.av_types.specs.Positions.{section_of}
use Rattle.av_cells.specs.World.{World}
use Rattle.av_play.specs.declared.event.DueEntry.{DueEntry}
use Rattle.av_play.specs.Parts.{InTerritory, ShareSection, AreLinked, numbered}
use Rattle.av_play.specs.Labels.{AreLabelled}
use Rattle.av_play.specs.Groups.{AreFirst}
use Rattle.av_play.proofs.Chains.{linked_on, linked_back}
use Rattle.av_cluster.specs.Forest.{first, IsFalling, AreJoined, IsEither}
use Rattle.av_cluster.specs.Joining.{same_key, key_of, Touches, AreIndicesLinked, Owners, IsTouched, IsNoted, IsBefore}
use Rattle.std.proofs.lemmas.List.Elements.{Contains-append_left, Contains-push, Contains-push_cases}
use Rattle.std.proofs.Math.Seq.{take-length}
use Rattle.av_play.proofs.Lists.{none_contained}
use Rattle.av_cluster.proofs.Forests.{first_below, first_twice}

-- sections with the same key are the same
pub same_keyed : (s t : SectionPos) → same_key (key_of s) (key_of t) ≡ true → s ≡ t
same_keyed s t e =
    let a = and_parts (int_eq s.x t.x && int_eq s.y t.y) (int_eq s.z t.z) e in
    let b = and_parts (int_eq s.x t.x) (int_eq s.y t.y) a.0 in
    let x : s.x ≡ t.x = (let h = b.0 in grind (arith, ints)) in
    let y : s.y ≡ t.y = (let h = b.1 in grind (arith, ints)) in
    let z : s.z ≡ t.z = (let h = a.1 in grind (arith, ints)) in
    λ i. record { x = x i; y = y i; z = z i }

pub own_key : (s : SectionPos) → same_key (key_of s) (key_of s) ≡ true
own_key s = grind (arith, ints)

numbered_at : (n : ℕ) (es : List Entry) (k : ℕ) (e : Entry) → slice_get es k ≡ Some e → slice_get (numbered n es) k ≡ Some (record { index = n + k; entry = e })
numbered_at n [] k e h = cc
numbered_at n (x ∷ es) zero e h = let g : x ≡ e = cc in let m : n ≡ n + 0 = omega arith in λ i. Some (record { index = m i; entry = g i })
numbered_at n (x ∷ es) (suc k) e h = let m : suc n + k ≡ n + suc k = omega arith in numbered_at (suc n) es k e h ∙ ap (λ j. Some (record { index = j; entry = e })) m

pub numbered_there : (es : List Entry) (k : ℕ) (e : Entry) → slice_get es k ≡ Some e → slice_get (numbered 0 es) k ≡ Some (record { index = k; entry = e })
numbered_there es k e h = let m : 0 + k ≡ k = omega arith in numbered_at 0 es k e h ∙ ap (λ j. Some (record { index = j; entry = e })) m

numbered_index : (n : ℕ) (es : List Entry) (k : ℕ) (x : DueEntry) → slice_get (numbered n es) k ≡ Some x → (x.index ≡ n + k) × (slice_get es k ≡ Some x.entry)
numbered_index n [] k x h = cc
numbered_index n (e ∷ es) zero x h = let g : (record { index = n; entry = e }) ≡ x = cc in let m : n ≡ n + 0 = omega arith in (sym (ap (λ (y : DueEntry). y.index) g) ∙ m, ap (λ (y : DueEntry). Some y.entry) g)
numbered_index n (e ∷ es) (suc k) x h = let r = numbered_index (suc n) es k x h in let m : suc n + k ≡ n + suc k = omega arith in (r.0 ∙ m, r.1)

some_is : (x y : DueEntry) → Some x ≡ Some y → x ≡ y
some_is x y e = cc

in_list : (es : List DueEntry) (k : ℕ) (x : DueEntry) → slice_get es k ≡ Some x → Contains es x
in_list es k x h = (k, slice_get_within es k x h, get_or_from_slice_get es k x x h)

-- links between indices
pub linked_indices_back : (w : World) (es : List Entry) (k l : ℕ) → AreIndicesLinked w es k l → AreIndicesLinked w es l k
linked_indices_back w es k l h = record { one = h.other; other = h.one; one_at = h.other_at; other_at = h.one_at; linked = linked_back w (numbered 0 es) h.one h.other h.linked }

pub linked_indices_on : (w : World) (es : List Entry) (k l m : ℕ) → AreIndicesLinked w es k l → AreIndicesLinked w es l m → AreIndicesLinked w es k m
linked_indices_on w es k l m h g =
    let e : h.other ≡ g.one = some_is h.other g.one (sym h.other_at ∙ g.one_at) in
    record {
      one = h.one;
      other = g.other;
      one_at = h.one_at;
      other_at = g.other_at;
      linked = linked_on w (numbered 0 es) h.one h.other g.other h.linked (in_list (numbered 0 es) l h.other h.other_at) (subst (λ (y : DueEntry). AreLinked w (numbered 0 es) y g.other) (sym e) g.linked);
    }

pub linked_by : (w : World) (es : List Entry) (k l : ℕ) (s : SectionPos) → Touches w es k s → Touches w es l s → AreIndicesLinked w es k l
linked_by w es k l s h g =
    record {
      one = record { index = k; entry = h.entry };
      other = record { index = l; entry = g.entry };
      one_at = numbered_there es k h.entry h.is_at;
      other_at = numbered_there es l g.entry g.is_at;
      linked = record { between = []; links = record { section = s; first = h.territory; second = g.territory } };
    }

-- one more section of one more index
module _ (w : World) (es : List Entry) (old new : List ℕ) (was now : Owners) (IsDone : ℕ → SectionPos → Type 0) (h : IsNoted w es old was IsDone) (s : SectionPos) (index : ℕ) (touches : Touches w es index s) (touched : IsTouched old new was now s index) where
  abbrev NowDone : ℕ → SectionPos → Type 0
  NowDone k t = IsDone k t ⊎ ((k ≡ index) × (t ≡ s))

  inside : index < length es
  inside = slice_get_within es index touches.entry touches.is_at

  done_now : (k : ℕ) (t : SectionPos) → NowDone k t → Touches w es k t
  done_now k t (inl d) = h.done k t d
  done_now k t (inr e) = subst (λ n. Touches w es n t) (sym e.0) (subst (Touches w es index) (sym e.1) touches)

  module _ (owner : ℕ) (had : was s ≡ Some owner) (j : AreJoined old new owner index) (same : (t : SectionPos) → now t ≡ was t) where
    to_owner : AreIndicesLinked w es index owner
    to_owner = linked_by w es index owner s touches (h.done owner s (h.owned s owner had))

    had_inside : owner < length es
    had_inside = let t = h.done owner s (h.owned s owner had) in slice_get_within es owner t.entry t.is_at

    to_either : (i : ℕ) → IsEither (first old owner) (first old index) i → AreIndicesLinked w es index i
    to_either i (inl e) = subst (AreIndicesLinked w es index) (sym e) (linked_indices_on w es index owner (first old owner) to_owner (h.linked owner had_inside))
    to_either i (inr e) = subst (AreIndicesLinked w es index) (sym e) (h.linked index inside)

    linked_now : (k : ℕ) → k < length es → (first new k ≡ first old k) ⊎ (IsEither (first old owner) (first old index) (first old k) × IsEither (first old owner) (first old index) (first new k)) → AreIndicesLinked w es k (first new k)
    linked_now k l (inl e) = subst (AreIndicesLinked w es k) (sym e) (h.linked k l)
    linked_now k l (inr e) =
        linked_indices_on w es k (first old k) (first new k) (h.linked k l)
        (linked_indices_on w es (first old k) index (first new k) (linked_indices_back w es index (first old k) (to_either (first old k) e.0)) (to_either (first new k) e.1))

    joined_now : (k : ℕ) (t : SectionPos) → NowDone k t → (i : ℕ) × (now t ≡ Some i) × (first new i ≡ first new k)
    joined_now k t (inl d) = let r = h.joined k t d in (r.0, same t ∙ r.1, j.kept r.0 k r.2)
    joined_now k t (inr e) = (owner, same t ∙ ap was e.1 ∙ had, j.together ∙ ap (first new) (sym e.0))

    pub noted_joined : IsNoted w es new now NowDone
    noted_joined =
        record {
          falling = touched.falling;
          count = touched.count ∙ h.count;
          done = done_now;
          owned = λ t k e. inl (h.owned t k (sym (same t) ∙ e));
          joined = joined_now;
          linked = λ k l. linked_now k l (j.only k);
        }

  module _ (none : was s ≡ None) (kept : new ≡ old) (put : (t : SectionPos) → now t ≡ cond (same_key (key_of s) (key_of t)) (Some index) (was t)) where
    some_index : (k : ℕ) → Some index ≡ Some k → k ≡ index
    some_index k e = cc

    owned_now : (t : SectionPos) (k : ℕ) → now t ≡ Some k → NowDone k t
    owned_now t k e = by (same_key (key_of s) (key_of t)) refl (sym (put t) ∙ e) where
      by : (b : Bool) → same_key (key_of s) (key_of t) ≡ b → cond b (Some index) (was t) ≡ Some k → NowDone k t
      by true f g = inr (some_index k g, sym (same_keyed s t f))
      by false f g = inl (h.owned t k g)

    joined_new : (k : ℕ) (t : SectionPos) → NowDone k t → (i : ℕ) × (now t ≡ Some i) × (first new i ≡ first new k)
    joined_new k t (inl d) = let r = h.joined k t d in (r.0, by (same_key (key_of s) (key_of t)) refl r.1, subst (λ ps. first ps r.0 ≡ first ps k) (sym kept) r.2) where
      by : (b : Bool) → same_key (key_of s) (key_of t) ≡ b → {i : ℕ} → was t ≡ Some i → now t ≡ Some i
      by true f {i} g = let c : None ≡ Some i = sym none ∙ ap was (same_keyed s t f) ∙ g in cc
      by false f {i} g = put t ∙ ap (λ c. cond c (Some index) (was t)) f ∙ g
    joined_new k t (inr e) = (index, ap now e.1 ∙ put s ∙ ap (λ c. cond c (Some index) (was s)) (own_key s), ap (first new) (sym e.0))

    pub noted_owned : IsNoted w es new now NowDone
    noted_owned =
        record {
          falling = touched.falling;
          count = touched.count ∙ h.count;
          done = done_now;
          owned = owned_now;
          joined = joined_new;
          linked = λ k l. subst (λ ps. AreIndicesLinked w es k (first ps k)) (sym kept) (h.linked k l);
        }

  pub noted_touch : IsNoted w es new now NowDone
  noted_touch = by touched.case where
    by : ((owner : ℕ) × (was s ≡ Some owner) × AreJoined old new owner index × ((t : SectionPos) → now t ≡ was t)) ⊎ ((was s ≡ None) × (new ≡ old) × ((t : SectionPos) → now t ≡ cond (same_key (key_of s) (key_of t)) (Some index) (was t))) → IsNoted w es new now NowDone
    by (inl c) = noted_joined c.0 c.1 c.2 c.3
    by (inr c) = noted_owned c.0 c.1 c.2

-- an index that touches the sections of one before it
module _ (w : World) (es : List Entry) (old new : List ℕ) (owners : Owners) (b index : ℕ) (h : IsNoted w es old owners (IsBefore w es index)) (less : b < index) (inside : index < length es) (j : AreJoined old new b index) (same : (s : SectionPos) → Touches w es index s → Touches w es b s) (link : AreIndicesLinked w es index b) where
  beside_either : (i : ℕ) → IsEither (first old b) (first old index) i → AreIndicesLinked w es index i
  beside_either i (inl e) = subst (AreIndicesLinked w es index) (sym e) (linked_indices_on w es index b (first old b) link (h.linked b (omega (arith, less, inside))))
  beside_either i (inr e) = subst (AreIndicesLinked w es index) (sym e) (h.linked index inside)

  linked_beside : (k : ℕ) → k < length es → (first new k ≡ first old k) ⊎ (IsEither (first old b) (first old index) (first old k) × IsEither (first old b) (first old index) (first new k)) → AreIndicesLinked w es k (first new k)
  linked_beside k l (inl e) = subst (AreIndicesLinked w es k) (sym e) (h.linked k l)
  linked_beside k l (inr e) =
      linked_indices_on w es k (first old k) (first new k) (h.linked k l)
      (linked_indices_on w es (first old k) index (first new k) (linked_indices_back w es index (first old k) (beside_either (first old k) e.0)) (beside_either (first new k) e.1))

  joined_beside : (k : ℕ) (s : SectionPos) → IsBefore w es (index + 1) k s → (i : ℕ) × (owners s ≡ Some i) × (first new i ≡ first new k)
  joined_beside k s d = by (cases_eq k index) where
    by : (k ≡ index) ⊎ (¬ (k ≡ index)) → (i : ℕ) × (owners s ≡ Some i) × (first new i ≡ first new k)
    by (inl g) =
        let r = h.joined b s (less, same s (subst (λ n. Touches w es n s) g d.1)) in
        (r.0, r.1, j.kept r.0 b r.2 ∙ j.together ∙ ap (first new) (sym g))
    by (inr g) = let r = h.joined k s (let l = d.0 in omega (arith, l, g), d.1) in (r.0, r.1, j.kept r.0 k r.2)

  pub noted_beside : IsNoted w es new owners (IsBefore w es (index + 1))
  noted_beside =
      record {
        falling = j.falling;
        count = j.count ∙ h.count;
        done = λ k s d. d.1;
        owned = λ s k e. let d = h.owned s k e in (let l = d.0 in omega (arith, l), d.1);
        joined = joined_beside;
        linked = λ k l. linked_beside k l (j.only k);
      }

-- what was looked at, said otherwise
pub noted_as : (w : World) (es : List Entry) (ps : List ℕ) (owners : Owners) (D E : ℕ → SectionPos → Type 0) → ((k : ℕ) (s : SectionPos) → D k s → E k s) → ((k : ℕ) (s : SectionPos) → E k s → D k s) → IsNoted w es ps owners D → IsNoted w es ps owners E
noted_as w es ps owners D E f g h =
    record {
      falling = h.falling;
      count = h.count;
      done = λ k s d. h.done k s (g k s d);
      owned = λ s k e. f k s (h.owned s k e);
      joined = λ k s d. h.joined k s (g k s d);
      linked = h.linked;
    }

pub around_itself : (w : World) (es : List Entry) (k : ℕ) (e : Entry) → slice_get es k ≡ Some e → IsTrue (w.loaded e.pos) → Touches w es k (section_of e.pos)
around_itself w es k e h l =
    record {
      entry = e;
      is_at = h;
      territory = record { block = e.pos; in_reach = record { west = omega (arith, ints); east = omega (arith, ints); low = omega (arith, ints); high = omega (arith, ints); north = omega (arith, ints); south = omega (arith, ints) }; loaded = l; lies = refl };
    }

at_or : (es : List Entry) (k : ℕ) → k < length es → (e : Entry) × (slice_get es k ≡ Some e)
at_or [] k h = absurd (omega arith)
at_or (e ∷ es) zero h = (e, refl)
at_or (e ∷ es) (suc k) h = at_or es k (omega arith)

-- at the start
pub noted_none : (w : World) (es : List Entry) (ps : List ℕ) (owners : Owners) → IsFalling ps → length ps ≡ length es → ((k : ℕ) → k < length es → first ps k ≡ k) → ((s : SectionPos) → owners s ≡ None) → ((k : ℕ) (e : Entry) → slice_get es k ≡ Some e → IsTrue (w.loaded e.pos)) → IsNoted w es ps owners (IsBefore w es 0)
noted_none w es ps owners f c own none loaded =
    record {
      falling = f;
      count = c;
      done = λ k s d. d.1;
      owned = λ s k e. let g : None ≡ Some k = sym (none s) ∙ e in cc;
      joined = λ k s d. let g = d.0 in absurd (omega arith);
      linked = λ k l. let r = at_or es k l in let t = around_itself w es k r.0 r.1 (loaded k r.0 r.1) in subst (AreIndicesLinked w es k) (sym (own k l)) (linked_by w es k k (section_of r.0.pos) t t);
    }

-- at the end
module _ (w : World) (es : List Entry) (ps : List ℕ) (owners : Owners) (h : IsNoted w es ps owners (IsBefore w es (length es))) where
  abbrev all : List DueEntry
  all = numbered 0 es

  pub where_is : (a : DueEntry) → Contains all a → (slice_get all a.index ≡ Some a) × (slice_get es a.index ≡ Some a.entry)
  where_is a c = let g : slice_get all c.0 ≡ Some a = at_index all a c in let r = numbered_index 0 es c.0 a g in let e : c.0 ≡ a.index = (let p = r.0 in omega arith) in (subst (λ i. slice_get all i ≡ Some a) e g, subst (λ i. slice_get es i ≡ Some a.entry) e r.1) where
    at_index : (xs : List DueEntry) (x : DueEntry) (d : Contains xs x) → slice_get xs d.0 ≡ Some x
    at_index xs x d = slice_get-get_or xs d.0 x d.1 ∙ ap Some d.2

  same_label : (a b : DueEntry) → Contains all a → Contains all b → ShareSection w a.entry.pos b.entry.pos → first ps a.index ≡ first ps b.index
  same_label a b ca cb s =
      let p = where_is a ca in let q = where_is b cb in
      let x = h.joined a.index s.section (slice_get_within es a.index a.entry p.1, record { entry = a.entry; is_at = p.1; territory = s.first }) in
      let y = h.joined b.index s.section (slice_get_within es b.index b.entry q.1, record { entry = b.entry; is_at = q.1; territory = s.second }) in
      sym x.2 ∙ ap (first ps) (same_Some x.0 y.0 (sym x.1 ∙ y.1)) ∙ y.2

  linked_label : (a b : DueEntry) → Contains all a → Contains all b → first ps a.index ≡ first ps b.index → AreLinked w all a b
  linked_label a b ca cb e =
      let p = where_is a ca in let q = where_is b cb in
      let x = h.linked a.index (slice_get_within es a.index a.entry p.1) in
      let y = subst (AreIndicesLinked w es b.index) (sym e) (h.linked b.index (slice_get_within es b.index b.entry q.1)) in
      let z = linked_indices_on w es a.index (first ps a.index) b.index x (linked_indices_back w es b.index (first ps a.index) y) in
      subst (λ (u : DueEntry). AreLinked w all u b) (some_is z.one a (sym z.one_at ∙ p.0)) (subst (λ (u : DueEntry). AreLinked w all z.one u) (some_is z.other b (sym z.other_at ∙ q.0)) z.linked)

  pub labelled : AreLabelled w all (first ps)
  labelled = record { same = same_label; linked = linked_label }

  pub are_first : AreFirst (length es) (first ps)
  are_first i l = (first_below ps h.falling i, first_twice ps h.falling i)

-- the indices before one, and some sections of this one
abbrev pub IsWithin : World → List Entry → ℕ → List SectionPos → ℕ → SectionPos → Type 0
IsWithin w es index xs k s = IsBefore w es index k s ⊎ ((k ≡ index) × Contains xs s)

pub within_none : (w : World) (es : List Entry) (ps : List ℕ) (owners : Owners) (index : ℕ) → IsNoted w es ps owners (IsBefore w es index) → IsNoted w es ps owners (IsWithin w es index [])
within_none w es ps owners index h = noted_as w es ps owners (IsBefore w es index) (IsWithin w es index []) (λ k s d. inl d) back h where
  back : (k : ℕ) (s : SectionPos) → IsWithin w es index [] k s → IsBefore w es index k s
  back k s (inl d) = d
  back k s (inr d) = absurd (none_contained s d.1)

pub within_more : (w : World) (es : List Entry) (old new : List ℕ) (was now : Owners) (index : ℕ) (xs ys : List SectionPos) (x : SectionPos) → ys ≡ xs ++ x ∷ [] → IsNoted w es old was (IsWithin w es index xs) → Touches w es index x → IsTouched old new was now x index → IsNoted w es new now (IsWithin w es index ys)
within_more w es old new was now index xs ys x e h t i =
    subst (λ zs. IsNoted w es new now (IsWithin w es index zs)) (sym e)
    (noted_as w es new now (λ k s. IsWithin w es index xs k s ⊎ ((k ≡ index) × (s ≡ x))) (IsWithin w es index (xs ++ x ∷ [])) there back (noted_touch w es old new was now (IsWithin w es index xs) h x index t i))
  where
    there : (k : ℕ) (s : SectionPos) → IsWithin w es index xs k s ⊎ ((k ≡ index) × (s ≡ x)) → IsWithin w es index (xs ++ x ∷ []) k s
    there k s (inl (inl d)) = inl d
    there k s (inl (inr d)) = inr (d.0, Contains-append_left xs (x ∷ []) s d.1)
    there k s (inr d) = inr (d.0, subst (Contains (xs ++ x ∷ [])) (sym d.1) (Contains-push xs x))

    back : (k : ℕ) (s : SectionPos) → IsWithin w es index (xs ++ x ∷ []) k s → IsWithin w es index xs k s ⊎ ((k ≡ index) × (s ≡ x))
    back k s (inl d) = inl (inl d)
    back k s (inr d) = by (Contains-push_cases xs x s d.1) where
      by : Contains xs s ⊎ (x ≡ s) → IsWithin w es index xs k s ⊎ ((k ≡ index) × (s ≡ x))
      by (inl c) = inl (inr (d.0, c))
      by (inr g) = inr (d.0, sym g)

pub within_all : (w : World) (es : List Entry) (ps : List ℕ) (owners : Owners) (index : ℕ) (xs : List SectionPos) (e : Entry) → slice_get es index ≡ Some e → ((s : SectionPos) → Contains xs s ↔ InTerritory w e.pos s) → IsNoted w es ps owners (IsWithin w es index xs) → IsNoted w es ps owners (IsBefore w es (index + 1))
within_all w es ps owners index xs e at exact h = noted_as w es ps owners (IsWithin w es index xs) (IsBefore w es (index + 1)) there back h where
  there : (k : ℕ) (s : SectionPos) → IsWithin w es index xs k s → IsBefore w es (index + 1) k s
  there k s (inl d) = (let g = d.0 in omega arith, d.1)
  there k s (inr d) = (let g = d.0 in omega arith, record { entry = e; is_at = ap (slice_get es) d.0 ∙ at; territory = (exact s).0 d.1 })

  some_entry : (x y : Entry) → Some x ≡ Some y → x ≡ y
  some_entry x y g = cc

  back : (k : ℕ) (s : SectionPos) → IsBefore w es (index + 1) k s → IsWithin w es index xs k s
  back k s d = by (cases_eq k index) where
    by : (k ≡ index) ⊎ (¬ (k ≡ index)) → IsWithin w es index xs k s
    by (inl g) = inr (g, (exact s).1 (subst (λ (y : Entry). InTerritory w y.pos s) (some_entry d.1.entry e (sym d.1.is_at ∙ ap (slice_get es) g ∙ at)) d.1.territory))
    by (inr g) = inl (let l = d.0 in omega arith, d.1)

-- the next section of a territory
pub touches_at : (w : World) (es : List Entry) (index : ℕ) (d : Entry) → index < length es → (xs ys : List SectionPos) → xs ≡ ys → ((s : SectionPos) → Contains ys s ↔ InTerritory w (get_or es index d).pos s) → (i : ℕ) → i < length xs → (ds : SectionPos) → Touches w es index (get_or xs i ds)
touches_at w es index d h xs ys e exact i l ds =
    let x = get_or xs i ds in
    record {
      entry = get_or es index d;
      is_at = slice_get-get_or es index d h;
      territory = (exact x).0 (subst (λ zs. Contains zs x) e (i, l, get_or_from_slice_get xs i x x (slice_get-get_or xs i ds l)));
    }

pub taken_all : {X : Type 0} (xs : List X) (i : ℕ) → i ≡ length xs → take i xs ≡ xs
taken_all xs i e = ap (λ n. take n xs) e ∙ take-length xs

pub within_end : (w : World) (es : List Entry) (ps : List ℕ) (owners : Owners) (index : ℕ) (d : Entry) → index < length es → (xs ys : List SectionPos) → xs ≡ ys → ((s : SectionPos) → Contains ys s ↔ InTerritory w (get_or es index d).pos s) → (i : ℕ) → i ≡ length xs → IsNoted w es ps owners (IsWithin w es index (take i xs)) → IsNoted w es ps owners (IsBefore w es (index + 1))
within_end w es ps owners index d h xs ys e exact i l n =
    within_all w es ps owners index ys (get_or es index d) (slice_get-get_or es index d h) exact (subst (λ zs. IsNoted w es ps owners (IsWithin w es index zs)) (taken_all xs i l ∙ e) n)

pub owner_inside : (w : World) (es : List Entry) (ps : List ℕ) (owners : Owners) (D : ℕ → SectionPos → Type 0) → IsNoted w es ps owners D → (s : SectionPos) (k : ℕ) → owners s ≡ Some k → k < length ps
owner_inside w es ps owners D h s k e = let t = h.done k s (h.owned s k e) in let l = slice_get_within es k t.entry t.is_at in let c = h.count in omega arith
