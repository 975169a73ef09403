-- What a set of positions holds.
use Rattle.std.proofs.Common.{◌≡◌, ℕ, ◌==◌, ◌&&◌, ◌||◌, Bool, true, false, not, [], refl, sym, ap, ◌∙◌, eq-eqb}
use Rattle.std.specs.BTreeMap.{BTreeMap, get, is_at}
use Rattle.std.specs.Map.{lookup}
use Rattle.std.proofs.lemmas.Bool.{eqb-true}
use Rattle.av_pack.specs.declared.places.PlaceSet.{PlaceSet}
use Rattle.av_types.specs.Positions.{section_of, place_of, same_pos}
use Rattle.av_types.specs.declared.position.Pos.{Pos}
use Rattle.av_types.proofs.Coordinates.{same_block}
use Rattle.av_types.proofs.SamePositions.{same_pos_is, same_pos_from}
use Rattle.av_ticks.specs.declared.positions.SectionKey.{SectionKey}
use Rattle.av_ticks.specs.declared.positions.Positions.{Positions}
use Rattle.av_ticks.specs.Marked.{key_of, key_cmp, is_marked, marked_in}
use Rattle.av_ticks.specs.Held.{holds}
use Rattle.av_ticks.proofs.Marks.{key_is, key_at}

-- a block is its section and its place there
same_spot : (p q : Pos) → key_of p ≡ key_of q → place_of p ≡ place_of q → p ≡ q
same_spot p q key place =
    let section : section_of p ≡ section_of q = λ i. record { x = (key i).x; y = (key i).y; z = (key i).z } in
    same_block p q section place

-- a block that lies in the section of another is that one where their places are the same
same_in_section : (p q : Pos) → key_of p ≡ key_of q → (place_of q == place_of p) ≡ same_pos q p
same_in_section p q key = by (place_of q == place_of p) refl (same_pos q p) refl where
  by : (b : Bool) → (place_of q == place_of p) ≡ b → (c : Bool) → same_pos q p ≡ c → b ≡ c
  by true e true h = refl
  by false e false h = refl
  by true e false h = sym (same_pos_from q p (sym (same_spot p q key (sym (eqb-true (place_of q) (place_of p) e))))) ∙ h
  by false e true h = sym e ∙ eq-eqb (place_of q) (place_of p) (ap place_of (same_pos_is q p h))

-- a block of another section is another one
other_section : (p q : Pos) → is_at (key_cmp (key_of p)) (key_of q) ≡ false → same_pos q p ≡ false
other_section p q apart = by (same_pos q p) refl where
  by : (b : Bool) → same_pos q p ≡ b → b ≡ false
  by true h = sym (key_at (key_of p) (key_of q) (sym (ap key_of (same_pos_is q p h)))) ∙ apart
  by false h = refl

-- what a change of one section by f makes of each position
changed : (m n : BTreeMap SectionKey PlaceSet) (p q : Pos) (f : Bool → Bool → Bool)
    → (marked_in n (key_of p) (place_of q) ≡ f (place_of q == place_of p) (marked_in m (key_of p) (place_of q)))
    → ((k : SectionKey) → is_at (key_cmp (key_of p)) k ≡ false → get key_cmp n k ≡ get key_cmp m k) → ((x : Bool) → x ≡ f false x)
    → marked_in n (key_of q) (place_of q) ≡ f (same_pos q p) (marked_in m (key_of q) (place_of q))
changed m n p q f here others keeps = by (is_at (key_cmp (key_of p)) (key_of q)) refl where
  by : (b : Bool) → is_at (key_cmp (key_of p)) (key_of q) ≡ b → marked_in n (key_of q) (place_of q) ≡ f (same_pos q p) (marked_in m (key_of q) (place_of q))
  by true e =
      let key = key_is (key_of p) (key_of q) e in
      ap (λ k. marked_in n k (place_of q)) (sym key) ∙ here ∙ (λ i. f (same_in_section p q key i) (marked_in m (key i) (place_of q)))
  by false e =
      ap (is_marked (place_of q)) (others (key_of q) e) ∙ keeps (marked_in m (key_of q) (place_of q))
      ∙ ap (λ b. f b (marked_in m (key_of q) (place_of q))) (sym (other_section p q e))

pub held_put : (s t : Positions) (p : Pos) → ((i : ℕ) → marked_in t.sections (key_of p) i ≡ (i == place_of p || marked_in s.sections (key_of p) i))
    → ((k : SectionKey) → is_at (key_cmp (key_of p)) k ≡ false → get key_cmp t.sections k ≡ get key_cmp s.sections k) → (q : Pos) → holds t q ≡ (same_pos q p || holds s q)
unfolding holds
held_put s t p here others q = changed s.sections t.sections p q (λ same x. same || x) (here (place_of q)) others (λ x. refl)

and_not_false : (x : Bool) → x ≡ (x && not false)
and_not_false true = refl
and_not_false false = refl

pub held_out : (s t : Positions) (p : Pos) → ((i : ℕ) → marked_in t.sections (key_of p) i ≡ (marked_in s.sections (key_of p) i && not (i == place_of p)))
    → ((k : SectionKey) → is_at (key_cmp (key_of p)) k ≡ false → get key_cmp t.sections k ≡ get key_cmp s.sections k) → (q : Pos) → holds t q ≡ (holds s q && not (same_pos q p))
unfolding holds
held_out s t p here others q = changed s.sections t.sections p q (λ same x. x && not same) (here (place_of q)) others and_not_false

pub held_same : (s t : Positions) → t.sections.entries ≡ s.sections.entries → (q : Pos) → holds t q ≡ holds s q
unfolding holds
held_same s t e q = ap (λ es. is_marked (place_of q) (lookup (is_at (key_cmp (key_of q))) es)) e

pub held_none : (s : Positions) → s.sections.entries ≡ [] → (q : Pos) → holds s q ≡ false
unfolding holds
held_none s e q = ap (λ es. is_marked (place_of q) (lookup (is_at (key_cmp (key_of q))) es)) e

pub held_is : (s : Positions) (p : Pos) → holds s p ≡ marked_in s.sections (key_of p) (place_of p)
unfolding holds
held_is s p = refl
