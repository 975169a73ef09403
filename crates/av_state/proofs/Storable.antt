-- States that a file can hold: their texts are short, their keys are apart, and so are those of each state of a table.
use Rattle.std.proofs.Common.{◌≡◌, ℕ, zero, suc, ◌<◌, List, [], ◌∷◌, map, Bool, true, false, ◌&&◌, Option, Some, None, slice_get, option_map, refl, ap, ◌∙◌, sym, subst, arith}
use Rattle.std.specs.List.{list_all, AllByRecursion, IsDistinct}
use Rattle.std.specs.Str.{bytes_eq}
use Rattle.std.specs.Ordering.{nat_cmp, is_lt}
use Rattle.std.specs.Cmp.Lexicographic.{slice_cmp}
use Rattle.std.proofs.lemmas.Bool.{and_parts, false≢true}
use Rattle.std.proofs.lemmas.Option.{slice_get-map}
use Rattle.std.proofs.lemmas.Slice.Eq.{bytes_eq-Decides}
use Rattle.av_state.specs.declared.state.State.{State}
use Rattle.av_state.specs.declared.table.StateTable.{StateTable}
use Rattle.av_state.specs.BlockState.{Property, BlockState, is_short, is_short_property, starts_above, keys_rise, is_storable, is_in_order, air, water}
use Rattle.av_state.specs.States.{state_of}
use Rattle.av_state.specs.Table.{states}
use Rattle.av_state.proofs.Ordered.{key_below, key_below-weak, rise-in_order}

-- a key that is below another is not it
apart : (b : Bool) (p q : Property) → key_below p q ≡ true → bytes_eq p.key q.key ≡ b → b ≡ false
apart true p q h e =
    let k : p.key ≡ q.key = (bytes_eq-Decides p.key q.key).0 e in
    absurd (false≢true (sym ((key_below-weak (λ (x : Property). x)).one_way p q h) ∙ ap (λ s. is_lt (slice_cmp nat_cmp s p.key)) (sym k) ∙ ap (λ s. is_lt (slice_cmp nat_cmp p.key s)) k ∙ h))
apart false p q h e = refl

below_step : (b : Bool) (p q r : Property) → key_below p q ≡ true → key_below q r ≡ true → key_below p r ≡ b → b ≡ true
below_step true p q r h k e = refl
below_step false p q r h k e =
    let o = key_below-weak (λ (x : Property). x) in
    absurd (false≢true (sym (o.chain p r q e (o.one_way q r k)) ∙ h))

below_chain : (p q : Property) (rs : List Property) → key_below p q ≡ true → starts_above q.key rs ≡ true → starts_above p.key rs ≡ true
below_chain p q [] h k = refl
below_chain p q (r ∷ rs) h k = below_step (key_below p r) p q r h k refl

apart_all : (p : Property) (qs : List Property) → starts_above p.key qs ≡ true → keys_rise qs ≡ true → AllByRecursion (λ k. bytes_eq p.key k ≡ false) (map (λ q. q.key) qs)
apart_all p [] h k = tt
apart_all p (q ∷ qs) h k =
    let (first, more) = and_parts (starts_above q.key qs) (keys_rise qs) k in
    (apart (bytes_eq p.key q.key) p q h refl, apart_all p qs (below_chain p q qs h first) more)

-- keys that rise are apart
pub rise-distinct : (ps : List Property) → keys_rise ps ≡ true → IsDistinct bytes_eq (map (λ p. p.key) ps)
unfolding IsDistinct
rise-distinct [] h = tt
rise-distinct (p ∷ ps) h =
    let (first, more) = and_parts (starts_above p.key ps) (keys_rise ps) h in
    (apart_all p ps first more, rise-distinct ps more)

short_parts : (s : BlockState) → is_storable s ≡ true → (is_short s.name && list_all is_short_property s.properties) ≡ true
short_parts s h = (and_parts (is_short s.name && list_all is_short_property s.properties) (keys_rise s.properties) h).0

-- the parts of what a file can hold
pub storable-name : (s : BlockState) → is_storable s ≡ true → is_short s.name ≡ true
storable-name s h = (and_parts (is_short s.name) (list_all is_short_property s.properties) (short_parts s h)).0

pub storable-properties : (s : BlockState) → is_storable s ≡ true → list_all is_short_property s.properties ≡ true
storable-properties s h = (and_parts (is_short s.name) (list_all is_short_property s.properties) (short_parts s h)).1

pub storable-rise : (s : BlockState) → is_storable s ≡ true → keys_rise s.properties ≡ true
storable-rise s h = (and_parts (is_short s.name && list_all is_short_property s.properties) (keys_rise s.properties) h).1

pub storable-ordered : (s : BlockState) → is_storable s ≡ true → is_in_order s.properties ≡ true
storable-ordered s h = rise-in_order s.properties (storable-rise s h)

pub storable-distinct : (s : BlockState) → is_storable s ≡ true → IsDistinct bytes_eq (map (λ p. p.key) s.properties)
storable-distinct s h = rise-distinct s.properties (storable-rise s h)

pub air-storable : is_storable air ≡ true
air-storable = refl

pub water-storable : (n : ℕ) → n < 9 → is_storable (water n) ≡ true
water-storable zero h = refl
water-storable (suc zero) h = refl
water-storable (suc (suc zero)) h = refl
water-storable (suc (suc (suc zero))) h = refl
water-storable (suc (suc (suc (suc zero)))) h = refl
water-storable (suc (suc (suc (suc (suc zero))))) h = refl
water-storable (suc (suc (suc (suc (suc (suc zero)))))) h = refl
water-storable (suc (suc (suc (suc (suc (suc (suc zero))))))) h = refl
water-storable (suc (suc (suc (suc (suc (suc (suc (suc zero)))))))) h = refl
water-storable (suc (suc (suc (suc (suc (suc (suc (suc (suc n))))))))) h = absurd (omega arith)

-- a state of the program can stand in a file
pub state-storable : (s : State) → is_storable (state_of s) ≡ true
state-storable s = s.storable

some_step : (o : Option State) (b : BlockState) → option_map state_of o ≡ Some b → is_storable b ≡ true
some_step None b h = absurd cc
some_step (Some s) b h = let e : state_of s ≡ b = cc in subst (λ t. is_storable t ≡ true) e (state-storable s)

-- so can each state of a table
pub table-storable : (t : StateTable) (n : ℕ) (b : BlockState) → slice_get (states t) n ≡ Some b → is_storable b ≡ true
table-storable t n b h = some_step (slice_get t.states.items n) b (sym (slice_get-map state_of t.states.items n) ∙ h)
