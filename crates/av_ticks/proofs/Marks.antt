-- The marks of places in sections.
use Rattle.std.proofs.Common.{◌≡◌, true, refl, sym, ap, ◌∙◌}
use Rattle.std.specs.BTreeMap.{is_at}
use Rattle.std.specs.Cmp.{int_cmp_total}
use Rattle.std.specs.Ordering.{is_eq, int_cmp, ordering_then}
use Rattle.std.specs.declared.cmp.Ordering.{Ordering}
use Rattle.std.specs.declared.cmp.Ordering.TheVariants.{Less, Equal, Greater}
use Rattle.std.proofs.lemmas.Bool.{true≢false}
use Rattle.std.proofs.lemmas.Cmp.{tied_itself}
use Rattle.std.proofs.lemmas.Map.Lookups.{exact_signed}
use Rattle.av_ticks.specs.declared.positions.SectionKey.{SectionKey}
use Rattle.av_ticks.specs.Marked.{key_cmp}

is_equal : (o : Ordering) → is_eq o ≡ true → o ≡ Equal
is_equal Less h = absurd (true≢false (sym h))
is_equal Equal h = refl
is_equal Greater h = absurd (true≢false (sym h))

then_parts : (a b : Ordering) → ordering_then a b ≡ Equal → (a ≡ Equal) × (b ≡ Equal)
then_parts Less b h = absurd (true≢false (sym (ap is_eq h)))
then_parts Equal b h = (refl, h)
then_parts Greater b h = absurd (true≢false (sym (ap is_eq h)))

-- keys that the order doesn't tell apart are the same
pub key_is : (a b : SectionKey) → is_at (key_cmp a) b ≡ true → a ≡ b
key_is a b h =
    let y = then_parts (int_cmp a.y b.y) _ (is_equal (key_cmp a b) h) in
    let x_z = then_parts (int_cmp a.x b.x) (int_cmp a.z b.z) y.1 in
    let y_is = exact_signed a.y b.y y.0 in
    let x_is = exact_signed a.x b.x x_z.0 in
    let z_is = exact_signed a.z b.z x_z.1 in
    λ i. record { y = y_is i; x = x_is i; z = z_is i }

-- a key is found by itself
pub key_at : (a b : SectionKey) → a ≡ b → is_at (key_cmp a) b ≡ true
key_at a b e = ap (λ c. is_at (key_cmp a) c) (sym e) ∙ own where
  own : is_at (key_cmp a) a ≡ true
  own = rw (tied_itself int_cmp_total a.y, tied_itself int_cmp_total a.x, tied_itself int_cmp_total a.z) refl
