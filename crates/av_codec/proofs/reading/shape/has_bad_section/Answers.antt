use Rattle.std.proofs.Common.{◌≡◌, ◌<◌, arith, rules, refl, [], ◌∷◌, false, w8, FitsSigned, length, drop, suc, drop-cons, sym, ◌∙◌, add-one, to_z-of_z}
use Rattle.std.specs.Ordering.{int_eq}
use Rattle.std.specs.List.{list_any}
use Rattle.std.proofs.lemmas.List.{get_or-replicate}
use Rattle.av_tags.specs.View.{view, views}
use Rattle.av_codec.specs.Working.{Noted}
use Rattle.av_codec.proofs.Numbers.{Noted-set, good_step, flag_bound}
use Rattle.av_codec.proofs.reading.shape.has_bad_section.Goals as goal

pub loop-item-init : goal.loop-item-init
loop-item-init c = ([], record { count = refl; each_flag = λ y p. get_or-replicate 256 _ false false (flag_bound y p) }, refl)

pub loop-item-preserved : goal.loop-item-preserved
loop-item-preserved c =
    let inv = c.loop-item.invariant in
    let fits : FitsSigned w8 c.in-Some.y = search rules in
    let flag = simp to_z-of_z at c.flag_of-flag.ensures.value in
    let noted : Noted inv.0 c.loop-item.seen = inv.1 in
    let new : list_any (int_eq c.in-Some.y) inv.0 ≡ false = sym (noted.each_flag c.in-Some.y fits) ∙ rw (← flag) c.if-seen-flag.false in
    let within : c.loop-item.item-index < length c.args.items.now = omega arith in
    let rest = rw (drop-cons c.args.items.now c.loop-item.item-index c.item-item.result, ← c.item-item.is) at inv.2 in (
      c.in-Some.y ∷ inv.0,
      rw flag (Noted-set inv.0 c.loop-item.seen c.in-Some.y fits noted),
      rw add-one (good_step c.args.height _ (view c.item-item.result) (views (drop (suc c.loop-item.item-index) c.args.items.now)) _ _ (sym c.in-Some.is ∙ c.checked_number.ensures) new rest),
    )
