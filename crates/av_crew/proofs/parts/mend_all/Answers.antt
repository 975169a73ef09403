use Rattle.std.proofs.Common.{◌++◌, ap, sym, ◌∙◌, append_assoc, arith, length, length-append, [], ◌∷◌, ◌||◌}
use Rattle.std.specs.List.{flat_map}
use Rattle.av_crew.proofs.Zips.{flat_push}
use Rattle.av_world.proofs.Steps.{IsSameButBlocks-trans}
use Rattle.av_world.specs.Views.{lists}
use Rattle.av_world.specs.ParcelViews.{blocks as parcel_blocks}
use Rattle.av_world.specs.OutOf.{mended}
use Rattle.av_crew.proofs.Steps.{mended_push, refused_more}
use Rattle.av_crew.proofs.parts.mend_all.Goals as goal

pub loop-done-preserved : goal.loop-done-preserved
loop-done-preserved c =
    let i = c.loop-done.invariant in
    let e = c.mend_one-failed.ensures in (
      tt,
      tt,
      e.mended ∙ (λ t. mended (i.3.lists_are t) (parcel_blocks c.in-Some.done.parcel) (i.2 t)) ∙ sym (mended_push (λ d. parcel_blocks d.parcel) (lists c.args.world.now) c.loop-done.yielded c.in-Some.done _),
      IsSameButBlocks-trans _ _ _ i.3 e.same,
      ap (flat_map (λ m. m.items)) e.made ∙ flat_push (λ m. m.items) c.loop-done.made.items c.in-Some.done.made ∙ ap (λ l. l ++ c.in-Some.done.made.items) i.4
          ∙ append_assoc _ _ c.in-Some.done.made.items ∙ ap (λ l. flat_map (λ m. m.items) c.args.made.now.items ++ l) (sym (flat_push (λ d. d.made.items) c.loop-done.yielded c.in-Some.done)),
      (let m = ap length e.made ∙ length-append c.loop-done.made.items (c.in-Some.done.made ∷ []) in let n = length-append c.loop-done.yielded (c.in-Some.done ∷ []) in omega (arith, m, n, i.5)),
      e.capacity ∙ i.6,
      c.either-refused.ensures ∙ (λ t. i.7 t || e.refused t) ∙ sym (refused_more c.loop-done.yielded c.in-Some.done),
    )
