use Rattle.std.proofs.Common.{◌≡◌, ◌∙◌, ◌++◌, ◌∷◌, [], List, append_assoc, append-nil, sym, subst, ap, length, ◌≤◌}
use Rattle.std.specs.Vec.Iter.{into_iter_items}
use Rattle.std.specs.List.{All, flat_map}
use Rattle.std.proofs.lemmas.List.Elements.{All-tail}
use Rattle.std.proofs.lemmas.Grind.{flat_map-append}
use Rattle.av_types.specs.Positions.{IsInLimits}
use Rattle.av_image.specs.declared.reading.regions.ReadRegion.{ReadRegion}
use Rattle.av_image.specs.declared.rest.RegionRest.{RegionRest}
use Rattle.av_image.specs.declared.reading.splits.LoadedChunk.{LoadedChunk}
use Rattle.av_image.specs.Splits.{AreSplit, IsSplit, positioned_in}
use Rattle.av_image.proofs.reading.splits.split_regions.Goals as goal

split_more : (rs : List ReadRegion) (xs : List RegionRest) (r : ReadRegion) (x : RegionRest) → AreSplit rs xs → IsSplit r x → AreSplit (rs ++ r ∷ []) (xs ++ x ∷ [])
split_more [] [] r x h s = (s, tt)
split_more (q ∷ rs) (y ∷ xs) r x h s = (h.0, split_more rs xs r x h.1 s)
split_more [] (y ∷ xs) r x h s = absurd h
split_more (q ∷ rs) [] r x h s = absurd h

found_more : (a b now : List LoadedChunk) (rs : List ReadRegion) (r : ReadRegion) → b ≡ now ++ flat_map positioned_in rs → a ≡ b ++ positioned_in r → a ≡ now ++ flat_map positioned_in (rs ++ r ∷ [])
found_more a b now rs r e f =
    f ∙ (ap (λ l. l ++ positioned_in r) e ∙ (append_assoc now (flat_map positioned_in rs) (positioned_in r)
    ∙ ap (λ l. now ++ l) (ap (λ l. flat_map positioned_in rs ++ l) (sym (append-nil (positioned_in r))) ∙ sym (flat_map-append positioned_in rs (r ∷ [])))))

pub loop-region-preserved : goal.loop-region-preserved
loop-region-preserved c =
    let x : ReadRegion = c.in-Some.region in
    let rest : List ReadRegion = into_iter_items c.next.new.self in
    let step : into_iter_items c.loop-region.region-iterator ≡ x ∷ rest = c.in-Some.ensures.steps.0 in
    record {
      split = append_assoc c.loop-region.yielded (x ∷ []) rest ∙ subst (λ (xs : List ReadRegion). c.loop-region.yielded ++ xs ≡ c.args.regions.items) step c.loop-region.invariant.split;
      limits = All-tail (λ r. IsInLimits r.pos) x rest (subst (λ (xs : List ReadRegion). All (λ r. IsInLimits r.pos) xs) step c.loop-region.invariant.limits);
      count = All-tail (λ r. length r.stored.items ≤ 1024) x rest (subst (λ (xs : List ReadRegion). All (λ r. length r.stored.items ≤ 1024) xs) step c.loop-region.invariant.count);
      rests = subst (λ (xs : List RegionRest). AreSplit (c.loop-region.yielded ++ x ∷ []) xs) (sym c.in_ok-push.ensures.items) (split_more c.loop-region.yielded c.loop-region.rests.items x c.in_ok-split_region.field-0 c.loop-region.invariant.rests c.in_ok-split_region.ensures.rest);
      found = found_more c.split_region.new.found.items c.loop-region.found.items c.args.found.now.items c.loop-region.yielded x c.loop-region.invariant.found c.in_ok-split_region.ensures.found;
    }
