use Rattle.std.proofs.Common.{◌≡◌, ◌∙◌, ◌++◌, ◌∷◌, [], List, append_assoc, sym, subst, None}
use Rattle.std.specs.Vec.Iter.{into_iter_items}
use Rattle.std.specs.List.{All}
use Rattle.std.proofs.lemmas.List.Elements.{All-tail}
use Rattle.av_types.specs.Positions.{IsInLimits, region_of}
use Rattle.av_world.specs.Inserted.{IsNewChunk}
use Rattle.av_image.specs.declared.reading.splits.LoadedChunk.{LoadedChunk}
use Rattle.av_image.specs.Splits.{chunk_found, ArePositionedOnce}
use Rattle.av_image.proofs.Worlds.{slot_none, once_at, world_more, absent_in}
use Rattle.av_image.proofs.reading.splits.world_of.Goals as goal

pub insert-requires-clause-absent : goal.insert-requires-clause-absent
insert-requires-clause-absent c =
    let x : LoadedChunk = c.in-Some.positioned in
    let rest : List LoadedChunk = into_iter_items c.next.new.self in
    let step : into_iter_items c.loop-positioned.positioned-iterator ≡ x ∷ rest = c.in-Some.ensures.steps.0 in
    let split : c.loop-positioned.yielded ++ x ∷ rest ≡ c.args.found.items = subst (λ (xs : List LoadedChunk). c.loop-positioned.yielded ++ xs ≡ c.args.found.items) step c.loop-positioned.invariant.split in
    let new : chunk_found c.loop-positioned.yielded x.at ≡ None = once_at c.loop-positioned.yielded x rest (subst ArePositionedOnce (sym split) c.requires.once) in
    slot_none c.loop-positioned.world.positions.items x.at
    (absent_in c.args.height c.loop-positioned.world x.at (chunk_found c.loop-positioned.yielded x.at) new (c.loop-positioned.invariant.world.each x.at))

pub loop-positioned-preserved : goal.loop-positioned-preserved
loop-positioned-preserved c =
    let x : LoadedChunk = c.in-Some.positioned in
    let rest : List LoadedChunk = into_iter_items c.next.new.self in
    let step : into_iter_items c.loop-positioned.positioned-iterator ≡ x ∷ rest = c.in-Some.ensures.steps.0 in
    let split : c.loop-positioned.yielded ++ x ∷ rest ≡ c.args.found.items = subst (λ (xs : List LoadedChunk). c.loop-positioned.yielded ++ xs ≡ c.args.found.items) step c.loop-positioned.invariant.split in
    let new : chunk_found c.loop-positioned.yielded x.at ≡ None = once_at c.loop-positioned.yielded x rest (subst ArePositionedOnce (sym split) c.requires.once) in
    let limits : All (λ x. IsInLimits (region_of x.at)) (x ∷ rest) = subst (λ (xs : List LoadedChunk). All (λ x. IsInLimits (region_of x.at)) xs) step c.loop-positioned.invariant.limits in
    let fits : All (λ x. IsNewChunk x.at c.args.height x.chunk) (x ∷ rest) = subst (λ (xs : List LoadedChunk). All (λ x. IsNewChunk x.at c.args.height x.chunk) xs) step c.loop-positioned.invariant.fits in
    record {
      split = append_assoc c.loop-positioned.yielded (x ∷ []) rest ∙ split;
      limits = All-tail (λ x. IsInLimits (region_of x.at)) x rest limits;
      fits = All-tail (λ x. IsNewChunk x.at c.args.height x.chunk) x rest fits;
      world = world_more c.args.height c.loop-positioned.world c.insert.new.self c.loop-positioned.yielded x c.loop-positioned.invariant.world new c.in-Ok.ensures.height c.in-Ok.ensures.positions c.in-Ok.ensures.grid c.in-Ok.ensures.lists;
      sound = c.insert.ensures.broken ∙ c.loop-positioned.invariant.sound;
    }
