use Rattle.std.proofs.Common.{◌∙◌, List, [], replicate, length, sym, ap, subst}
use Rattle.std.proofs.lemmas.Result.{IfOk-weaker}
use Rattle.av_types.specs.declared.position.ChunkPos.{ChunkPos}
use Rattle.av_types.specs.declared.tick.Entry.{Entry}
use Rattle.av_world.specs.Lands.{land_of}
use Rattle.av_groups.specs.Open.{AreClosed}
use Rattle.av_groups.proofs.Closed.{none_yet}
use Rattle.av_groups.proofs.cutting.untouched.Goals as goal

pub returns : goal.returns
returns c =
    let w = land_of c.args.world.now in
    IfOk-weaker c.from_elem.result _ (λ last. (es : List Entry) → AreClosed w es 0 [] last.items)
    (λ v f es. subst (λ xs. AreClosed w es 0 [] xs) (sym (f (λ y e. e) ∙ ap (λ (cs : List ChunkPos). replicate (length cs) 0) c.positions.ensures.value)) (none_yet w es)) c.from_elem.ensures.items_if_clones_equal
