use Rattle.std.proofs.Common.{arith, ap, sym, subst, ℕ, ◌<◌, length, get_or, IsTrue}
use Rattle.std.proofs.lemmas.List.Elements.{All-contains}
use Rattle.std.proofs.lemmas.Option.{slice_get_within, get_or_from_slice_get}
use Rattle.av_types.specs.declared.tick.Entry.{Entry}
use Rattle.av_world.specs.Views.{blocks}
use Rattle.av_play.specs.Parts.{IsPlan}
use Rattle.av_cluster.specs.Clusters.{parts_of, sections_of, AreShared}
use Rattle.std.specs.Map.{keys_of}
use Rattle.av_cluster.specs.Gathering.{IsGathered}
use Rattle.av_cluster.proofs.Owned.{sections_exact}
use Rattle.av_cluster.specs.Forest.{first}
use Rattle.av_cluster.specs.Joining.{owner_in}
use Rattle.av_cluster.specs.Gathering.{AreAlone}
use Rattle.av_cluster.proofs.Joinings.{noted_none, labelled, owner_inside}
use Rattle.av_cluster.proofs.Gathers.{alone_falling, alone_first, are_first, numbers_inside, gathered_all}
use Rattle.av_cluster.proofs.clusters.plan.Goals as goal

pub connect-requires-clause-noted : goal.connect-requires-clause-noted
connect-requires-clause-noted c =
    let es = c.args.entries.now in let ps = c.as_mut_slice-groups.result.now in
    let a : AreAlone ps (length es) = subst (λ l. AreAlone l (length es)) (sym c.as_mut_slice-groups.ensures.value) c.in_ok-parents.ensures in
    noted_none (blocks c.args.world.now) es ps (owner_in c.in_ok-owners.owners.entries.items) (alone_falling ps (length es) a) a.count (alone_first ps (length es) a)
    (λ s. ap (λ l. owner_in l s) c.in_ok-owners.ensures)
    (λ k e h. All-contains (λ (e : Entry). IsTrue ((blocks c.args.world.now).loaded e.pos)) es e c.requires.loaded (k, slice_get_within es k e h, get_or_from_slice_get es k e e h))

pub share-requires-clause-numbers : goal.share-requires-clause-numbers
share-requires-clause-numbers c =
    let es = c.args.entries.now in let ps = c.connect.new.parents in
    let n = c.in_ok-connect.ensures in
    subst (λ l. (k : ℕ) → k < length l → get_or l k 0 < length (parts_of c.gather.new.clusters.items)) (sym c.as_slice.ensures.value)
    (numbers_inside es (first ps) (are_first ps n.falling (length es)) c.gather.new.numbers.items (parts_of c.gather.new.clusters.items) c.in_ok-gather.ensures.gathered)

pub share-requires-clause-owners : goal.share-requires-clause-owners
share-requires-clause-owners c = λ s k e.
    let es = c.args.entries.now in
    let n = c.in_ok-connect.ensures in
    let a = owner_inside (blocks c.args.world.now) es c.connect.new.parents (owner_in c.connect.new.owners.entries.items) _ n s k e in
    let b = n.count in let d = c.in_ok-gather.ensures.gathered.count in let f = ap length c.as_slice.ensures.value in omega arith

pub returns-clause-planned : goal.returns-clause-planned
returns-clause-planned c =
    let es = c.args.entries.now in let ps = c.connect.new.parents in let w = blocks c.args.world.now in let own = c.connect.new.owners.entries.items in
    let n = c.in_ok-connect.ensures in
    let parts = subst (λ ps. IsGathered es (first c.connect.new.parents) (length es) c.gather.new.numbers.items ps) (sym c.in_ok-share.ensures.parts) c.in_ok-gather.ensures.gathered in
    let shared = subst (λ ns. AreShared (owner_in own) ns (keys_of own) (sections_of c.share.new.clusters.items)) c.as_slice.ensures.value c.in_ok-share.ensures.sections in
    record {
      plan = subst (IsPlan w es) (sym c.in_ok-share.ensures.parts)
          (gathered_all w es (first ps) (labelled w es ps (owner_in own) n) (are_first ps n.falling (length es)) c.gather.new.numbers.items (parts_of c.gather.new.clusters.items) c.in_ok-gather.ensures.gathered);
      exact = sections_exact w es ps own n c.gather.new.numbers.items (parts_of c.share.new.clusters.items) parts (sections_of c.share.new.clusters.items) shared;
      once = c.in_ok-share.ensures.once;
    }
