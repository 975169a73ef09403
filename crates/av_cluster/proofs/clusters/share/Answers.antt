-- One more section goes to the part of its owner.
use Rattle.std.proofs.Common.{arith, refl, sym, subst, ap, ◌∙◌, ◌≡◌, ◌<◌, ◌+◌, ◌++◌, ◌∷◌, [], ℕ, Some, length, get_or, take}
use Rattle.std.specs.List.{Contains}
use Rattle.std.specs.Map.{keys_of}
use Rattle.std.specs.Prelude.{pos}
use Rattle.std.proofs.lemmas.List.{get_or-map, get_or_default, take_more}
use Rattle.std.proofs.lemmas.Map.Entries.{length-keys_of}
use Rattle.av_cluster.specs.Clusters.{parts_of, sections_of, AreShared, IsGiven}
use Rattle.av_cluster.specs.Joining.{owner_in, key_of}
use Rattle.av_cluster.proofs.Indexed.{entry_owner}
use Rattle.av_cluster.proofs.Onces.{once_none, once_more, key_fresh}
use Rattle.av_cluster.proofs.Joinings.{taken_all}
use Rattle.av_cluster.proofs.Shares.{shared_none, shared_more, part_inside}
use Rattle.av_cluster.proofs.clusters.share.Goals as goal

pub loop-entry-init : goal.loop-entry-init
loop-entry-init c = record { parts = refl; shared = shared_none _ _ _ c.requires.bare; once = once_none _ c.requires.bare }

pub give-requires-clause-owner : goal.give-requires-clause-owner
give-requires-clause-owner c =
    let es = c.args.owners.now.entries.items in
    let told = c.entries-entry-items.ensures in
    c.requires.owners c.of_key.result _ (entry_owner es c.entries-entry-items.result.now c.loop-entry.entry-index ((pos 0, pos 0, pos 0), 0) c.of_key.result told.entries told.distinct c.loop-entry-test.true c.of_key.ensures)

pub give-requires-clause-numbers : goal.give-requires-clause-numbers
give-requires-clause-numbers c = λ k l. subst (λ ps. get_or c.args.numbers.now k 0 < length ps) (sym c.loop-entry.invariant.parts) (c.requires.numbers k l)

pub loop-entry-preserved : goal.loop-entry-preserved
loop-entry-preserved c =
    let inv = c.loop-entry.invariant in
    let told = c.entries-entry-items.ensures in
    let i = c.loop-entry.entry-index in
    let es = c.args.owners.now.entries.items in
    let fs = c.entries-entry-items.result.now in
    let ks = keys_of es in
    let numbers = c.args.numbers.now in
    let s = c.of_key.result in
    let x = get_or fs i ((pos 0, pos 0, pos 0), 0) in
    let old = sections_of c.loop-entry.clusters.items in
    let new = sections_of c.give.new.clusters.items in
    let within : i < length es = subst (λ l. i < length l) told.entries c.loop-entry-test.true in
    let low : i < length ks = omega (arith, within, length-keys_of es) in
    let at : x ≡ get_or es i x = ap (λ l. get_or l i ((pos 0, pos 0, pos 0), 0)) told.entries ∙ get_or_default es i ((pos 0, pos 0, pos 0), 0) x within in
    let key : get_or ks i x.0 ≡ key_of s = get_or-map (λ y. y.0) es i x x.0 within ∙ ap (λ y. y.0) (sym at) ∙ sym c.of_key.ensures in
    let owner = entry_owner es fs i ((pos 0, pos 0, pos 0), 0) s told.entries told.distinct c.loop-entry-test.true c.of_key.ensures in
    let given = subst (λ r. IsGiven r numbers s old new) (sym owner) c.in_ok-give.ensures.sections in
    let taken : take (i + 1) ks ≡ take i ks ++ key_of s ∷ [] = take_more ks i x.0 low ∙ ap (λ k. take i ks ++ k ∷ []) key in
    let inside : (k : ℕ) → owner_in es s ≡ Some k → get_or numbers k 0 < length old = λ k e. part_inside c.loop-entry.clusters.items (parts_of c.args.clusters.now.items) (get_or numbers k 0) inv.parts (c.requires.numbers k (c.requires.owners s k e)) in
    record {
      parts = c.in_ok-give.ensures.parts ∙ inv.parts;
      shared = shared_more (owner_in es) numbers (take i ks) s old new inv.shared (take (i + 1) ks) taken inside given;
      once = once_more (owner_in es) numbers (take i ks) s old new inv.shared inv.once (λ k. key_fresh ks told.distinct i x.0 low (subst (Contains (take i ks)) (sym key) k)) inside given;
    }

pub returns-clause-sections : goal.returns-clause-sections
returns-clause-sections c =
    let es = c.args.owners.now.entries.items in
    let end = c.loop-entry-test.false in
    let far = c.loop-entry.auto.entry-index-end in
    let same = ap length c.entries-entry-items.ensures.entries in
    subst (λ ks. AreShared (owner_in es) c.args.numbers.now ks (sections_of c.loop-entry.clusters.items)) (taken_all (keys_of es) c.loop-entry.entry-index (omega (arith, end, far, same, length-keys_of es))) c.loop-entry.invariant.shared
