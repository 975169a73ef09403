use Rattle.std.proofs.Common.{arith, refl, ap, sym, subst, ◌∙◌, ◌≡◌, ℕ, suc, ◌+◌, ◌<◌, length, get_or, set, List, ◌++◌, ◌∷◌, [], pos}
use Rattle.std.proofs.lemmas.Option.{slice_get-get_or}
use Rattle.std.proofs.lemmas.List.{length-map, get_or_read}
use Rattle.av_play.specs.declared.event.DueEntry.{DueEntry}
use Rattle.av_cluster.specs.Clusters.{parts_of, AreBare}
use Rattle.av_cluster.proofs.Shares.{bare_more}
use Rattle.av_cluster.specs.Forest.{first, IsFalling}
use Rattle.av_cluster.specs.Gathering.{IsGathered}
use Rattle.av_types.specs.declared.tick.Entry.{Entry}
use Rattle.av_cluster.proofs.Joinings.{numbered_there}
use Rattle.av_cluster.proofs.Gathers.{are_first, label_below, gathered_first, gathered_next}
use Rattle.av_cluster.proofs.clusters.gather_one.Goals as goal

-- what is gathered after one more entry, said of lists alone
first_case : (es : List Entry) (ps : List ℕ) → IsFalling ps → (n : ℕ) (d : Entry) → n < length es → (numbers numbers2 : List ℕ) (parts parts2 : List (List DueEntry)) → IsGathered es (first ps) n numbers parts → (f : ℕ) → f ≡ first ps n → f ≡ n
    → (c : ℕ) → c ≡ length parts → numbers2 ≡ numbers ++ c ∷ [] → parts2 ≡ parts ++ (record { index = n; entry = get_or es n d } ∷ []) ∷ [] → IsGathered es (first ps) (n + 1) numbers2 parts2
first_case es ps fall n d l numbers numbers2 parts parts2 h f v e c g en ep =
    let x : DueEntry = record { index = n; entry = get_or es n d } in
    let r = gathered_first es (first ps) (are_first ps fall (length es)) n numbers parts h x (numbered_there es n (get_or es n d) (slice_get-get_or es n d l)) refl l (sym v ∙ e) c g in
    let s : suc n ≡ n + 1 = omega arith in
    subst (λ m. IsGathered es (first ps) m numbers2 parts2) s (subst (λ qs. IsGathered es (first ps) (suc n) numbers2 qs) (sym ep) (subst (λ ms. IsGathered es (first ps) (suc n) ms (parts ++ (x ∷ []) ∷ [])) (sym en) r))

next_case : (es : List Entry) (ps : List ℕ) → IsFalling ps → (n : ℕ) (d : Entry) → n < length es → (numbers : List ℕ) (parts : List (List DueEntry)) → IsGathered es (first ps) n numbers parts → (f : ℕ) → f ≡ first ps n → ¬ (f ≡ n)
    → (c : ℕ) → c ≡ get_or numbers f c
    → (c < length parts) × ((numbers2 : List ℕ) (parts2 : List (List DueEntry)) → numbers2 ≡ numbers ++ c ∷ [] → parts2 ≡ set parts c (get_or parts c [] ++ record { index = n; entry = get_or es n d } ∷ []) → IsGathered es (first ps) (n + 1) numbers2 parts2)
next_case es ps fall n d l numbers parts h f v e c g =
    let x : DueEntry = record { index = n; entry = get_or es n d } in
    let b = label_below es (first ps) (are_first ps fall (length es)) n l (λ k. e (v ∙ k)) in
    let cn = h.count in
    let c0 : c ≡ get_or numbers (first ps n) 0 = get_or_read numbers f c (omega arith) g 0 ∙ ap (λ k. get_or numbers k 0) v in
    let r = gathered_next es (first ps) (are_first ps fall (length es)) n numbers parts h x (numbered_there es n (get_or es n d) (slice_get-get_or es n d l)) refl l (λ k. e (v ∙ k)) c c0 in
    let s : suc n ≡ n + 1 = omega arith in
    (r.0, λ numbers2 parts2 en ep. subst (λ m. IsGathered es (first ps) m numbers2 parts2) s (subst (λ qs. IsGathered es (first ps) (suc n) numbers2 qs) (sym ep) (subst (λ ms. IsGathered es (first ps) (suc n) ms (set parts c (get_or parts c [] ++ x ∷ []))) (sym en) r.1)))

pub index-number-requires : goal.index-number-requires
index-number-requires c =
    let b = label_below c.args.entries.now (first c.args.parents.now) (are_first c.args.parents.now c.requires.falling (length c.args.entries.now)) c.args.index c.requires.index (λ k. c.if-first-index.false (c.find-first.ensures.value ∙ k)) in
    omega (arith, b, c.find-first.ensures.value, c.requires.gathered.count, c.args.numbers.now.ok.0)

pub returns-then-first-index-clause-gathered : goal.returns-then-first-index-clause-gathered
returns-then-first-index-clause-gathered c =
    first_case c.args.entries.now c.args.parents.now c.requires.falling c.args.index _ c.requires.index c.args.numbers.now.items _ (parts_of c.args.clusters.now.items) _ c.requires.gathered c.find-first.result c.find-first.ensures.value c.if-first-index.true c.len.result
    (let a = c.len.ensures in let b = c.args.clusters.now.ok.0 in let d = length-map c.args.clusters.now.items (λ u. u.entries.items) in omega arith)
    c.in_ok-push.ensures.items c.in_ok-begin.ensures.parts

pub put-requires : goal.put-requires
put-requires c =
    (next_case c.args.entries.now c.args.parents.now c.requires.falling c.args.index (record { pos = record { x = pos 0; y = pos 0; z = pos 0 }; due = pos 0; priority = pos 0 }) c.requires.index c.args.numbers.now.items (parts_of c.args.clusters.now.items) c.requires.gathered c.find-first.result c.find-first.ensures.value c.if-first-index.false c.index-number.result.now c.index-number.ensures).0

pub returns-clause-gathered : goal.returns-clause-gathered
returns-clause-gathered c =
    (next_case c.args.entries.now c.args.parents.now c.requires.falling c.args.index _ c.requires.index c.args.numbers.now.items (parts_of c.args.clusters.now.items) c.requires.gathered c.find-first.result c.find-first.ensures.value c.if-first-index.false c.index-number.result.now c.index-number.ensures).1
    _ _ c.in_ok-push-2.ensures.items c.in_ok-put.ensures.parts

pub returns-then-first-index-clause-bare : goal.returns-then-first-index-clause-bare
returns-then-first-index-clause-bare c = λ h. subst AreBare (sym c.in_ok-begin.ensures.bare) (bare_more _ h)

pub returns-clause-bare : goal.returns-clause-bare
returns-clause-bare c = λ h. subst AreBare (sym c.in_ok-put.ensures.bare) h
