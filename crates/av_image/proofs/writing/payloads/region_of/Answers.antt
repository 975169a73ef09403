use Rattle.std.proofs.Common.{◌≡◌, ◌≢◌, ◌∙◌, ℕ, List, Option, Some, None, Result, Ok, Err, IfErr, map, refl, ap, sym, subst}
use Rattle.std.specs.Prelude.{option_map, MatchOption}
use Rattle.av_types.proofs.Exits.{err_from}
use Rattle.av_types.specs.Positions.{chunk_at}
use Rattle.av_types.specs.declared.position.RegionPos.{RegionPos}
use Rattle.av_types.specs.declared.fault.Fault.{Fault}
use Rattle.av_types.specs.declared.fault.Fault.TheVariants.{OutOfMemory, ChunkTooLarge}
use Rattle.av_region.specs.Layout.{region_bytes, first_too_large}
use Rattle.av_files.specs.Files.{File}
use Rattle.av_image.specs.SavingSteps.{payload_items, too_large_among}
use Rattle.av_image.proofs.writing.payloads.region_of.Goals as goal

abbrev err_in : (X : Type 0) → Fault → Result X Fault
err_in X e = Err e

abbrev ok_in : (X : Type 0) → X → Result X Fault
ok_in X x = Ok x

same_err : (X : Type 0) (a b : Fault) → err_in X a ≡ err_in X b → a ≡ b
same_err X a b h = cc

apart : (X : Type 0) (x : X) (e : Fault) → ok_in X x ≡ err_in X e → ⊥
apart X x e h = cc

refused : (X : Type 0) (o : Option ℕ) (p : RegionPos) (result : Result X Fault) (e : Fault) → result ≡ err_in X e
    → MatchOption o (IfErr result (λ f. f ≡ OutOfMemory)) (λ i. result ≡ err_in X (ChunkTooLarge (chunk_at p i))) → e ≢ OutOfMemory → option_map ChunkTooLarge (option_map (chunk_at p) o) ≡ Some e
refused X None p result e is m other = absurd (other (subst (λ (r : Result X Fault). IfErr r (λ f. f ≡ OutOfMemory)) is m))
refused X (Some i) p result e is m other = ap Some (same_err X (ChunkTooLarge (chunk_at p i)) e (sym m ∙ is))

fitting : (X : Type 0) (o : Option ℕ) (p : RegionPos) (result : Result X Fault) (x : X) → result ≡ ok_in X x
    → MatchOption o (IfErr result (λ f. f ≡ OutOfMemory)) (λ i. result ≡ err_in X (ChunkTooLarge (chunk_at p i))) → option_map (chunk_at p) o ≡ None
fitting X None p result x is m = refl
fitting X (Some i) p result x is m = absurd (apart X x (ChunkTooLarge (chunk_at p i)) (sym is ∙ m))

pub returns-clause-ok : goal.returns-clause-ok
returns-clause-ok c =
    let r = c.args.region.now in
    let made : List ℕ → File = λ b. record { pos = r.pos; bytes = b } in
    ap made (c.in_ok-bytes.ensures.ok ∙ ap (region_bytes (map (option_map payload_items) c.args.payloads.now)) c.as_slice.ensures.value)

pub returns-clause-fits : goal.returns-clause-fits
returns-clause-fits c =
    fitting _ (first_too_large (map (option_map payload_items) c.args.payloads.now)) c.args.region.now.pos c.write.result c.in_ok-bytes.bytes c.in_ok-bytes.was c.write.ensures.err

pub returns-in_err-bytes-clause-err : goal.returns-in_err-bytes-clause-err
returns-in_err-bytes-clause-err c =
    let r = c.args.region.now in
    let e = c.in_err-bytes.field-0.0 in
    err_from c.from_residual.result e (λ x. x ≢ OutOfMemory → option_map ChunkTooLarge (too_large_among r (map (option_map payload_items) c.args.payloads.now)) ≡ Some x) c.from_residual.ensures.1
    (refused _ (first_too_large (map (option_map payload_items) c.args.payloads.now)) r.pos c.write.result e c.in_err-bytes.was c.write.ensures.err)
