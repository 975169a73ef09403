use Rattle.std.proofs.Common.{◌≡◌, ◌∙◌, ap, sym, subst, refl, Bor, List, ℕ, Option, Some, None, [], false, true, option_map}
use Rattle.std.specs.Prelude.{unwrap_or}
use Rattle.av_changes.specs.Changes.{IsChangeCount, kept, changed}
use Rattle.av_changes.proofs.change.change_of.Goals as goal

pub returns-then-is_there : goal.returns-then-is_there
returns-then-is_there c = kept (c.is_there.ensures.0 c.if-is_there.true)

-- the bytes of what is there, or none
bytes : (old : Option (Bor (List ℕ))) (none : Bor (List ℕ)) → none.now ≡ [] → (unwrap_or old none).now ≡ unwrap_or (option_map (λ b. b.now) old) []
bytes None none is = is
bytes (Some b) none is = refl

pub returns : goal.returns
returns c =
    let old = ap (λ (b : Bor (List ℕ)). b.now) c.unwrap_or.ensures ∙ bytes c.args.old _ refl in
    let counted = subst (λ (xs : List ℕ). IsChangeCount c.unwrap_or.result.now xs c.changed_chunks-chunks.result) c.as_slice.ensures.value c.changed_chunks-chunks.ensures in
    changed _ (λ is. (let bad : true ≡ false = sym (c.is_there.ensures.1 is) ∙ c.if-is_there.false in cc)) c.in_ok-name.ensures
    (subst (λ (xs : List ℕ). IsChangeCount xs c.args.file.now.bytes.items c.changed_chunks-chunks.result) old counted)
