use Rattle.std.proofs.Common.{rules, Fits, w32, ◌≡◌, ◌∙◌, ◌<◌, ◌^◌, ℕ, None, map, option_map, get_or, subst, sym}
use Rattle.std.proofs.lemmas.List.{length-map}
use Rattle.std.proofs.lemmas.List.Elements.{All-from_get_or}
use Rattle.av_region.specs.Layout.{region_bytes, first_too_large, HoldsAll}
use Rattle.av_region.proofs.Law.{holds_all}
use Rattle.av_region.proofs.writing.write.Goals as goal

pub returns-clause-ok : goal.returns-clause-ok
unfolding region_bytes
returns-clause-ok g c = search rules

pub returns-clause-holds : goal.returns-clause-holds
returns-clause-holds g c =
    let written : c.write_chunks.new.file.items ≡ region_bytes (map (option_map g.P.AsSlice.items) c.args.payloads.now) c.args.stamps.now = returns-clause-ok g c in
    let none : first_too_large (map (option_map g.P.AsSlice.items) c.args.payloads.now) ≡ None = search rules in
    let below : (i : ℕ) → get_or c.args.stamps.now i 0 < 2 ^ 32 = λ i. (let fits : Fits w32 (get_or c.args.stamps.now i 0) = c.type_inv.stamps i in search (rules, fits)) in
    subst (λ bytes. HoldsAll bytes (map (option_map g.P.AsSlice.items) c.args.payloads.now) c.args.stamps.now) (sym written)
    (holds_all (map (option_map g.P.AsSlice.items) c.args.payloads.now) c.args.stamps.now (length-map c.args.payloads.now (option_map g.P.AsSlice.items) ∙ c.requires.payloads) c.requires.stamps none
    (All-from_get_or (λ stamp. stamp < 2 ^ 32) c.args.stamps.now 0 (λ i lt. below i)))

pub returns-in-Some-clause-err : goal.returns-in-Some-clause-err
returns-in-Some-clause-err g c = search rules
