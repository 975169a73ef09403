use Rattle.std.proofs.Common.{◌≡◌, ◌∙◌, ap, sym, List, [], Bor, map, Result, Ok, Err, IfOk}
use Rattle.std.specs.Prelude.{unwrap_or}
use Rattle.clap.specs.Words.{Row, Text, found_of, rows_of}
use Rattle.clap.proofs.WalkLemmas.{raw_values-rows}
use Rattle.av_words.specs.CommandLine.{HasTexts}
use Rattle.av_words.proofs.values.texts_of.Goals as goal

-- a result that has the items that were given
if_ok : {V E : Type 0} (r : Result V E) (items : V → List (Bor Text)) (texts : List (Bor Text)) (rows : List Row) (name : Text)
    → IfOk r (λ v. items v ≡ texts) → HasTexts rows name texts → IfOk r (λ v. HasTexts rows name (items v))
if_ok (Ok v) items texts rows name is has = has ∙ sym (ap (map (λ t. t.now)) is)
if_ok (Err e) items texts rows name is has = tt

pub returns-in-Some : goal.returns-in-Some
returns-in-Some c =
    let rows = rows_of (found_of c.args.matches.now) in
    let all = c.in-Some.ensures ∙ raw_values-rows (found_of c.args.matches.now) c.args.name.now in
    if_ok c.from_slice.result (λ v. v.items) c.in-Some.texts.now rows c.args.name.now c.from_slice.ensures.items
    (sym (ap (λ o. unwrap_or o []) all))

pub returns-in-None : goal.returns-in-None
returns-in-None c =
    let all = c.in-None.ensures ∙ raw_values-rows (found_of c.args.matches.now) c.args.name.now in
    sym (ap (λ o. unwrap_or o []) all) ∙ sym (ap (map (λ t. t.now)) c.new.ensures.items)
