-- The place of the position in its section's.
use Rattle.std.proofs.Common.{◌≡◌, ◌∙◌, rules, sym, ap, Some, None}
use Rattle.std.specs.BTreeMap.{get}
use Rattle.av_types.specs.Positions.{place_of}
use Rattle.av_pack.specs.Places.{has_place}
use Rattle.av_ticks.specs.Marked.{key_cmp, is_marked}
use Rattle.av_ticks.proofs.Holding.{held_is}
use Rattle.av_ticks.proofs.positions.Positions.has.Goals as goal

pub returns-in-Some : goal.returns-in-Some
returns-in-Some c =
    let self = c.args.self.now in
    let found : get key_cmp self.sections c.own_key.result ≡ Some c.in-Some.places.now = search rules in
    c.contains.ensures ∙ (ap (has_place c.in-Some.places.now) c.place.ensures ∙ (ap (is_marked (place_of c.args.pos)) (sym found)
    ∙ (ap (λ k. is_marked (place_of c.args.pos) (get key_cmp self.sections k)) c.own_key.ensures ∙ sym (held_is self c.args.pos))))

pub returns-in-None : goal.returns-in-None
returns-in-None c =
    let self = c.args.self.now in
    let none : get key_cmp self.sections c.own_key.result ≡ None = search rules in
    ap (is_marked (place_of c.args.pos)) (sym none)
    ∙ (ap (λ k. is_marked (place_of c.args.pos) (get key_cmp self.sections k)) c.own_key.ensures ∙ sym (held_is self c.args.pos))
