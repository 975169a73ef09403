use Rattle.std.proofs.Common.{◌≡◌, ◌∙◌, refl, rules, tests}
use Rattle.std.specs.List.{list_any}
use Rattle.std.specs.Str.{bytes_eq}
use Rattle.std.proofs.lemmas.Iterator.{YieldsList-from_slice}
use Rattle.std.proofs.lemmas.Iterator.Search.{any_from_yields_List}
use Rattle.av_state.proofs.Lists.{list_any-views}
use Rattle.av_map.proofs.look.is_among.Goals as goal

pub returns : goal.returns
returns c =
    let h : c.any.result ≡ list_any (λ t. bytes_eq t.now c.args.name.now) c.args.names.now =
    any_from_yields_List (λ t. bytes_eq t.now c.args.name.now) _ _ c.any.result c.any.ensures.ran (YieldsList-from_slice c.args.names.now cc) (λ x b q k. search (rules, tests)) in
    h ∙ list_any-views (λ t. bytes_eq t.now c.args.name.now) (λ t. t.now) (λ t. bytes_eq t c.args.name.now) (λ t. refl {a = bytes_eq t.now c.args.name.now}) c.args.names.now
