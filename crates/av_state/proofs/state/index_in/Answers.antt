use Rattle.std.proofs.Common.{◌≡◌, ◌∙◌, refl, rules, tests}
use Rattle.std.specs.Str.{bytes_eq}
use Rattle.std.specs.List.{position}
use Rattle.std.proofs.lemmas.Iterator.{YieldsList-from_slice}
use Rattle.std.proofs.lemmas.Iterator.Search.{position_from_yields_List}
use Rattle.av_state.proofs.Lists.{position-views}
use Rattle.av_state.proofs.state.index_in.Goals as goal

pub returns : goal.returns
returns c =
    let h : c.position.result ≡ position (λ t. bytes_eq c.args.text.now t.now) c.args.texts.now =
    position_from_yields_List (λ t. bytes_eq c.args.text.now t.now) _ _ c.position.result c.position.ensures.ran (YieldsList-from_slice c.args.texts.now cc) (λ x b q k. search (rules, tests)) in
    h ∙ position-views (λ t. bytes_eq c.args.text.now t.now) (λ t. t.now) (bytes_eq c.args.text.now) (λ t. refl {a = bytes_eq c.args.text.now t.now}) c.args.texts.now
