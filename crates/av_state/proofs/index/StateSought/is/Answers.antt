use Rattle.std.proofs.Common.{◌&&◌, ap, ◌∙◌, sym}
use Rattle.std.specs.Str.{bytes_eq}
use Rattle.av_state.specs.Views.{property_of}
use Rattle.av_state.specs.StateList.{same_property}
use Rattle.av_state.proofs.Lists.{pointwise-map}
use Rattle.av_state.proofs.index.StateSought.is.Goals as goal

pub returns : goal.returns
returns c =
    let s = c.args.self.now in
    let t = c.args.stored.now in
    c.eq.ensures ∙ ap (λ b. bytes_eq s.name.items t.name.items && b) (sym (pointwise-map same_property property_of s.properties.items t.properties.items))
