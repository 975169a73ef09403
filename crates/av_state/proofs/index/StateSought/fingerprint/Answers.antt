use Rattle.std.proofs.Common.{ap, ◌∙◌, ◌∷◌}
use Rattle.av_state.specs.Order.{hash_of}
use Rattle.av_state.proofs.Compared.{texts-views}
use Rattle.av_state.proofs.index.StateSought.fingerprint.Goals as goal

pub returns : goal.returns
returns c =
    let s = c.args.self.now in
    c.fingerprint.ensures ∙ ap (λ ts. hash_of (s.name.items ∷ ts)) (texts-views s.properties.items)
