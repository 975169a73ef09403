use Rattle.std.proofs.Common.{ap, ◌∙◌, ◌∷◌}
use Rattle.av_state.specs.Order.{hash_of}
use Rattle.av_state.proofs.Compared.{told_texts-views}
use Rattle.av_state.proofs.text.StateTextSought.fingerprint.Goals as goal

pub returns : goal.returns
returns c =
    let s = c.args.self.now in
    c.fingerprint.ensures ∙ ap (λ ts. hash_of (s.name.now ∷ ts)) (told_texts-views s.properties.now)
