use Rattle.av_tags.specs.View.{document}
use Rattle.av_codec.specs.Payload.{bad_document}
use Rattle.av_codec.proofs.Found.{if_err_then}
use Rattle.av_codec.proofs.payload.read_payload.Goals as goal

pub returns-clause-err : goal.returns-clause-err
returns-clause-err c =
    if_err_then c.read_chunk.result c.read_chunk.ensures.err
    (λ e refused other. bad_document (document c.in_ok-root.root) c.in_ok-root.ensures.spelled (refused.first other))
