use Rattle.av_tags.specs.View.{document}
use Rattle.av_codec.specs.Payload.{bad_document}
use Rattle.av_codec.proofs.Found.{if_err_then, if_ok_then}
use Rattle.av_map.proofs.reading.Scene.payload_patch.Goals as goal

pub returns-clause-ok : goal.returns-clause-ok
returns-clause-ok c =
    if_ok_then c.document_patch.result c.document_patch.ensures.ok (λ patch is. record { document = document c.in_ok-root.root; spelled = c.in_ok-root.ensures.spelled; shows = is })

pub returns-clause-err : goal.returns-clause-err
returns-clause-err c =
    if_err_then c.document_patch.result c.document_patch.ensures.err (λ e fault other. bad_document (document c.in_ok-root.root) c.in_ok-root.ensures.spelled (fault other))
