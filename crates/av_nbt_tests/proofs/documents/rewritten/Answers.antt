use Rattle.av_nbt_tests.proofs.documents.rewritten.Goals as goal

pub encode-requires : goal.encode-requires
encode-requires c = record { bytes = c.args.bytes.now; spelled = c.in_ok-root.ensures.spelled }
