use Rattle.std.proofs.Common.{arith, ◌+◌, ◌*◌}
use Rattle.std.specs.Prelude.{vec_len}
use Rattle.av_flood.proofs.Quiet.{darkened, written_back}
use Rattle.av_flood.proofs.bytes.clear.Goals as goal

pub returns-clause-quiet : goal.returns-clause-quiet
returns-clause-quiet c =
    (darkened c.args.touched.now.items c.args.light.now.items c.args.dark.now _ c.args.layer (1936 * vec_len c.args.touched.now + 1936) c.requires.count (omega (arith, c.requires.layer)) (omega (arith, c.requires.long, c.args.light.now.ok.0)) c.requires.dark
    (written_back _ _ _ _ _ _ _ (omega (arith, c.args.light.now.ok.0)) (omega (arith, c.requires.layer, c.requires.long)) (omega arith) c.as_mut_slice.ensures.value c.copy_from_slice.ensures.after c.requires.count)
    c.requires.quiet c.requires.fenced).0

pub returns-clause-fenced : goal.returns-clause-fenced
returns-clause-fenced c =
    (darkened c.args.touched.now.items c.args.light.now.items c.args.dark.now _ c.args.layer (1936 * vec_len c.args.touched.now + 1936) c.requires.count (omega (arith, c.requires.layer)) (omega (arith, c.requires.long, c.args.light.now.ok.0)) c.requires.dark
    (written_back _ _ _ _ _ _ _ (omega (arith, c.args.light.now.ok.0)) (omega (arith, c.requires.layer, c.requires.long)) (omega arith) c.as_mut_slice.ensures.value c.copy_from_slice.ensures.after c.requires.count)
    c.requires.quiet c.requires.fenced).1
