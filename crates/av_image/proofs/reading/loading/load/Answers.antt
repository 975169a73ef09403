use Rattle.std.proofs.Common.{◌≢◌, subst, map, IfOk, IfErr}
use Rattle.av_types.specs.declared.position.Height.{Height}
use Rattle.av_types.specs.declared.fault.Fault.TheVariants.{OutOfMemory}
use Rattle.av_types.proofs.HeightNumbers.{height_is}
use Rattle.av_state.specs.Table.{states}
use Rattle.av_world.specs.Lands.{land_of}
use Rattle.av_world.specs.Views.{positions_of}
use Rattle.av_files.specs.FirstFault.{IsFilesFaultAfter}
use Rattle.av_files.specs.Layers.{IsLoadAfter}
use Rattle.av_image.specs.Views.{rest_in, file_in}
use Rattle.av_image.specs.Saving.{IsRestOf}
use Rattle.av_image.proofs.reading.loading.load.Goals as goal

pub returns-clause-ok : goal.returns-clause-ok
returns-clause-ok g c =
    subst (λ (h : Height). IfOk c.load_at.result (λ read. IsLoadAfter h (states c.args.table.now) (map file_in c.args.files.items) (states c.load_at.new.table) (land_of read.0) (rest_in read.1)))
    (height_is c.height.result c.args.rules.now.height c.height.ensures.lowest c.height.ensures.sections) c.load_at.ensures.ok

pub returns-clause-rest : goal.returns-clause-rest
returns-clause-rest g c =
    subst (λ (h : Height). IfOk c.load_at.result (λ read. IsRestOf h (positions_of read.0) read.1))
    (height_is c.height.result c.args.rules.now.height c.height.ensures.lowest c.height.ensures.sections) c.load_at.ensures.rest

pub returns-clause-err : goal.returns-clause-err
returns-clause-err g c =
    subst (λ (h : Height). IfErr c.load_at.result (λ e. e ≢ OutOfMemory → IsFilesFaultAfter h (states c.args.table.now) (map file_in c.args.files.items) e))
    (height_is c.height.result c.args.rules.now.height c.height.ensures.lowest c.height.ensures.sections) c.load_at.ensures.err
