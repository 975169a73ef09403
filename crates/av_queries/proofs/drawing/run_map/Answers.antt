use Rattle.std.proofs.Common.{refl, sym, subst}
use Rattle.av_sink.specs.Account.{Account}
use Rattle.av_queries.specs.MapCommand.{IsNotSaved, drawn, not_saved, not_drawn}
use Rattle.av_queries.proofs.drawing.run_map.Goals as goal

pub returns-in-Err : goal.returns-in-Err
returns-in-Err g c = not_drawn refl c.report_no_picture.ensures

pub returns : goal.returns
returns g c =
    not_saved c.in-Ok.map c.in-Err-save_picture.fault c.in-Ok.ensures
    (subst (λ (a : Account). IsNotSaved c.args.request.picture.now (g.S.Sink.account c.args.sink.now) a c.in-Err-save_picture.fault)
    (sym c.report_unsaved.ensures.same) c.in-Err-save_picture.ensures.err) c.report_unsaved.ensures.status

pub returns-in-Ok-save_picture : goal.returns-in-Ok-save_picture
returns-in-Ok-save_picture g c = drawn c.in-Ok.map c.in-Ok.ensures c.in-Ok-save_picture.ensures.ok refl
