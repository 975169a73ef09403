use Rattle.std.proofs.Common.{◌≡◌, Result, Ok, Err, IfOk, OnOk, Some, None, subst, Bool}
use Rattle.av_types.specs.declared.position.Pos.{Pos}
use Rattle.av_state.specs.Table.{states}
use Rattle.av_land.specs.Land.{is_loaded}
use Rattle.av_codec.proofs.Found.{if_err_then}
use Rattle.av_edits.specs.Edits.{first_in_edits}
use Rattle.av_world.specs.Lands.{land_of}
use Rattle.av_run.proofs.Edited.{are_edits}
use Rattle.av_run.proofs.input.read_edits.Goals as goal

if_ok_all : {T E : Type 0} (r : Result T E) {P Q : T → Type 0} {A B : Type 0} → IfOk r P → OnOk r A → OnOk r B → ((x : T) → P x → A → B → Q x) → IfOk r Q
if_ok_all (Ok x) p a b f = f x p a b
if_ok_all (Err e) p a b f = tt

pub returns-clause-ok : goal.returns-clause-ok
returns-clause-ok c =
    let loaded = is_loaded (land_of c.args.world.now) in
    let old = states c.args.table.now in
    if_ok_all c.read.result c.read.ensures.ok c.read.ensures.after c.read.ensures.none
    (λ es are after none. are_edits loaded c.args.ticks c.args.text.now old c.read.new.table es.items are after
    (subst (λ (l : Pos → Bool). first_in_edits l c.args.ticks old c.args.text.now ≡ None) c.requires none))

pub returns-clause-err : goal.returns-clause-err
returns-clause-err c =
    if_err_then c.read.result c.read.ensures.err
    (λ e bad other. subst (λ (l : Pos → Bool). first_in_edits l c.args.ticks (states c.args.table.now) c.args.text.now ≡ Some e) c.requires (bad other))
