use Rattle.std.proofs.Common.{◌≡◌, ◌∙◌, ◌∷◌, [], ◌++◌, refl, List, ℕ, Bool, Option, append_assoc, subst}
use Rattle.std.specs.Vec.Iter.{into_iter_items}
use Rattle.av_types.specs.declared.fault.Fault.{Fault}
use Rattle.av_types.specs.declared.fault.Fault.TheVariants.{Device}
use Rattle.av_commands.specs.CheckCommand.{TellsUnread}
use Rattle.av_reports.specs.Reasons.{TellsFailure}
use Rattle.av_reports.specs.declared.failure.UnreadFile.{UnreadFile}
use Rattle.av_commands.proofs.checking.write_unread.Goals as goal

one_more : (explains : Bool) (us : List UnreadFile) (u : UnreadFile) (a b c : Option (List ℕ)) → TellsUnread explains us a b
    → TellsFailure explains (Device u.name) b c → TellsUnread explains (us ++ u ∷ []) a c
one_more explains [] u a b c same told = (c, subst (λ (x : Option (List ℕ)). TellsFailure explains (Device u.name) x c) same told, refl)
one_more explains (v ∷ us) u a b c all told = (all.0, all.1, one_more explains us u all.0 b c all.2 told)

-- a file more: what was told, and what is left of all files
told_more : (explains : Bool) (all us left rest : List UnreadFile) (u : UnreadFile) (e : Fault) (a b c : Option (List ℕ)) → left ≡ u ∷ rest → us ++ left ≡ all
    → TellsUnread explains us a b → e ≡ Device u.name → TellsFailure explains e b c
    → ((us ++ u ∷ []) ++ rest ≡ all) × TellsUnread explains (us ++ u ∷ []) a c
told_more explains all us left rest u e a b c step split before is now = (
  append_assoc us (u ∷ []) rest ∙ subst (λ (xs : List UnreadFile). us ++ xs ≡ all) step split,
  one_more explains us u a b c before (subst (λ (f : Fault). TellsFailure explains f b c) is now),
)

pub loop-file-preserved-in_ok-write_failure : goal.loop-file-preserved-in_ok-write_failure
loop-file-preserved-in_ok-write_failure g c =
    let more = told_more c.args.explains c.args.unread.items c.loop-file.yielded (into_iter_items c.loop-file.file-iterator) (into_iter_items c.next.new.self) c.in-Some.file
    c.from-failure.result.fault (g.E.Write.contents c.args.err.now) (g.E.Write.contents c.loop-file.err) (g.E.Write.contents c.write_failure.new.err)
    c.in-Some.ensures.steps.0 c.loop-file.invariant.split c.loop-file.invariant.told c.from-failure.ensures c.in_ok-write_failure.ensures in
    record { split = more.0; told = more.1 }

pub loop-file-preserved-in_ok-write_failure-2 : goal.loop-file-preserved-in_ok-write_failure-2
loop-file-preserved-in_ok-write_failure-2 g c =
    let more = told_more c.args.explains c.args.unread.items c.loop-file.yielded (into_iter_items c.loop-file.file-iterator) (into_iter_items c.next.new.self) c.in-Some.file
    c.from-failure.result.fault (g.E.Write.contents c.args.err.now) (g.E.Write.contents c.loop-file.err) (g.E.Write.contents c.write_failure.new.err)
    c.in-Some.ensures.steps.0 c.loop-file.invariant.split c.loop-file.invariant.told c.from-failure.ensures c.in_ok-write_failure.ensures in
    record { split = more.0; told = more.1 }

pub loop-file-preserved-in_ok-write_failure-3 : goal.loop-file-preserved-in_ok-write_failure-3
loop-file-preserved-in_ok-write_failure-3 g c =
    let more = told_more c.args.explains c.args.unread.items c.loop-file.yielded (into_iter_items c.loop-file.file-iterator) (into_iter_items c.next.new.self) c.in-Some.file
    c.from-failure.result.fault (g.E.Write.contents c.args.err.now) (g.E.Write.contents c.loop-file.err) (g.E.Write.contents c.write_failure.new.err)
    c.in-Some.ensures.steps.0 c.loop-file.invariant.split c.loop-file.invariant.told c.from-failure.ensures c.in_ok-write_failure.ensures in
    record { split = more.0; told = more.1 }

pub loop-file-preserved-in_ok-write_failure-4 : goal.loop-file-preserved-in_ok-write_failure-4
loop-file-preserved-in_ok-write_failure-4 g c =
    let more = told_more c.args.explains c.args.unread.items c.loop-file.yielded (into_iter_items c.loop-file.file-iterator) (into_iter_items c.next.new.self) c.in-Some.file
    c.from-failure.result.fault (g.E.Write.contents c.args.err.now) (g.E.Write.contents c.loop-file.err) (g.E.Write.contents c.write_failure.new.err)
    c.in-Some.ensures.steps.0 c.loop-file.invariant.split c.loop-file.invariant.told c.from-failure.ensures c.in_ok-write_failure.ensures in
    record { split = more.0; told = more.1 }

pub loop-file-preserved-in_ok-write_failure-5 : goal.loop-file-preserved-in_ok-write_failure-5
loop-file-preserved-in_ok-write_failure-5 g c =
    let more = told_more c.args.explains c.args.unread.items c.loop-file.yielded (into_iter_items c.loop-file.file-iterator) (into_iter_items c.next.new.self) c.in-Some.file
    c.from-failure.result.fault (g.E.Write.contents c.args.err.now) (g.E.Write.contents c.loop-file.err) (g.E.Write.contents c.write_failure.new.err)
    c.in-Some.ensures.steps.0 c.loop-file.invariant.split c.loop-file.invariant.told c.from-failure.ensures c.in_ok-write_failure.ensures in
    record { split = more.0; told = more.1 }

pub loop-file-preserved : goal.loop-file-preserved
loop-file-preserved g c =
    let more = told_more c.args.explains c.args.unread.items c.loop-file.yielded (into_iter_items c.loop-file.file-iterator) (into_iter_items c.next.new.self) c.in-Some.file
    c.from-failure.result.fault (g.E.Write.contents c.args.err.now) (g.E.Write.contents c.loop-file.err) (g.E.Write.contents c.write_failure.new.err)
    c.in-Some.ensures.steps.0 c.loop-file.invariant.split c.loop-file.invariant.told c.from-failure.ensures c.in_ok-write_failure.ensures in
    record { split = more.0; told = more.1 }
