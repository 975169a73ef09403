use Rattle.std.proofs.Common.{◌≡◌, sym, ◌∙◌, true, option_map}
use Rattle.av_region.specs.Region.{IsShort, Holds}
use Rattle.av_state.specs.States.{state_of}
use Rattle.av_codec.specs.Block.{is_of_region, index_at}
use Rattle.av_codec.proofs.Found.{found_in_file, refused_in_file, if_ok_then, if_err_then}
use Rattle.av_codec.proofs.block.block_at.Goals as goal

pub returns-in-Some-clause-ok : goal.returns-in-Some-clause-ok
returns-in-Some-clause-ok c =
    let whole : IsShort c.args.bytes.now → ⊥ = λ s. let q = c.in_ok-file.ensures.short_header.1 s in cc in
    let own : is_of_region c.args.region c.args.pos ≡ true = sym c.is_of_region.ensures ∙ c.if-not-is_of_region.false in
    let holds : Holds c.args.bytes.now (index_at c.args.pos) c.in-Some.payload.now =
    rw (c.in_ok-file.ensures.ok, c.index.ensures.value, c.chunk.ensures) at (rw c.in-Some.is at c.in_ok-payload.ensures.ok) in
    if_ok_then c.block_in_payload.result c.block_in_payload.ensures.ok
    (λ found is. found_in_file c.args.bytes.now c.args.region c.args.height c.args.pos c.in-Some.payload.now (option_map state_of found) whole own holds is)

pub returns-in-Some-clause-err : goal.returns-in-Some-clause-err
returns-in-Some-clause-err c =
    let whole : IsShort c.args.bytes.now → ⊥ = λ s. let q = c.in_ok-file.ensures.short_header.1 s in cc in
    let own : is_of_region c.args.region c.args.pos ≡ true = sym c.is_of_region.ensures ∙ c.if-not-is_of_region.false in
    let holds : Holds c.args.bytes.now (index_at c.args.pos) c.in-Some.payload.now =
    rw (c.in_ok-file.ensures.ok, c.index.ensures.value, c.chunk.ensures) at (rw c.in-Some.is at c.in_ok-payload.ensures.ok) in
    if_err_then c.block_in_payload.result c.block_in_payload.ensures.err
    (λ e is. refused_in_file c.args.bytes.now c.args.region c.args.height c.args.pos c.in-Some.payload.now e whole own holds is)
