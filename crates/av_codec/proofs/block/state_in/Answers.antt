use Rattle.std.proofs.Common.{◌≡◌, true, Some, sym, ◌∙◌, rules, to_z-of_z, w32, FitsSigned}
use Rattle.av_types.specs.Positions.{is_block_of}
use Rattle.av_state.specs.Table.{states}
use Rattle.av_chunk.specs.Views.{number_in}
use Rattle.av_codec.proofs.Found.{number_below}
use Rattle.av_codec.proofs.block.state_in.Goals as goal

pub state_of_number-requires : goal.state_of_number-requires
state_of_number-requires c =
    let fits : FitsSigned w32 c.args.pos.y = search rules in
    let inside : is_block_of c.args.height c.args.pos.y ≡ true = rw (to_z-of_z fits) at (sym c.is_in_height.ensures ∙ c.if-not-is_in_height.false) in
    let is : number_in c.args.height c.args.chunk.now c.args.pos ≡ Some c.in-Some.number = sym c.number_in.ensures ∙ c.in-Some.is in
    number_below (states c.args.table.now) c.args.height c.args.chunk.now c.args.pos c.in-Some.number is (c.requires.numbered inside)
