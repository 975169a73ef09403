use Rattle.std.proofs.Common.{◌≡◌, ◌∙◌, List, length, map, ap, sym, subst}
use Rattle.av_types.specs.declared.position.Height.{Height}
use Rattle.av_state.specs.BlockState.{BlockState}
use Rattle.av_state.specs.Table.{states}
use Rattle.av_rules.specs.Kinds.{kind_count}
use Rattle.av_land.specs.Good.{Good, IsTimely}
use Rattle.av_world.specs.Lands.{land_of}
use Rattle.av_world.specs.Views.{positions_of}
use Rattle.av_files.proofs.Lawfuls.{read_is_good}
use Rattle.av_image.specs.Saving.{IsRestOf}
use Rattle.av_image.specs.Views.{rest_in, file_in}
use Rattle.av_image_tests.proofs.saves.read.Goals as goal

pub returns-clause-good : goal.returns-clause-good
returns-clause-good g c =
    let loaded = c.in_ok-world.ensures.ok in
    let w = c.in_ok-world.world in
    let k = c.in_ok-kinds.kinds in
    let known = states c.load.new.table in
    let many : length known ≡ kind_count k = ap (λ (xs : List BlockState). length xs) (sym c.in_ok-kinds.ensures.table) ∙ sym k.listed.a_row_each in
    subst (λ n. Good n (IsTimely 0) (land_of w)) many
    (read_is_good c.in_ok-rules.rules.height (map file_in c.args.files.items) known (land_of w) (rest_in c.in_ok-world.rest) loaded.denotes loaded.numbers loaded.zeros)

pub returns-clause-rest : goal.returns-clause-rest
returns-clause-rest g c =
    let loaded = c.in_ok-world.ensures.ok in
    subst (λ (h : Height). IsRestOf h (positions_of c.in_ok-world.world) c.in_ok-world.rest) (sym loaded.denotes.height) c.in_ok-world.ensures.rest
