use Rattle.std.proofs.Common.{rules, inr, refl}
use Rattle.av_commands.specs.BlockCommand.{IsPathOf}
use Rattle.av_commands.proofs.block.region_of_path.Goals as goal

pub returns-in-Some-clause-path : goal.returns-in-Some-clause-path
returns-in-Some-clause-path c = record {
  fits = search rules;
  name = c.file_name.result.now;
  file_name = c.file_name.ensures;
  named = rw c.in-Some.is at c.in_ok-region_of_name.ensures.named;
}

pub returns-in-Some-2-clause-refused : goal.returns-in-Some-2-clause-refused
returns-in-Some-2-clause-refused c =
    let path_of : IsPathOf c.args.path.now c.in-Some-2.field-0 = record {
      fits = search rules;
      name = c.file_name.result.now;
      file_name = c.file_name.ensures;
      named = rw c.in-Some-2.is at c.in_ok-region_of_name.ensures.named;
    } in
    inr (refl, c.in-Some-2.field-0, path_of, λ within. search rules)
