use Rattle.std.proofs.Common.{sym, subst, inl, List, All, map}
use Rattle.std.proofs.lemmas.List.Elements.{recursion_from_All}
use Rattle.std.proofs.lemmas.Result.{IfErr-weaker, IfOk-weaker}
use Rattle.av_folders.specs.declared.reading.Listed.{Listed}
use Rattle.av_folders.specs.Folders.{AreRead, IsListed}
use Rattle.av_folders.proofs.Orders.{in_name_order}
use Rattle.av_folders.proofs.reading.read_readable.Goals as goal

pub read_each_readable-read-requires : goal.read_each_readable-read-requires
read_each_readable-read-requires g c = subst (λ (xs : List Listed). All IsListed xs) (sym c.as_slice.ensures.value) c.in_ok-listed.ensures.named

pub returns-clause-read : goal.returns-clause-read
returns-clause-read g c =
    let items = c.in_ok-listed.listed.items in
    IfOk-weaker c.read_each_readable-read.result _ _
    (λ read all. record {
      listed = map (λ (l : Listed). l.region) items;
      order = in_name_order items (recursion_from_All IsListed items c.in_ok-listed.ensures.named) c.in_ok-listed.ensures.order;
      all = subst (λ (xs : List Listed). AreRead (map (λ (l : Listed). l.region) xs) read) c.as_slice.ensures.value all;
    }) c.read_each_readable-read.ensures.read

pub returns-clause-unlisted : goal.returns-clause-unlisted
returns-clause-unlisted g c = IfErr-weaker c.read_each_readable-read.result _ _ (λ e is. inl is) c.read_each_readable-read.ensures.memory
