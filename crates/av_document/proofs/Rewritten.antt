-- What is written of a chunk, from bytes to bytes.
use Rattle.std.proofs.Common.{◌≡◌, List, [], ◌∷◌, map, refl, ap, ◌∙◌, subst}
use Rattle.av_types.specs.declared.tick.Entry.{Entry}
use Rattle.av_nbt.specs.Writing.{written_document}
use Rattle.av_nbt.proofs.Written.{written_document_spells}
use Rattle.av_document.specs.Layout.{chunk_layout}
use Rattle.av_document.specs.Law.{sooner, SpellsChunk, WrittenComesBack, ReadThenWritten}
use Rattle.av_document.proofs.Written.{written_is_denoted}
use Rattle.av_document.proofs.WellFormed.{written_is_well_formed}
use Rattle.av_document.proofs.Ints.{less_nothing, ints_read}
use Rattle.av_document.proofs.Lawful.{read_is_lawful}

pub written_comes_back : WrittenComesBack
written_comes_back c h bytes cells now water then sources rest light n b small lawful ints lit = record {
  read = chunk_layout c h now then sources rest light n;
  spelled = written_document_spells (chunk_layout c h now then sources rest light n) (written_is_well_formed c h b.read bytes cells now water then sources rest light n b.spelled small b.denotes lawful ints lit);
  denotes = written_is_denoted c h b.read cells now water then sources rest light n (record { bytes = bytes; spelled = b.spelled }) b.denotes lawful;
}

no_sooner : (es : List Entry) → map (sooner 0) es ≡ es
no_sooner [] = refl
no_sooner (e ∷ es) =
    let first : sooner 0 e ≡ e = λ i. record { pos = e.pos; due = less_nothing e.due i; priority = e.priority } in
    ap (λ x. x ∷ map (sooner 0) es) first ∙ ap (λ xs. e ∷ xs) (no_sooner es)

pub read_then_written : ReadThenWritten
read_then_written c h bytes cells water sources rest light b small lit =
    subst (λ es. SpellsChunk c h (written_document (chunk_layout c h cells water sources rest light 0)) cells es rest) (no_sooner water)
    (written_comes_back c h bytes cells cells water water sources rest light 0 b small (read_is_lawful c h b.read cells water rest b.denotes)
    (ints_read c h b.read cells water rest (record { bytes = bytes; spelled = b.spelled }) b.denotes) lit)
