-- The parts are those of the section.
use Rattle.std.proofs.Common.{refl}
use Rattle.std.proofs.lemmas.Bool.{lt-ltb}
use Rattle.av_section.proofs.section.Section.parts.Goals as goal

pub returns : goal.returns
returns c =
    let s = c.args.self.now in
    rw (c.as_slice.ensures.value, c.as_slice-2.ensures.value) (record {
      packed = s.packed;
      numbers = λ i low. rw (lt-ltb i 4096 low) refl;
      prepared = λ number there. there;
    })
