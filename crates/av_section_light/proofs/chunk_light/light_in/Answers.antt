use Rattle.std.proofs.Common.{arith, ap, sym, subst, ◌∙◌, ◌*◌, ◌+◌, ℕ, List}
use Rattle.std.specs.Prelude.{slice_range}
use Rattle.av_types.specs.Division.{divided}
use Rattle.av_types.specs.Positions.{place_of, section_index}
use Rattle.av_types.specs.declared.position.Height.{Height}
use Rattle.av_pack.specs.Nibbles.{nibble_at}
use Rattle.av_cells.specs.Grid.{cells_of}
use Rattle.av_flood.specs.Light.{IsLight}
use Rattle.av_section_light.specs.Light.{terrain_of}
use Rattle.av_section_light.proofs.HalfBytes.{bytes_are}
use Rattle.av_section_light.proofs.chunk_light.light_in.Goals as goal

pub from_bytes-requires : goal.from_bytes-requires
from_bytes-requires g c =
    omega (arith, (c.in_ok-bytes.ensures {u = tt}).count, ap (λ (k : Height). k.sections) (c.in_ok-flood.ensures {u = tt}).height, ap (λ (k : Height). k.sections) c.height-height.ensures, c.in_ok-bytes.bytes.ok.0)

pub returns-clause-light : goal.returns-clause-light
returns-clause-light g c =
    let made = c.in_ok-flood.ensures {u = tt} in
    let half = c.in_ok-bytes.ensures {u = tt} in
    let t = terrain_of c.args.kinds.now (cells_of (g.S.Sections.grid c.args.sections.now)) in
    let h = g.S.Sections.tall c.args.sections.now in
    record {
      sections = c.from_bytes.ensures.sections ∙ ap (λ (k : Height). k.sections) c.height-height.ensures;
      blocks = λ p e i.
          let o = section_index h (divided p.y 16) in
          subst (IsLight t p) (sym (ap (λ (xs : List ℕ). nibble_at (slice_range xs (2048 * o) (2048 * o + 2048)) (place_of p)) c.from_bytes.ensures.bytes
          ∙ bytes_are c.in_ok-flood.flood c.args.chunk h c.in_ok-bytes.bytes.items made.chunk made.height (omega (arith, half.count, ap (λ (k : Height). k.sections) made.height, c.in_ok-bytes.bytes.ok.0)) half.halves p e i))
          (made.light p e);
    }
