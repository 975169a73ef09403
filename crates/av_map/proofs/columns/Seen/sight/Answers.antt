use Rattle.std.proofs.Common.{◌≡◌, ◌∙◌, ◌*◌, length, option_map, ap, sym, subst}
use Rattle.av_map.specs.Arrays.{arrays_of}
use Rattle.av_map.specs.Columns.{sight_at, top_in}
use Rattle.av_map.specs.Sections.{look_at, sight_by}
use Rattle.av_map.specs.declared.view.View.{View}
use Rattle.av_map.proofs.Alike.{top_above}
use Rattle.av_map.proofs.columns.Seen.sight.Goals as goal

pub returns-in-Blocks : goal.returns-in-Blocks
returns-in-Blocks c =
    let s = c.args.self.now in
    let f = look_at s.sections.now s.looks.now c.args.column in
    let same : top_in f c.args.ceiling ≡ top_in f (16 * length s.sections.now) = sym (top_above f c.args.ceiling (16 * length s.sections.now) c.requires.bound c.requires.air) in
    subst (λ (v : View). c.block_sight.result ≡ sight_by v s.sections.now s.looks.now (arrays_of s.lights.now) c.args.column) (sym c.in-Blocks.is)
    (c.block_sight.ensures ∙ ap (option_map (sight_at f)) same)

pub returns-in-Light : goal.returns-in-Light
returns-in-Light c =
    let s = c.args.self.now in
    let f = look_at s.sections.now s.looks.now c.args.column in
    let same : top_in f c.args.ceiling ≡ top_in f (16 * length s.sections.now) = sym (top_above f c.args.ceiling (16 * length s.sections.now) c.requires.bound c.requires.air) in
    subst (λ (v : View). c.light_sight.result ≡ sight_by v s.sections.now s.looks.now (arrays_of s.lights.now) c.args.column) (sym c.in-Light.is)
    (c.light_sight.ensures ∙ ap (option_map _) same)
