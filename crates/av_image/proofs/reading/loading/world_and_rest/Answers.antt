use Rattle.std.proofs.Common.{◌≡◌, ◌∙◌, ap, sym, subst, List, map, All, take, [], ◌∷◌, length, ◌<◌, arith, true, ◌++◌}
use Rattle.std.specs.List.{flat_map}
use Rattle.av_types.specs.Positions.{IsInLimits, region_of}
use Rattle.av_state.specs.Table.{states}
use Rattle.av_state.specs.BlockState.{BlockState}
use Rattle.av_state.specs.StateList.{first_states}
use Rattle.av_world.specs.Inserted.{IsNewChunk}
use Rattle.av_types.specs.Order.{ordered}
use Rattle.av_files.specs.Files.{File, in_order, regions_rise}
use Rattle.av_files.specs.FirstFault.{AreFilesGood}
use Rattle.av_image.specs.declared.reading.splits.LoadedChunk.{LoadedChunk}
use Rattle.av_image.specs.RegionsRead.{WereRegionsRead}
use Rattle.av_image.specs.Loading.{positioned_order}
use Rattle.av_image.specs.Splits.{positioned_in, ArePositionedOnce, IsWorldOf}
use Rattle.av_image.specs.Saving.{IsRegionOf}
use Rattle.std.proofs.lemmas.List.Elements.{All-from_recursion}
use Rattle.av_image.proofs.Loads.{limits_of, counts_of, positioned_limits, positioned_fit, positioned_once, numbers_read, stamps_read, whole_read}
use Rattle.av_image.proofs.Sorting.{world_ordered}
use Rattle.av_image.proofs.Denoted.{denotes_read, zero_elsewhere, rest_read}
use Rattle.av_image.proofs.reading.loading.world_and_rest.Goals as goal

some : (t : List BlockState) → take 10 t ≡ first_states → 0 < length t
some [] e = absurd (nothing e) where
  nothing : [] ≡ first_states → ⊥
  nothing k = cc
some (x ∷ t) e = omega arith

pub split_regions-requires-clause-limits : goal.split_regions-requires-clause-limits
split_regions-requires-clause-limits c = limits_of c.args.height (states c.args.table.now) c.requires.files c.args.regions.items c.requires.each

pub split_regions-requires-clause-count : goal.split_regions-requires-clause-count
split_regions-requires-clause-count c = counts_of c.args.height (states c.args.table.now) c.requires.files c.args.regions.items c.requires.each

pub world_of-requires-clause-limits : goal.world_of-requires-clause-limits
world_of-requires-clause-limits c =
    let rs = c.args.regions.items in
    let is : c.in_ok-found.found.items ≡ ordered positioned_order (flat_map positioned_in rs) = c.in_ok-found.ensures ∙ ap (ordered positioned_order) (c.in_ok-regions.ensures.found ∙ ap (λ (l : List LoadedChunk). l ++ flat_map positioned_in rs) c.new-found.ensures.items) in
    subst (λ (xs : List LoadedChunk). All (λ x. IsInLimits (region_of x.at)) xs) (sym is) (positioned_limits c.args.height (states c.args.table.now) c.requires.files rs (some (states c.args.table.now) c.args.table.now.numbered.begins) c.requires.each)

pub world_of-requires-clause-fits : goal.world_of-requires-clause-fits
world_of-requires-clause-fits c =
    let rs = c.args.regions.items in
    let is : c.in_ok-found.found.items ≡ ordered positioned_order (flat_map positioned_in rs) = c.in_ok-found.ensures ∙ ap (ordered positioned_order) (c.in_ok-regions.ensures.found ∙ ap (λ (l : List LoadedChunk). l ++ flat_map positioned_in rs) c.new-found.ensures.items) in
    subst (λ (xs : List LoadedChunk). All (λ x. IsNewChunk x.at c.args.height x.chunk) xs) (sym is) (positioned_fit c.args.height (states c.args.table.now) c.requires.files rs (some (states c.args.table.now) c.args.table.now.numbered.begins) c.requires.each)

pub world_of-requires-clause-once : goal.world_of-requires-clause-once
world_of-requires-clause-once c =
    let rs = c.args.regions.items in
    let is : c.in_ok-found.found.items ≡ ordered positioned_order (flat_map positioned_in rs) = c.in_ok-found.ensures ∙ ap (ordered positioned_order) (c.in_ok-regions.ensures.found ∙ ap (λ (l : List LoadedChunk). l ++ flat_map positioned_in rs) c.new-found.ensures.items) in
    subst ArePositionedOnce (sym is) (positioned_once c.args.height (states c.args.table.now) c.requires.files rs c.requires.each c.requires.rise)

pub returns-clause-ok : goal.returns-clause-ok
returns-clause-ok c =
    let rs = c.args.regions.items in
    let xs = c.in_ok-regions.regions.items in
    let w = c.in_ok-world.world in
    let h = c.args.height in
    let t = states c.args.table.now in
    let is : c.in_ok-found.found.items ≡ ordered positioned_order (flat_map positioned_in rs) = c.in_ok-found.ensures ∙ ap (ordered positioned_order) (c.in_ok-regions.ensures.found ∙ ap (λ (l : List LoadedChunk). l ++ flat_map positioned_in rs) c.new-found.ensures.items) in
    let world : IsWorldOf h (flat_map positioned_in rs) w = world_ordered h (flat_map positioned_in rs) w (subst (λ (xs : List LoadedChunk). IsWorldOf h xs w) is c.in_ok-world.ensures.world) in
    let begins = c.args.table.now.numbered.begins in
    λ old fs sorted judged read.
    let was : WereRegionsRead h t (in_order fs) rs = subst (λ (gs : List File). WereRegionsRead h t gs rs) judged.order read.each in
    let good : AreFilesGood h old (in_order fs) t = subst (λ (gs : List File). AreFilesGood h old gs t) judged.order read.good in
    let rise : regions_rise (map (λ f. f.pos) (in_order fs)) ≡ true = subst (λ (gs : List File). regions_rise (map (λ f. f.pos) gs) ≡ true) judged.order judged.rise in
    record {
      read = record { limits = judged.limits; apart = judged.apart; good = good };
      denotes = denotes_read h t _ fs rs xs w begins rise was c.in_ok-regions.ensures.rest world;
      numbers = numbers_read h t (in_order fs) rs w was world (some t begins);
      zeros = zero_elsewhere h w (flat_map positioned_in rs) world;
      stamps = stamps_read h t (in_order fs) rs xs was c.in_ok-regions.ensures.rest;
    }

pub returns-clause-whole : goal.returns-clause-whole
returns-clause-whole c =
    let rs = c.args.regions.items in
    let w = c.in_ok-world.world in
    let h = c.args.height in
    let t = states c.args.table.now in
    let is : c.in_ok-found.found.items ≡ ordered positioned_order (flat_map positioned_in rs) = c.in_ok-found.ensures ∙ ap (ordered positioned_order) (c.in_ok-regions.ensures.found ∙ ap (λ (l : List LoadedChunk). l ++ flat_map positioned_in rs) c.new-found.ensures.items) in
    let world : IsWorldOf h (flat_map positioned_in rs) w = world_ordered h (flat_map positioned_in rs) w (subst (λ (xs : List LoadedChunk). IsWorldOf h xs w) is c.in_ok-world.ensures.world) in
    whole_read h t c.requires.files rs w c.requires.each world (some t c.args.table.now.numbered.begins)

pub returns-clause-rest : goal.returns-clause-rest
returns-clause-rest c =
    let rs = c.args.regions.items in
    let xs = c.in_ok-regions.regions.items in
    let w = c.in_ok-world.world in
    let h = c.args.height in
    let t = states c.args.table.now in
    let is : c.in_ok-found.found.items ≡ ordered positioned_order (flat_map positioned_in rs) = c.in_ok-found.ensures ∙ ap (ordered positioned_order) (c.in_ok-regions.ensures.found ∙ ap (λ (l : List LoadedChunk). l ++ flat_map positioned_in rs) c.new-found.ensures.items) in
    let world : IsWorldOf h (flat_map positioned_in rs) w = world_ordered h (flat_map positioned_in rs) w (subst (λ (xs : List LoadedChunk). IsWorldOf h xs w) is c.in_ok-world.ensures.world) in
    let both = rest_read h t c.requires.files rs xs w c.requires.rise c.requires.each c.in_ok-regions.ensures.rest world in
    record { rise = both.0; each = All-from_recursion (IsRegionOf h w.positions.items) xs both.1 }
