-- Steps of the loops over indices and files.
use Rattle.std.proofs.Common.{◌≡◌, ℕ, ◌+◌, ◌-◌, ◌<◌, List, [], ◌∷◌, ◌++◌, refl, ap, sym, subst, suc, inl, inr, append-nil, arith, ◌∙◌}
use Rattle.std.specs.List.{range_with_len}
use Rattle.std.proofs.lemmas.Option.{none-some}
use Rattle.std.proofs.lemmas.List.{length_push}
use Rattle.av_types.specs.Positions.{chunk_at}
use Rattle.av_types.specs.declared.position.Height.{Height}
use Rattle.av_types.specs.declared.fault.Fault.{Fault}
use Rattle.av_state.specs.BlockState.{BlockState}
use Rattle.av_section.specs.Reading.{OnlyGrows}
use Rattle.av_section.proofs.Numbers.{OnlyGrows-trans}
use Rattle.av_files.specs.Files.{File}
use Rattle.av_files.specs.Layout.{indices}
use Rattle.av_files.specs.FirstFault.{IsFaultAt, IsGoodAt, IsFirstOfFile, IsFirstOfFiles, IsFirstOfIndices}
use Rattle.av_image.specs.declared.reading.stored.Stored.{Stored}
use Rattle.av_image.specs.declared.reading.regions.ReadRegion.{ReadRegion}
use Rattle.av_image.specs.RegionsRead.{IsReadAt, WasReadAt, AreIndicesRead, WasRegionRead, IsRegionRead, WereRegionsRead, AreRegionsRead}
use Rattle.av_image.specs.Ways.{IsIndicesWay, IndicesSoFar, GoesOn, Stops, FilesSoFar}
use Rattle.av_image.proofs.OneIndex.{good_item, stored_grown}
use Rattle.av_image.proofs.Growing.{pushed_each}

pub grows_nothing : (t : List BlockState) → OnlyGrows t t
grows_nothing t = record { more = []; grown = sym (append-nil t) }

-- ---- indices

way_step : (h : Height) (f : File) (start table next : List BlockState) (all left : List ℕ) (i : ℕ) → IsIndicesWay h f start table all (i ∷ left) → IsGoodAt h table f.bytes (chunk_at f.pos i) i next → IsIndicesWay h f start next all left
way_step h f start table next all left i w g = record {
  good = λ new rest. w.good new (next, g, rest);
  first = λ e rest. w.first e (inr (next, g, rest));
}

range_step : (n m : ℕ) → n < m → range_with_len n (m - n) ≡ n ∷ range_with_len (n + 1) (m - (n + 1))
range_step n m lt = let e : m - n ≡ suc (m - (n + 1)) = omega (arith, lt) in ap (range_with_len n) e

pub indices_none : (h : Height) (f : File) (start : List BlockState) → IndicesSoFar h f start start 0 []
indices_none h f start = record {
  way = record { good = λ new g. g; first = λ e g. g };
  each = record { many = refl; each = λ i y e. absurd (none-some y e) };
  grown = grows_nothing start;
}

pub indices_more : (h : Height) (f : File) (start table next : List BlockState) (n : ℕ) (stored after : List Stored) (p : Stored) → n < 1024 → after ≡ stored ++ p ∷ []
    → IndicesSoFar h f start table n stored → IsReadAt h table next f.bytes (chunk_at f.pos n) n p → OnlyGrows table next → IndicesSoFar h f start next (n + 1) after
indices_more h f start table next n stored after p lt is s r more = subst (λ (xs : List Stored). IndicesSoFar h f start next (n + 1) xs) (sym is) (record {
  way = way_step h f start table next indices (range_with_len (n + 1) (1024 - (n + 1))) n
      (subst (λ l. IsIndicesWay h f start table indices l) (range_step n 1024 lt) s.way)
      (good_item h table next f.bytes (chunk_at f.pos n) n p r);
  each =
      let old = stored_grown h table next f n stored more s.each in
      record {
        many = length_push stored p ∙ ap (λ k. k + 1) s.each.many;
        each = pushed_each (λ i q. WasReadAt h next f.bytes (chunk_at f.pos i) i q) stored p n s.each.many (record { old = table; new = next; read = r; grown = grows_nothing next }) old.each;
      };
  grown = OnlyGrows-trans start table next s.grown more;
})

pub indices_all : (h : Height) (f : File) (start table : List BlockState) (stored : List Stored) → IndicesSoFar h f start table 1024 stored → AreIndicesRead h start table f stored
indices_all h f start table stored s = record { good = s.way.good table refl; each = s.each }

pub indices_stop : (h : Height) (f : File) (start table : List BlockState) (n : ℕ) (stored : List Stored) (e : Fault) → n < 1024 → IndicesSoFar h f start table n stored
    → IsFaultAt h table f.bytes (chunk_at f.pos n) n e → IsFirstOfIndices h start f indices e
indices_stop h f start table n stored e lt s bad =
    let w = subst (λ l. IsIndicesWay h f start table indices l) (range_step n 1024 lt) s.way in
    w.first e (inl bad)

-- the same, whatever was read before
pub goes_same : (h : Height) (f : File) (old new : List BlockState) (n k m : ℕ) (stored after : List Stored) → k ≡ m → GoesOn h f old n stored new k after → GoesOn h f old n stored new m after
goes_same h f old new n k m stored after is on start s = subst (λ i. IndicesSoFar h f start new i after) is (on start s)

pub goes_more : (h : Height) (f : File) (old table next : List BlockState) (n k m : ℕ) (before stored after : List Stored) (p : Stored) → k < 1024 → m ≡ k + 1 → after ≡ stored ++ p ∷ []
    → GoesOn h f old n before table k stored → IsReadAt h table next f.bytes (chunk_at f.pos k) k p → OnlyGrows table next → GoesOn h f old n before next m after
goes_more h f old table next n k m before stored after p lt one is on r more start s =
    subst (λ i. IndicesSoFar h f start next i after) (sym one) (indices_more h f start table next k stored after p lt is (on start s) r more)

pub goes_stop : (h : Height) (f : File) (old table : List BlockState) (n k : ℕ) (before stored : List Stored) (e : Fault) → k < 1024 → GoesOn h f old n before table k stored
    → IsFaultAt h table f.bytes (chunk_at f.pos k) k e → Stops h f old n before e
goes_stop h f old table n k before stored e lt on bad start s = indices_stop h f start table k stored e lt (on start s) bad

-- ---- files

region_grown : (h : Height) (old new : List BlockState) (f : File) (r : ReadRegion) → OnlyGrows old new → WasRegionRead h old f r → WasRegionRead h new f r
region_grown h old new f r more w = record { pos_is = w.pos_is; limits = w.limits; whole = w.whole; stamps_are = w.stamps_are; small = w.small; stored_are = stored_grown h old new f 1024 r.stored.items more w.stored_are }

regions_grown : (h : Height) (old new : List BlockState) (fs : List File) (rs : List ReadRegion) → OnlyGrows old new → WereRegionsRead h old fs rs → WereRegionsRead h new fs rs
regions_grown h old new [] [] more w = tt
regions_grown h old new (f ∷ fs) (r ∷ rs) more w = (region_grown h old new f r more w.0, regions_grown h old new fs rs more w.1)
regions_grown h old new [] (r ∷ rs) more w = w
regions_grown h old new (f ∷ fs) [] more w = w

regions_pushed : (h : Height) (table : List BlockState) (fs : List File) (rs : List ReadRegion) (f : File) (r : ReadRegion) → WereRegionsRead h table fs rs → WasRegionRead h table f r → WereRegionsRead h table (fs ++ f ∷ []) (rs ++ r ∷ [])
regions_pushed h table [] [] f r w x = (x, tt)
regions_pushed h table (g ∷ fs) (q ∷ rs) f r w x = (w.0, regions_pushed h table fs rs f r w.1 x)
regions_pushed h table [] (q ∷ rs) f r w x = absurd w
regions_pushed h table (g ∷ fs) [] f r w x = absurd w

pub files_none : (h : Height) (start : List BlockState) (all : List File) → FilesSoFar h start start all all [] []
files_none h start all = record {
  way = record { good = λ new g. g; first = λ e g. g };
  each = tt;
  grown = grows_nothing start;
}

pub files_more : (h : Height) (start table next : List BlockState) (all left past : List File) (f : File) (regions after : List ReadRegion) (r : ReadRegion) → after ≡ regions ++ r ∷ []
    → FilesSoFar h start table all (f ∷ left) past regions → IsRegionRead h table next f r → OnlyGrows table next → FilesSoFar h start next all left (past ++ f ∷ []) after
files_more h start table next all left past f regions after r is s x more = subst (λ (xs : List ReadRegion). FilesSoFar h start next all left (past ++ f ∷ []) xs) (sym is) (record {
  way = record {
    good = λ new rest. s.way.good new (next, x.good, rest);
    first = λ e rest. s.way.first e (inr (next, x.good, rest));
  };
  each = regions_pushed h next past regions f r (regions_grown h table next past regions more s.each) x.read;
  grown = OnlyGrows-trans start table next s.grown more;
})

pub files_all : (h : Height) (start table : List BlockState) (all : List File) (regions : List ReadRegion) → FilesSoFar h start table all [] all regions → AreRegionsRead h start table all regions
files_all h start table all regions s = record { good = s.way.good table refl; each = s.each }

pub files_stop : (h : Height) (start table : List BlockState) (all left past : List File) (f : File) (regions : List ReadRegion) (e : Fault) → FilesSoFar h start table all (f ∷ left) past regions → IsFirstOfFile h table f e → IsFirstOfFiles h start all e
files_stop h start table all left past f regions e s bad = s.way.first e (inl bad)
