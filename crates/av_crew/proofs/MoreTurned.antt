-- One more entry turned.
use Rattle.std.proofs.Common.{◌≡◌, ℕ, ◌+◌, ◌<◌, List, [], ◌∷◌, ◌++◌, length, get_or, take, true, refl, sym, ap, ◌∙◌, add-one}
use Rattle.std.proofs.lemmas.Option.{slice_get-get_or}
use Rattle.av_types.specs.declared.tick.Entry.{Entry}
use Rattle.av_types.specs.declared.tick.Made.{Made}
use Rattle.av_cells.specs.declared.kind.Kind.{Kind}
use Rattle.av_cells.specs.World.{World, Lists, listed_if, listed_all}
use Rattle.av_play.specs.declared.event.DueEntry.{DueEntry}
use Rattle.av_play.specs.Play.{turn_of, made_by, entries_of, world_after, made_after}
use Rattle.av_play.proofs.Labelling.{entries_of_append, entries_of_labelled}
use Rattle.av_play.proofs.Lists.{take_one_more}
use Rattle.av_play.proofs.Trace.{world_push, made_push}
use Rattle.av_crew.specs.Work.{AreTurned}

listed_append : (xs ys : List Entry) (l : Lists) → listed_all l (xs ++ ys) ≡ listed_all (listed_all l xs) ys
listed_append [] ys l = refl
listed_append (x ∷ xs) ys l = listed_append xs ys (listed_if true l x)

pub one_more : (k : ℕ → Kind) (now i : ℕ) (entries : List DueEntry) (d : DueEntry) (old mid new : World) (l m n : Lists) (made more : List Made) → AreTurned k now i entries old mid l m made → i < length entries
    → new ≡ (turn_of k now (get_or entries i d) mid).world → more ≡ made ++ made_by k now (get_or entries i d) mid → n ≡ listed_all m (turn_of k now (get_or entries i d) mid).made → AreTurned k now (i + 1) entries old new l n more
one_more k now i entries d old mid new l m n made more t h e f g =
    let x : DueEntry = get_or entries i d in
    let is : take (i + 1) entries ≡ take i entries ++ x ∷ [] = ap (λ (n : ℕ). take n entries) (add-one i) ∙ take_one_more entries i x (slice_get-get_or entries i d h) in
    record {
      world = e ∙ ap (λ v. (turn_of k now x v).world) t.world ∙ sym (world_push k now (take i entries) x old) ∙ ap (λ (xs : List DueEntry). world_after k now xs old) (sym is);
      put_aside = f ∙ (λ j. t.put_aside j ++ made_by k now x (t.world j)) ∙ sym (made_push k now (take i entries) x old) ∙ ap (λ (xs : List DueEntry). made_after k now xs old) (sym is);
      listed = g ∙ ap (λ s. listed_all s (turn_of k now x mid).made) t.listed ∙ sym (listed_append (entries_of made) (turn_of k now x mid).made l)
          ∙ ap (λ es. listed_all l (entries_of made ++ es)) (sym (entries_of_labelled x.index 0 (turn_of k now x mid).made))
          ∙ ap (listed_all l) (sym (entries_of_append made (made_by k now x mid))) ∙ ap (λ ms. listed_all l (entries_of ms)) (sym f);
    }

-- nothing more was turned
pub no_more : (k : ℕ → Kind) (now i : ℕ) (entries : List DueEntry) (old mid new : World) (l m n : Lists) (made more : List Made) → AreTurned k now i entries old mid l m made
    → new ≡ mid → more ≡ made → n ≡ m → AreTurned k now i entries old new l n more
no_more k now i entries old mid new l m n made more t e f g = record { world = e ∙ t.world; put_aside = f ∙ t.put_aside; listed = g ∙ t.listed ∙ ap (λ ms. listed_all l (entries_of ms)) (sym f) }
