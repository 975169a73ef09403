-- The parts of clusters.
use Rattle.std.proofs.Common.{◌≡◌, ℕ, zero, suc, ◌<◌, ◌≤◌, get_or, List, [], ◌∷◌, length, refl, sym, ap, arith}
use Rattle.av_play.specs.Parts.{part_at}
use Rattle.av_cluster.specs.Clusters.{parts_of, sections_of, sections_at}
use Rattle.av_cluster.specs.declared.cluster_part.Cluster.{Cluster}

pub part_there : (cs : List Cluster) (n : ℕ) (c : Cluster) → n < length cs → c ≡ get_or cs n c → part_at (parts_of cs) n ≡ c.entries.items
part_there [] n c l h = absurd (omega arith)
part_there (x ∷ cs) zero c l h = ap (λ (d : Cluster). d.entries.items) (sym h)
part_there (x ∷ cs) (suc n) c l h = part_there cs n c (omega arith) h

pub part_not_there : (cs : List Cluster) (n : ℕ) → length cs ≤ n → part_at (parts_of cs) n ≡ []
part_not_there [] n l = refl
part_not_there (x ∷ cs) zero l = absurd (omega arith)
part_not_there (x ∷ cs) (suc n) l = part_not_there cs n (omega arith)

pub sections_there : (cs : List Cluster) (n : ℕ) (c : Cluster) → n < length cs → c ≡ get_or cs n c → c.sections.items ≡ sections_at (sections_of cs) n
sections_there [] n c l h = absurd (omega arith)
sections_there (x ∷ cs) zero c l h = ap (λ (d : Cluster). d.sections.items) h
sections_there (x ∷ cs) (suc n) c l h = sections_there cs n c (omega arith) h
