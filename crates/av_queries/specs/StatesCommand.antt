-- What `states` prints. Which bytes the table and the files have, no clause can say.
use Rattle.std.specs.Prelude.{◌≡◌, ℕ, zero, suc, List, Option}
use Rattle.std.specs.Io.KnownBytes.{Appends}
use Rattle.av_types.specs.declared.position.Height.{Height}
use Rattle.av_rules.specs.Rows.{BlockTable}
use Rattle.av_region_files.specs.declared.files.RegionFile.{RegionFile}
use Rattle.av_census.specs.Census.{IsCensus}
use Rattle.av_census.specs.Listing.{listing}
use Rattle.av_census.specs.declared.counts.Census.{Census}
use Rattle.av_reports.specs.Output.{HasBegun}
use Rattle.av_commands.specs.Tables.{IsTableBy, IsWorldHeight}

-- the lines for a census of some region files, under the table that is named, and how many chunks it leaves out
pub record IsListingBy (name : Option (List ℕ)) (text : List ℕ) (left_out : ℕ) : Type 0 where
  pub table : Option BlockTable
  pub read : IsTableBy name table
  pub height : Height
  pub world : IsWorldHeight table height
  pub files : List RegionFile
  pub census : Census
  pub counted : IsCensus height files census
  pub printed : text ≡ listing table census.counts.items
  pub others : left_out ≡ census.left_out

-- the status, by how many chunks are left out
abbrev pub status_after : ℕ → ℕ
status_after zero = 0
status_after (suc n) = 1

-- What a call leaves on its output, and its status: the lines; their beginning and 1 where a write was refused; or nothing and 1.
pub data HasListed (name : Option (List ℕ)) (before after : Option (List ℕ)) (status : ℕ) : Type 0 where
  written : (text : List ℕ) (left_out : ℕ) → IsListingBy name text left_out → Appends before after text → status ≡ status_after left_out → HasListed name before after status
  unwritten : (text : List ℕ) (left_out : ℕ) → IsListingBy name text left_out → HasBegun before after text → status ≡ 1 → HasListed name before after status
  refused : after ≡ before → status ≡ 1 → HasListed name before after status
